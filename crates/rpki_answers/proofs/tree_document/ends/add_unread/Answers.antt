use Rattle.std.specs.Prelude.{codes}
use Rattle.std.proofs.Common.{◌∙◌, Bor, ℕ, List, [], ◌∷◌, ◌++◌, map, sym, ap}
use Rattle.std.proofs.lemmas.List.{take_all}
use Rattle.rpki_document.specs.Building.{nodes_of}
use Rattle.rpki_document.specs.Documents.{Node, characters, document_of, each, kept_node}
use Rattle.rpki_document.proofs.Built.{ended_with}
use Rattle.rpki_answers.proofs.TreeRowsInOrder.{mapped_twice, node_more}
use Rattle.rpki_answers.proofs.tree_document.ends.add_unread.Goals as goal

pub loop-name-preserved : goal.loop-name-preserved
loop-name-preserved c =
    let l = c.loop-name in
    node_more (λ (n : Bor (List ℕ)). kept_node [] (characters n.now)) c.args.unread.now l.name-index _ [] l.names.items
    c.add_kept.new.parts.items
    c.loop-name-test.true l.invariant c.in_ok-add_kept.ensures

pub returns : goal.returns
returns c =
    let l = c.loop-name in
    let old = nodes_of c.args.parts.now.items in
    let names = c.args.unread.now in
    let f = λ (n : Bor (List ℕ)). kept_node [] (characters n.now) in
    let all = l.invariant ∙ ap (λ (ns : List (Bor (List ℕ))). map f ns) (take_all l.name-index names c.loop-name-test.false)
    ∙ sym (mapped_twice (λ (name : List ℕ). kept_node [] (characters name)) (λ (n : Bor (List ℕ)). n.now) names) in
    ended_with c.add_each.result _ _ _ c.add_each.ensures (ap (λ (ns : List Node). old ++ each (codes "unread") (document_of ns) ∷ []) all)
