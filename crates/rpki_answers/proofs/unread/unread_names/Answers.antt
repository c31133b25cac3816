use Rattle.std.proofs.Common.{◌∙◌, ◌+◌, ◌++◌, Bor, ℕ, List, drop, map, ap}
use Rattle.std.proofs.lemmas.List.{drop_more}
use Rattle.rpki_answers.specs.UnreadNames.{unread_names}
use Rattle.rpki_answers.proofs.unread.unread_names.Goals as goal

pub loop-name-preserved : goal.loop-name-preserved
loop-name-preserved c =
    let l = c.loop-name in
    let names = c.args.names.now in
    let now : List (Bor (List ℕ)) → List (List ℕ) = map (λ n. n.now) in
    l.invariant
    ∙ ap (λ (ns : List (Bor (List ℕ))). now l.unread.items ++ unread_names (now ns) (drop l.next c.args.files.now))
    (drop_more names l.name-index _ c.loop-name-test.true)
    ∙ c.in_ok-next.ensures (now (drop (l.name-index + 1) names))
