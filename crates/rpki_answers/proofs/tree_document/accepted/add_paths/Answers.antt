use Rattle.std.specs.Prelude.{codes}
use Rattle.std.proofs.Common.{rules, ◌≡◌, ◌≢◌, Bor, List, [], ◌∷◌, length, map, refl, arith}
use Rattle.rpki_document.specs.Documents.{Node, document_of, each}
use Rattle.rpki_document.proofs.Built.{ended_some, ended_with, none_added}
use Rattle.rpki_answers.specs.TreeDocuments.{AreAll, AreOtherPaths, ArePathNodes, shown_node}
use Rattle.rpki_folder.specs.declared.find.FoundPath.{FoundPath}
use Rattle.rpki_verdicts.specs.declared.unordered.Tree.{Tree}
use Rattle.rpki_answers.proofs.tree_document.accepted.add_paths.Goals as goal

none : (tree : Tree) (shown : FoundPath) (others : List (Bor FoundPath)) → length others ≡ 0 →
    AreAll tree shown (map (λ path. path.now) others) []
none tree shown [] is = refl
none tree shown (path ∷ others) is = absurd (omega (arith, is))

several : (tree : Tree) (shown : FoundPath) (others : List (Bor FoundPath)) (nodes : List Node) → length others ≢ 0 →
    AreOtherPaths tree shown (map (λ path. path.now) others) nodes
    → AreAll tree shown (map (λ path. path.now) others)
    (each (codes "paths") (document_of (shown_node tree shown.above.items ∷ nodes)) ∷ [])
several tree shown [] nodes some are = absurd (some refl)
several tree shown (path ∷ others) nodes some are = (nodes, are, refl)

pub returns-then-is_empty : goal.returns-then-is_empty
returns-then-is_empty c =
    none_added (ArePathNodes c.args.tree.now c.args.paths.now) c.args.parts.now.items
    (none c.args.tree.now c.args.paths.now.shown.now c.args.paths.now.others.items (search rules))

pub returns : goal.returns
returns c =
    let tree = c.args.tree.now in
    let shown = c.args.paths.now.shown.now in
    let others = c.args.paths.now.others.items in
    let added = c.in_ok-add_others.ensures in
    let are : AreOtherPaths tree shown (map (λ path. path.now) others) added.0 = rw c.deref-2.ensures.value at added.1 in
    let some : length others ≢ 0 = search rules in
    ended_some c.add_each.result (ArePathNodes tree c.args.paths.now)
    (each (codes "paths") (document_of (shown_node tree shown.above.items ∷ added.0)) ∷ [])
    c.args.parts.now.items c.add_each.new.parts.items (several tree shown others added.0 some are)
    (ended_with c.add_each.result _ _ _ c.add_each.ensures
    (rw (added.2, c.in_ok-add_shown_path.ensures, c.deref.ensures.value, c.new-all.ensures.items)))
