use Rattle.std.specs.List.{AllZip}
use Rattle.std.proofs.Common.{◌≡◌, ◌∙◌, ◌+◌, Bor, List, [], ◌∷◌, ◌++◌, map, take, refl, sym, ap, subst}
use Rattle.std.proofs.lemmas.List.{map-append, take_more}
use Rattle.rpki_document.specs.Building.{Adds}
use Rattle.rpki_document.specs.Documents.{Node}
use Rattle.rpki_document.proofs.Built.{then_added}
use Rattle.rpki_answers.specs.TreeDocuments.{AreOtherPaths, IsOtherPath, also_node}
use Rattle.rpki_folder.specs.declared.find.FoundPath.{FoundPath}
use Rattle.rpki_answers.proofs.tree_document.accepted.add_others.Goals as goal

one_more : (R : FoundPath → Node → Type 0) (paths : List FoundPath) (nodes : List Node) (path : FoundPath)
    (node : Node) → AllZip R paths nodes → R path node → AllZip R (paths ++ path ∷ []) (nodes ++ node ∷ [])
one_more R [] [] path node zip one = (one, tt)
one_more R [] (n ∷ nodes) path node zip one = absurd zip
one_more R (p ∷ paths) [] path node zip one = absurd zip
one_more R (p ∷ paths) (n ∷ nodes) path node zip one = (zip.0, one_more R paths nodes path node zip.1 one)

pub loop-path-preserved : goal.loop-path-preserved
loop-path-preserved c =
    let l = c.loop-path in
    let tree = c.args.tree.now in
    let shown = c.args.shown.now in
    let others = c.args.others.now in
    let i = l.path-index in
    let path = c.path-item.result in
    let same = c.hold_same.result in
    let node = also_node tree path.now.above.items same in
    let so_far = l.invariant in
    let now : List (Bor FoundPath) → List FoundPath = λ paths. map (λ path. path.now) paths in
    let more : now (take (i + 1) others) ≡ now (take i others) ++ path.now ∷ [] =
    ap now (take_more others i path c.loop-path-test.true) ∙ map-append (λ (p : Bor FoundPath). p.now) (take i others)
    (_ ∷ []) ∙ ap (λ (p : Bor FoundPath). now (take i others) ++ p.now ∷ []) (sym c.path-item.is) in
    let one : Adds (node ∷ []) l.parts.items c.add_path.new.parts.items = rw c.deref.ensures.value at c.in_ok-add_path.ensures in (
      so_far.0 ++ node ∷ [],
      subst (λ (paths : List FoundPath). AreOtherPaths tree shown paths (so_far.0 ++ node ∷ [])) (sym more)
          (one_more (IsOtherPath tree shown) (now (take i others)) so_far.0 path.now node so_far.1 (same, c.hold_same.ensures, refl)),
      then_added c.args.parts.now.items l.parts.items c.add_path.new.parts.items so_far.0 (node ∷ []) so_far.2 one,
    )
