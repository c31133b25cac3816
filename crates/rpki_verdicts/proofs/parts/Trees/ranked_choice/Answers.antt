use Rattle.std.specs.List.{AllByRecursion}
use Rattle.std.specs.Prelude.{false}
use Rattle.std.proofs.Common.{◌≡◌, ◌∙◌, ◌-◌, ◌++◌, List, [], ◌∷◌, sym, ap, subst}
use Rattle.rpki_folder.specs.KeptLines.{has_path, most_paths, paths_in}
use Rattle.rpki_verdicts.specs.ShownPaths.{named_in, placed_of}
use Rattle.rpki_verdicts.specs.ShownPaths.Steps.{IsRanked}
use Rattle.rpki_verdicts.specs.declared.shown_paths.RankedPath.{RankedPath}
use Rattle.rpki_verdicts.proofs.NamedChoice.{choice_changed, each_changed}
use Rattle.rpki_verdicts.proofs.parts.Trees.ranked_choice.Goals as goal

pub returns-clause-paths : goal.returns-clause-paths
returns-clause-paths c =
    let tree = c.args.tree.now in
    let paths = paths_in c.args.paths.now in
    let path = c.in-Some.path.now in
    let all = c.in_ok-all.all.items in
    let last = c.in_ok-named.named in
    let other : has_path paths path.above.items ≡ false =
    ap (λ (l : List _). has_path paths l) (sym c.deref.ensures.value) ∙ sym c.has_path.ensures ∙ c.if-has_path.false in
    choice_changed paths path (named_in tree c.args.place) c.in-Some.ensures other all c.push.new.self.items last
    c.in_ok-all.ensures.paths
    (c.in_ok-push.ensures.items ∙ ap (λ (l : List RankedPath). l ++ last ∷ []) c.truncate.ensures.items)
    c.in_ok-named.ensures.path

pub returns-clause-ranked : goal.returns-clause-ranked
returns-clause-ranked c =
    let P = IsRanked (placed_of c.args.self.now) c.args.tree.now c.args.place in
    let all = c.in_ok-all.all.items in
    let last = c.in_ok-named.named in
    subst (λ (l : List RankedPath). AllByRecursion P l)
    (sym (c.in_ok-push.ensures.items ∙ ap (λ (l : List RankedPath). l ++ last ∷ []) c.truncate.ensures.items))
    (each_changed P (most_paths - 1) all last c.in_ok-all.ensures.ranked c.in_ok-named.ensures.ranked)
