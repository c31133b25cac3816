use Rattle.std.proofs.Common.{◌∷◌, [], ◌++◌, List, map, ap, ◌∙◌}
use Rattle.std.proofs.lemmas.List.{map-append}
use Rattle.rpki_verdicts.proofs.search.Search.path_named.Goals as goal

pub returns : goal.returns
returns c =
    let pushed = c.in_ok-reach.ensures in (
      pushed.0,
      pushed.1,
      ap (λ (l : List _). map (λ f. f.now) l) c.in_ok-push.ensures.items ∙
          map-append (λ f. f.now) c.push_above.new.path.items (c.args.file ∷ [])
          ∙ ap (λ (l : List _). l ++ c.args.file.now ∷ [])
          (pushed.2 ∙ ap (λ (l : List _). map (λ f. f.now) l ++ pushed.0) c.new-path.ensures.items),
    )
