use Rattle.std.proofs.Common.{rules, tests}
use Rattle.std.proofs.lemmas.Iterator.Splits.{YieldsList-from_slice_split}
use Rattle.std.proofs.lemmas.Iterator.Search.{all_from_yields_List}
use Rattle.rpki_parts.specs.Uris.Tests.{is_slash, is_segment}
use Rattle.rpki_parts.proofs.uri.has_no_dots.Goals as goal

pub returns : goal.returns
returns c =
    all_from_yields_List is_segment _ _ _ c.all.ensures.ran
    (YieldsList-from_slice_split _ is_slash c.args.path.now c.split.ensures.rest c.split.ensures.done
    c.split.ensures.closure (λ x b q k. search (rules, tests))) (λ x b q k. search (rules, tests))
