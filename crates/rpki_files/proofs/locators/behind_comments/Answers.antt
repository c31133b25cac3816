use Rattle.std.proofs.Common.{rules, tests, nat_eq, not}
use Rattle.std.proofs.lemmas.Iterator.Search.{find_from_yields_List}
use Rattle.std.proofs.lemmas.Iterator.Splits.{YieldsList-from_slice_split}
use Rattle.rpki_files.specs.LocatorFiles.{stands_before_uris}
use Rattle.rpki_files.proofs.locators.behind_comments.Goals as goal

pub returns : goal.returns
returns c =
    find_from_yields_List (λ line. not (stands_before_uris line)) _ _ c.find.result c.find.ensures.ran
    (YieldsList-from_slice_split _ (λ x. nat_eq x 10) c.args.octets.now c.split.ensures.rest c.split.ensures.done
    c.split.ensures.closure (λ x b q k. search (rules, tests))) (λ x b q k. search (rules, tests))
