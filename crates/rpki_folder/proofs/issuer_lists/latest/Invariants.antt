use Rattle.std.specs.Prelude.{option_copied}
use Rattle.std.proofs.Common.{map, take}
use Rattle.rpki_path.specs.AskedLists.Steps.{IsLatestIfAny}
use Rattle.rpki_folder.proofs.issuer_lists.latest.Given as goal

abbrev pub invariant-loop-list : goal.invariant-loop-list
invariant-loop-list l = IsLatestIfAny (λ _. Unit {0}) l.cert (map (λ r. r.now) (take l.list-index l.lists))
    (option_copied l.kept)
