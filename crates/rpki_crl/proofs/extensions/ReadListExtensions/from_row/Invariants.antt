use Rattle.std.proofs.Common.{◌≡◌, length}
use Rattle.rpki_der.specs.Place.{remaining}
use Rattle.rpki_der.specs.Folding.{over}
use Rattle.rpki_der.specs.Extensions.{extension_format}
use Rattle.rpki_crl.specs.ListExtensions.{list_fold}
use Rattle.rpki_crl.specs.ListExtensions.Views.{sights_of}
use Rattle.rpki_crl.proofs.extensions.ReadListExtensions.from_row.Given as goal

abbrev pub invariant-loop-rest : goal.invariant-loop-rest
invariant-loop-rest l = over extension_format.read list_fold.step (sights_of l.seen) (remaining l.rest) ≡
    over extension_format.read list_fold.step list_fold.start (remaining l.elements)

abbrev pub decreases-loop-rest : goal.decreases-loop-rest
decreases-loop-rest l = length (remaining l.rest)
