use Rattle.std.proofs.Common.{◌≡◌, length}
use Rattle.rpki_der.specs.Place.{remaining}
use Rattle.rpki_der.specs.Folding.{over}
use Rattle.rpki_der.specs.Extensions.{extension_format}
use Rattle.rpki_ext.specs.CertificateExtensions.{all_kinds, state_of}
use Rattle.rpki_ext.proofs.extensions.ReadExtensions.from_row.Given as goal

abbrev pub invariant-loop-rest : goal.invariant-loop-rest
invariant-loop-rest l = over extension_format.read all_kinds.step (state_of l.seen) (remaining l.rest) ≡
    over extension_format.read all_kinds.step all_kinds.start (remaining l.elements)

abbrev pub decreases-loop-rest : goal.decreases-loop-rest
decreases-loop-rest l = length (remaining l.rest)
