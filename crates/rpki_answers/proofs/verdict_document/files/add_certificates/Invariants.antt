use Rattle.std.proofs.Common.{take}
use Rattle.rpki_document.specs.Building.{AddsSome}
use Rattle.rpki_answers.specs.Verdicts.{AreCertificates}
use Rattle.rpki_answers.proofs.verdict_document.files.add_certificates.Given as goal

abbrev pub invariant-loop-index : goal.invariant-loop-index
invariant-loop-index l =
    AddsSome (AreCertificates l.strict 0 (take l.index l.members)) l.fn.parts.items l.parts.items
