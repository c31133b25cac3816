use Rattle.rpki_document.proofs.Built.{ended_some, none_added}
use Rattle.std.specs.Prelude.{Option, Some, None}
use Rattle.std.proofs.Common.{ℕ, refl}
use Rattle.rpki_cert.specs.Certificates.{IsCertificate}
use Rattle.rpki_answers.specs.Verdicts.{IsLeft, behind_certificate, left_nodes}
use Rattle.rpki_answers.proofs.verdict_document.files.add_left_of_member.Goals as goal

pub returns-in-Some : goal.returns-in-Some
returns-in-Some c =
    let file = c.args.member.now in
    let left : Option ℕ = Some c.in-Some.left in
    let found = rw c.in-Some.is at c.certificate.ensures in
    ended_some c.add_left.result (IsLeft IsCertificate behind_certificate file) (left_nodes behind_certificate file.name left)
    c.args.parts.now.items c.add_left.new.parts.items (left, (_, found.0, found.1, found.2), refl)
    (rw c.name.ensures at c.add_left.ensures)

pub returns-in-None : goal.returns-in-None
returns-in-None c =
    let file = c.args.member.now in
    let left : Option ℕ = None in
    none_added (IsLeft IsCertificate behind_certificate file) c.args.parts.now.items (left, rw c.in-None.is at c.certificate.ensures, refl)
