use Rattle.std.proofs.Common.{◌≡◌, ◌∙◌, [], inl, inr, refl, sym}
use Rattle.std.proofs.lemmas.Bool.{true≢false}
use Rattle.std.proofs.lemmas.Result.{on_ok_weaker}
use Rattle.rpki_files.specs.Contents.{BeginsWithCertificate, IsList}
use Rattle.rpki_command.specs.PassedFiles.{SaysIfPassed}
use Rattle.rpki_command.proofs.WrittenTexts.{appends_none}
use Rattle.rpki_command.proofs.passed.tell_if_passed.Goals as goal
use Rattle.rpki_command.proofs.passed.tell_if_passed.Goals.{then-is_certificate-via-then-is_certificate}
use Rattle.rpki_command.proofs.passed.tell_if_passed.Goals.{then-is_certificate-via-else-is_certificate+then-is_list}

-- a certificate or a list
pub returns-then-is_certificate : goal.returns-then-is_certificate
returns-then-is_certificate g c =
    let nothing : SaysIfPassed c.args.file.now [] = elim c.then-is_certificate.branch [
      | then-is_certificate-via-then-is_certificate w ↦ inl (inl (c.is_certificate.ensures.0 w.if-is_certificate.true), refl)
      | then-is_certificate-via-else-is_certificate+then-is_list w ↦ inl (inr (w.is_list.ensures.0 w.if-is_list.true), refl)
    ] in
    ([], nothing, appends_none (g.E.Write.contents c.args.err.now))

-- neither
pub returns : goal.returns
returns g c =
    let file = c.args.file.now in
    let no_certificate : BeginsWithCertificate file.octets →
    ⊥ = λ is. true≢false (sym (c.is_certificate.ensures.1 is) ∙ c.if-is_certificate.false) in
    let no_list : IsList file.octets → ⊥ = λ is. true≢false (sym (c.is_list.ensures.1 is) ∙ c.if-is_list.false) in
    let name : c.as_bytes.result.now ≡ file.name = c.as_bytes.ensures.value ∙ c.name.ensures in
    on_ok_weaker c.tell.result
    (λ told. (told.0, inr (no_certificate, no_list, (c.left.result, c.left.ensures, rw (told.1.1, name) at told.1.2)), told.2))
    c.tell.ensures
