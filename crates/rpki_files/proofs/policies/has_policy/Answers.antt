use Rattle.std.proofs.Common.{subst}
use Rattle.std.proofs.lemmas.Bool.{false≢true}
use Rattle.rpki_blocks.specs.declared.overclaim.Overclaim.{Overclaim}
use Rattle.rpki_der.specs.Encoding.{Means}
use Rattle.rpki_der.specs.Place.{remaining}
use Rattle.rpki_der.proofs.FormatAnswers.{alone_means}
use Rattle.rpki_der.proofs.Formats.{one_meant}
use Rattle.rpki_ext.specs.ExtensionKinds.{certificate_policies}
use Rattle.rpki_ext.proofs.CertificateExtensions.{certificate_policies_alone}
use Rattle.rpki_files.proofs.policies.has_policy.Goals as goal

pub returns-in-Ok : goal.returns-in-Ok
returns-in-Ok c =
    let a = c.args in
    let octets = remaining a.content.now in
    let encodes = certificate_policies.format.encodes in
    let other = c.in-Ok.other in
    let here : Means encodes other octets = (remaining c.take_certificate_policies.new.cursor, c.in-Ok.ensures.encoded) in (
      (λ yes. subst (λ (m : Overclaim). Means encodes m octets) (c.is_mode.ensures.0 yes) here),
      (λ means. c.is_mode.ensures.1
          (one_meant encodes (alone_means certificate_policies.format certificate_policies_alone) other a.mode
          octets here means)),
    )

pub returns-in-Err : goal.returns-in-Err
returns-in-Err c = ((λ no. absurd (false≢true no)), (λ means. absurd (c.in-Err.ensures.encoded.1 c.args.mode means.0 means.1)))
