use Rattle.std.proofs.Common.{◌≡◌, ◌<◌, ◌^◌, ℕ, List, length, true, sym, ap, subst, ◌∙◌}
use Rattle.rpki_der.specs.Times.{Moment}
use Rattle.rpki_parts.specs.Algorithms.{Algorithm}
use Rattle.rpki_parts.specs.Keys.{KeyFields}
use Rattle.rpki_parts.specs.Signatures.{SignatureFields, IsStandInSignature}
use Rattle.rpki_parts.specs.SignedDatas.{signed_content}
use Rattle.rpki_cert.specs.Certificates.{TbsFields, CertFields, CanBeWritten, encoding}
use Rattle.rpki_cert.specs.Issuing.{made_with}
use Rattle.rpki_cert.specs.Validation.{IsValidBelow}
use Rattle.rpki_cert.specs.Verification.{ResourceFields, context}
use Rattle.rpki_cert.specs.declared.inspect.Kind.TheVariants.{Authority}
use Rattle.rpki_calls.specs.Issuable.{IsFit, IsIssuable}
use Rattle.rpki_calls.proofs.making.is_issuable.Goals as goal

-- what was made of the fields is what is made of them with any signature that is the same
made_again : (f : TbsFields) (c : CertFields) (s : SignatureFields) → c.fields ≡ f → c.signed_data.message ≡ encoding f
    → c.signed_data.signature.algorithm ≡ s.algorithm → c.signed_data.signature.value ≡ s.value → c ≡ made_with f s
made_again f c s fields message algorithm value =
    ap (λ (g : TbsFields). let d : CertFields = record { fields = g; signed_data = c.signed_data } in d) fields
    ∙ ap (λ (m : List ℕ). let d : CertFields =
    record { fields = f; signed_data = record { message = m; signature = c.signed_data.signature } } in
    d) message
    ∙ ap (λ (a : Algorithm). made_with f (record { algorithm = a; value = c.signed_data.signature.value })) algorithm
    ∙ ap (λ (v : List ℕ). made_with f (record { algorithm = s.algorithm; value = v })) value

-- a certificate that the stand-in signed shows that its fields can be issued
issuable : (f : TbsFields) (key : KeyFields) (issuer r : ResourceFields) (now : Moment) → CanBeWritten f →
    r.cert.fields ≡ f → r.cert.signed_data.message ≡ encoding f
    → (r.cert.signed_data.signature.algorithm ≡ f.algorithm) × IsStandInSignature key f.algorithm (encoding f)
    r.cert.signed_data.signature.value
    → length (signed_content r.cert.signed_data) < 2 ^ 32 →
    IsValidBelow (context IsStandInSignature now true) issuer Authority r.cert r → IsIssuable f key issuer now
issuable f key issuer r now written fields message signed short valid =
    let fit : IsFit issuer now r.cert = record { short = short; meets = valid.meets; checks = valid.checks } in
    record {
      written = written;
      fit = λ s algorithm value.
          subst (IsFit issuer now) (made_again f r.cert s fields message (signed.0 ∙ sym algorithm) (signed.1 ∙ sym value)) fit;
    }

pub returns-in-Ok-issue_ca : goal.returns-in-Ok-issue_ca
returns-in-Ok-issue_ca c short =
    let issued = c.in-Ok-issue_ca.issued in
    let says = c.in-Ok-issue_ca.ensures in
    let fits : length (signed_content issued.cert.signed_data) < 2 ^ 32 =
    rw c.as_cert.ensures at (c.to_captured.ensures.fits (sym c.is_ok-is_short.ensures.value ∙ short)) in
    subst (λ (f : TbsFields). IsIssuable f c.args.key.now c.args.issuer.now c.args.now) c.in-Ok.ensures
    (issuable c.in-Ok.copy c.args.key.now c.args.issuer.now issued c.args.now says.written says.fields says.message
    says.signed fits says.valid)
