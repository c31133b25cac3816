-- The locator of a file's certificate.
use Rattle.std.specs.Prelude.{Any, IfNone, IfSome, IsOkAnd, Option, Some, None, Result}
use Rattle.std.proofs.Common.{◌≡◌, List, sym, ap, subst, ◌∙◌}
use Rattle.rpki_cert.specs.Certificates.{CertFields, IsCertificate}
use Rattle.rpki_der.specs.Encoding.{Means}
use Rattle.rpki_parts.specs.Keys.{KeyFields}
use Rattle.rpki_keys.specs.Locators.{NamedTal}
use Rattle.rpki_keys.specs.declared.tal.tal_error.TalError.{TalError}
use Rattle.rpki_der.specs.Values.{IsUnambiguous}
use Rattle.rpki_der.proofs.Formats.{one_meant}
use Rattle.rpki_files.specs.Files.{FileFields}
use Rattle.rpki_verdicts.specs.GivenLocators.{LocatorFields, HasKeyRead, HasLocator, HasTalRead, IsAnchorOf}

module _ (locators : List LocatorFields) (file : FileFields) (cert : CertFields)
    (begins : Means IsCertificate cert file.octets) (key : KeyFields) (key_is : key ≡ cert.fields.key) where
  -- what was read of a locator of its key
  pub anchor_found : {X : Type 0} (now : X → NamedTal) (o : Option X) →
      IfSome o (λ t. HasTalRead locators key (now t)) → IfSome o (λ t. IsAnchorOf locators (now t) file)
  anchor_found now None h = tt
  anchor_found now (Some t) h = (h.0, record { cert = cert; begins = begins; key_is = sym key_is ∙ h.1 })

  no_other : IsUnambiguous IsCertificate → (Any (HasKeyRead key) locators → ⊥) → HasLocator locators file → ⊥
  no_other one none has =
      let t = has.0 in
      let l = has.1.0 in
      let b = has.1.1 in
      let same : b.cert ≡ cert = one_meant IsCertificate one b.cert cert file.octets b.begins begins in
      let same_key : key ≡ t.tal.key = key_is ∙ sym (ap (λ (c : CertFields). c.fields.key) same) ∙ b.key_is in
      none (l.0, l.1, l.2, l.3, subst (λ (r : Result NamedTal TalError). IsOkAnd r (λ t. key ≡ t.tal.key)) (sym l.4) same_key)

  -- where none is found, there is none
  pub none_found : IsUnambiguous IsCertificate → {X : Type 0} (o : Option X) →
      IfNone o (Any (HasKeyRead key) locators → ⊥) → IfNone o (HasLocator locators file → ⊥)
  none_found one None none = no_other one none
  none_found one (Some t) none = tt

-- a file without a certificate has none
pub none_of_no_certificate : (locators : List LocatorFields) (file : FileFields) →
    ((c : CertFields) → Means IsCertificate c file.octets → ⊥) → HasLocator locators file → ⊥
none_of_no_certificate locators file none has = none has.1.1.cert has.1.1.begins
