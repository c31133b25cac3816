-- Keys of the certificates that strings begin with.
use Rattle.std.specs.Prelude.{◌↔◌, All, Bool, false, IfOk, IsTrue, Option, Result, Ok, Err}
use Rattle.std.proofs.Common.{◌≡◌, ◌≢◌, ◌<◌, ◌+◌, ℕ, List, get_or, length, take, sym, ap, subst, ◌∙◌}
use Rattle.std.proofs.lemmas.Bool.{false≢true}
use Rattle.std.proofs.lemmas.List.Elements.{All-get_or, All-more}
use Rattle.rpki_cert.specs.Certificates.{CertFields, IsCertificate}
use Rattle.rpki_cert.specs.Verification.{ResourceFields}
use Rattle.rpki_der.proofs.Answering.{memory_alone}
use Rattle.rpki_der.proofs.Formats.{one_meant}
use Rattle.rpki_der.specs.Place.{Rejects}
use Rattle.rpki_der.specs.Values.{IsUnambiguous}
use Rattle.rpki_der.specs.declared.error.DecodeError.{DecodeError}
use Rattle.rpki_der.specs.declared.error.DecodeError.TheVariants as decoding
use Rattle.rpki_ext.specs.Kinds.{Means}
use Rattle.rpki_issuing.specs.IssuingRules.{CertifiesKey, IsNoKeyOf, IsNotIssuersKey}
use Rattle.rpki_parts.specs.Keys.{KeyFields}

module _ (key : KeyFields) where
  -- octets that begin with a certificate certify its key alone
  pub certified : IsUnambiguous IsCertificate → (c : CertFields) (octets : List ℕ) (is : Bool)
      → Means IsCertificate c octets → (IsTrue is ↔ (c.fields.key ≡ key)) → IsTrue is ↔ CertifiesKey key octets
  certified one c octets is begins same = (
    (λ yes. (c, begins, same.0 yes)),
    (λ h. same.1 (ap (λ (d : CertFields). d.fields.key) (one_meant IsCertificate one c h.0 octets begins h.1) ∙ h.2)),
  )

  -- those that begin with none certify no key
  pub uncertified : (e : DecodeError) → e ≢ decoding.Memory → (octets : List ℕ)
      → Rejects e ((c : CertFields) → Means IsCertificate c octets → ⊥) → IsTrue false ↔ CertifiesKey key octets
  uncertified e not octets rejected = (
    (λ yes. absurd (false≢true yes)),
    (λ h. absurd (not (memory_alone e rejected (λ none. none h.0 h.1)))),
  )

  abbrev pub Apart : List ℕ → Type 0
  Apart octets = CertifiesKey key octets → ⊥

  module _ (path : List (List ℕ)) (i : ℕ) (octets : List ℕ) (low : i < length path)
      (is : octets ≡ get_or path i octets) where
    -- the key of one of the strings
    pub key_there : CertifiesKey key octets → IsTrue false ↔ IsNoKeyOf path key
    key_there there = (
      (λ yes. absurd (false≢true yes)),
      (λ all. absurd (subst Apart (sym is) (All-get_or Apart path i octets low all) there)),
    )

    -- one string more of which it isn't
    pub none_further : All Apart (take i path) → Apart octets → All Apart (take (i + 1) path)
    none_further all not = All-more Apart path i octets low all (subst Apart is not)

  -- the issuer hasn't the key either
  pub own_too : {E : Type 0} (issuer : Option ResourceFields) (path : List (List ℕ)) → IsNotIssuersKey issuer key →
      (r : Result Bool E) → IfOk r (λ is. IsTrue is ↔ IsNoKeyOf path key)
      → IfOk r (λ is. IsTrue is ↔ IsNotIssuersKey issuer key × IsNoKeyOf path key)
  own_too issuer path not (Ok is) h = ((λ yes. (not, h.0 yes)), (λ both. h.1 both.1))
  own_too issuer path not (Err e) h = tt
