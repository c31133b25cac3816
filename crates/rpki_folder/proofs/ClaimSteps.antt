-- What a certificate that names an issuer's key is to the issuer.
use Rattle.std.specs.List.{AllByRecursion}
use Rattle.std.specs.Prelude.{Bool, IsTrue}
use Rattle.std.proofs.Common.{◌≡◌, ◌↔◌, ℕ, List, [], ◌∷◌, ap, subst, ◌∙◌}
use Rattle.rpki_der.specs.Values.{IsUnambiguous}
use Rattle.rpki_der.proofs.Formats.{one_meant}
use Rattle.rpki_parts.specs.Signatures.{Verifies}
use Rattle.rpki_cert.specs.Certificates.{CertFields, IsCertificate}
use Rattle.rpki_cert.specs.Verification.{Context, ResourceFields, IsSignedBy}
use Rattle.rpki_path.specs.Asking.{RevocationChecks}
use Rattle.rpki_path.specs.NameChains.{IsNamedBelow}
use Rattle.rpki_folder.specs.Folders.{string_at, NamesSigner}
use Rattle.rpki_folder.specs.IssuerTables.{AreAllChildren}
use Rattle.rpki_folder.specs.NameTables.{ArePlacesUnder}
use Rattle.rpki_folder.specs.Walks.{Told, StandsAt, IsChildOf, IsNamedUnder}
use Rattle.rpki_folder.specs.Walks.Steps.{IsClaim, IsOther, IsToldOf, AreChildrenAmong}
use Rattle.rpki_folder.specs.declared.children.Claim.TheVariants.{OtherName, Child, Other}
use Rattle.rpki_folder.proofs.Descent.{there as low_of, child_names}

module _ (law : IsUnambiguous IsCertificate) (names : Bool) (verifies : Verifies) (issuer : CertFields)
    (certs : List (List ℕ)) (place : ℕ) where
  one : (c d : CertFields) → StandsAt certs place c → StandsAt certs place d → c ≡ d
  one c d a b = one_meant IsCertificate law c d (string_at certs place) a b

  named_one : (c : CertFields) → StandsAt certs place c → (IsTrue names → IsNamedBelow issuer c) →
      IsNamedUnder names issuer certs place
  named_one c stands named = λ asks d there. subst (λ (e : CertFields). IsNamedBelow issuer e)
      (one c d stands there) (named asks)

  -- one of another name has not this one
  pub other_name : IsClaim names verifies issuer certs place OtherName → IsNamedUnder names issuer certs place → ⊥
  other_name (c, stands, claim) named = claim.1 (named claim.0 c stands)

  -- a child
  pub a_child : IsClaim names verifies issuer certs place Child →
      NamesSigner issuer.fields.extensions.subject_key_identifier (string_at certs place) →
      IsNamedUnder names issuer certs place × IsChildOf verifies issuer certs place
  a_child (c, stands, claim) names_it = (
    named_one c stands claim.0,
    record {
      cert = c;
      stands = stands;
      names_key = ap (λ (d : CertFields). d.fields.extensions.authority_key_identifier)
          (one c names_it.cert stands names_it.begins) ∙ names_it.names;
      signed = claim.1;
      one_algorithm = claim.2;
    },
  )

  module _ (signed : Bool) (claim : IsClaim names verifies issuer certs place (Other signed)) where
    -- whether its key signed another one
    pub known_of : (c : CertFields) → StandsAt certs place c →
        IsTrue signed ↔ IsSignedBy verifies issuer.fields.key c.signed_data
    known_of c stands = subst (λ (d : CertFields). IsTrue signed ↔ IsSignedBy verifies issuer.fields.key
        d.signed_data) (one claim.0 c claim.1 stands) claim.2.1

    pub no_child : IsChildOf verifies issuer certs place → ⊥
    no_child child =
        let same = one child.cert claim.0 child.stands claim.1 in
        let h = subst (λ (d : CertFields). IsSignedBy verifies issuer.fields.key d.signed_data ×
        (d.fields.algorithm ≡ d.signed_data.signature.algorithm)) same (child.signed, child.one_algorithm) in
        claim.2.2 h.0 h.1

    pub an_other : (admits : List ℕ → ℕ → Type 0) (above : List ℕ) → admits above place →
        IsOther verifies names admits issuer certs above place
    an_other admits above let_in = ((let_in, named_one claim.0 claim.1 claim.2.0), no_child)

-- what was told of the certificate at a place, if it is let in, is told of such
pub told_weaker : (x : Context) (asked : RevocationChecks) (issuer : ResourceFields) (certs : List (List ℕ))
    (above : List ℕ) (P Q : ℕ → Type 0) → ((p : ℕ) → P p → Q p) → (ts : List Told) →
    AllByRecursion (IsToldOf x asked issuer certs above P) ts →
    AllByRecursion (IsToldOf x asked issuer certs above Q) ts
told_weaker x asked issuer certs above P Q weaker [] h = tt
told_weaker x asked issuer certs above P Q weaker (t ∷ ts) h =
    ((h.0.0, weaker t.place h.0.1, h.0.2), told_weaker x asked issuer certs above P Q weaker ts h.1)

-- of the places below the issuer, the children are all children
pub all_children : (names : Bool) (verifies : Verifies) (issuer : CertFields) (certs : List (List ℕ))
    (places children : List ℕ) → ArePlacesUnder names issuer certs places
    → AreChildrenAmong verifies (λ p. IsNamedUnder names issuer certs p) issuer certs places children →
    AreAllChildren names verifies issuer certs children
all_children names verifies issuer certs places children are a = record {
  inside = λ p at. are.inside p (a.from p at);
  named = λ p at. (a.only p at).0;
  child = λ p at. (a.only p at).1;
  all = λ p named child.
      a.all p (are.all p (low_of certs child.cert p child.stands) (child_names verifies issuer certs p child)
      named) named child;
  once = a.once;
}
