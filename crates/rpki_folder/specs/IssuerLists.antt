-- What is kept of lists for one issuer, so that each is verified once, and not once for each
-- certificate below the issuer (own).
use Rattle.std.specs.Prelude.{◌≡◌, ◌⊎◌, Bool, List, [], ◌∷◌, Some, Result, Err, Contains, IsTrue}
use Rattle.rpki_der.specs.Times.{Moment}
use Rattle.rpki_parts.specs.Conditions.{IsFirstFalse}
use Rattle.rpki_parts.specs.Signatures.{Verifies}
use Rattle.rpki_cert.specs.Certificates.{TbsFields, CertFields}
use Rattle.rpki_cert.specs.Verification.{Context, IsSignedBy}
use Rattle.rpki_crl.specs.Lists.{CrlState}
use Rattle.rpki_crl.specs.Revocation.{NamesIssuer, revocation_checks}
use Rattle.rpki_crl.specs.declared.revocation_error.RevocationError.{RevocationError}
use Rattle.rpki_path.specs.AskedLists.{HasBegun, IsNamedBy, IsEligibleNamed, HaveNone, IsLatest, IsSaidBy}
use Rattle.rpki_path.specs.AskedLists.{by_named_lists}

-- the second list has those elements of the first that have P, in their order
abbrev pub ArePicked : {X : Type 0} → (X → Type 0) → List X → List X → Type 0
ArePicked {X} P [] those = those ≡ []
ArePicked {X} P (x ∷ xs) those =
    ((rest : List X) × P x × (those ≡ x ∷ rest) × ArePicked P xs rest)
    ⊎ ((P x → ⊥) × ArePicked P xs those)

-- the issuer's key signed the list, and its time has begun
abbrev pub IsCurrent : Verifies → Moment → TbsFields → CrlState → Type 0
IsCurrent verifies now issuer l =
    IsSignedBy verifies issuer.key l.list.signed_data × HasBegun now l.list

-- the list has the issuer's name, if names are asked
abbrev pub HasName : Bool → TbsFields → CrlState → Type 0
HasName names issuer l = IsTrue names → IsNamedBy issuer l.list

-- the list names the issuer's key, and has its name, if names are asked
abbrev pub IsOfIssuer : Bool → TbsFields → CrlState → Type 0
IsOfIssuer names issuer l = NamesIssuer issuer l.list × HasName names issuer l

-- the list can be asked of the certificates below the issuer
abbrev pub CanBeAsked : Bool → Verifies → Moment → TbsFields → CrlState → Type 0
CanBeAsked names verifies now issuer l =
    IsOfIssuer names issuer l × IsCurrent verifies now issuer l

-- the issuer's key signed one of the lists that name it, of whatever name
abbrev pub HasSigned : Verifies → List CrlState → TbsFields → Type 0
HasSigned verifies lists issuer =
    (l : CrlState) × Contains lists l × NamesIssuer issuer l.list
    × IsSignedBy verifies issuer.key l.list.signed_data

-- the certificate names the issuer's key as the one that signs it
abbrev pub IsBelow : TbsFields → CertFields → Type 0
IsBelow issuer c =
    c.fields.extensions.authority_key_identifier ≡ Some issuer.extensions.subject_key_identifier

-- what is kept: the lists that can be asked, and what a certificate fails where there are none
pub record IssuerFields : Type 0 where
  pub eligible : List CrlState
  pub otherwise : RevocationError

-- where none of the lists is eligible, each certificate below the issuer fails this check first
abbrev pub FailsWithout : Bool → Context → List CrlState → TbsFields → RevocationError → Type 0
FailsWithout names x lists issuer e = (c : CertFields) → IsBelow issuer c
    → HaveNone (IsEligibleNamed names x.verifies x.now issuer c) lists
    → IsFirstFalse (by_named_lists names x lists issuer c) revocation_checks e

-- they are what is to be kept of the lists for the issuer
pub record AreIssuerLists (names : Bool) (x : Context) (lists : List CrlState) (issuer : TbsFields)
    (kept : IssuerFields) : Type 0 where
  pub eligible : ArePicked (CanBeAsked names x.verifies x.now issuer) lists kept.eligible
  pub otherwise : FailsWithout names x lists issuer kept.otherwise

-- ---- one certificate

-- of these lists a latest one for the certificate, which is asked of it
abbrev pub IsLatestOf : CertFields → List CrlState → CrlState → Type 0
IsLatestOf c lists l = IsLatest (λ _. Unit {0}) c lists l

-- what is answered of a certificate by what was kept
abbrev pub IsAnswered : {T : Type 0} → IssuerFields → Moment → CertFields
    → Result T RevocationError → Type 0
IsAnswered kept now c r =
    ((kept.eligible ≡ []) × (r ≡ Err kept.otherwise))
    ⊎ ((l : CrlState) × IsLatestOf c kept.eligible l × IsSaidBy now c l r)
