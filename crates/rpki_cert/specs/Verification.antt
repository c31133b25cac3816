-- What is verified of a certificate, check by check (RFC 6487 7.2, RFC 8360 4.2.4.4; own: the order
-- of the checks, and that revocation and the chaining of names are the caller's to ask).
use Rattle.std.specs.Prelude.{◌≡◌, ◌≢◌, ◌↔◌, ◌⊎◌, ◌≤◌, ◌^◌, ◌-◌, ℕ, Bool, List, [], ◌∷◌, IsSome, IfSome, Result, Ok, Err, codes}
use Rattle.std.specs.List.{AllByRecursion}
use Rattle.rpki_der.specs.Times.{Moment}
use Rattle.rpki_blocks.specs.Sets.{Block, Has, IsSet}
use Rattle.rpki_blocks.specs.Resources.{Resources, inherit}
use Rattle.rpki_blocks.specs.IssuedSets.{IsListed, IsIssued}
use Rattle.rpki_blocks.specs.declared.overclaim.Overclaim.{Overclaim}
use Rattle.rpki_blocks.specs.declared.overclaim.Overclaim.TheVariants.{Refuse}
use Rattle.rpki_parts.specs.Conditions.{IsFirstFalse}
use Rattle.rpki_parts.specs.Keys.{KeyFields}
use Rattle.rpki_parts.specs.Signatures.{Verifies}
use Rattle.rpki_parts.specs.SignedDatas.{SignedFields}
use Rattle.rpki_parts.specs.ValidAt.{IsInTime}
use Rattle.rpki_parts.specs.declared.valid_at.ValidityError.TheVariants as time
use Rattle.rpki_cert.specs.Certificates.{TbsFields, CertFields}
use Rattle.rpki_cert.specs.declared.verification_error.VerificationError.{VerificationError}
use Rattle.rpki_cert.specs.declared.verification_error.VerificationError.TheVariants.{NotYetValid, Expired}
use Rattle.rpki_cert.specs.declared.verification_error.VerificationError.TheVariants.{InheritedV4, InheritedV6}
use Rattle.rpki_cert.specs.declared.verification_error.VerificationError.TheVariants.{InheritedAs}
use Rattle.rpki_cert.specs.declared.verification_error.VerificationError.TheVariants.{MissingKeyId, WrongKeyId}
use Rattle.rpki_cert.specs.declared.verification_error.VerificationError.TheVariants.{MissingIssuerUri, BadSignature}
use Rattle.rpki_cert.specs.declared.verification_error.VerificationError.TheVariants.{OverclaimV4, OverclaimV6, OverclaimAs, Memory}
pub mod Views

-- sets of numbers: which IPv4 addresses, IPv6 addresses and AS numbers are held
pub record Held : Type 1 where
  pub v4 : ℕ → Type 0
  pub v6 : ℕ → Type 0
  pub as_numbers : ℕ → Type 0

-- empty sets
abbrev pub nothing_held : Held
nothing_held = record { v4 = λ n. ⊥; v6 = λ n. ⊥; as_numbers = λ n. ⊥ }

-- the signature belongs to the data as they are kept, and to the key
abbrev pub IsSignedBy : Verifies → KeyFields → SignedFields → Type 0
IsSignedBy V key s = V key s.signature.algorithm s.message s.signature.value

-- where it may not overclaim, it lists only numbers that are held (RFC 6487 7.2)
abbrev pub ListsOnlyHeld : Overclaim → ℕ → (ℕ → Type 0) → Resources → Type 0
ListsOnlyHeld mode greatest held r = mode ≡ Refuse → (n : ℕ) → n ≤ greatest → IsListed n r → held n

-- the moment is one at which c is valid
abbrev pub TimeCheck : Moment → CertFields → VerificationError → Type 0
TimeCheck now c NotYetValid = IsInTime c.fields.validity now time.NotYetValid
TimeCheck now c Expired = IsInTime c.fields.validity now time.Expired
TimeCheck now c _ = Unit {0}

-- c claims to be issued by this issuer
abbrev pub ClaimCheck : TbsFields → CertFields → VerificationError → Type 0
ClaimCheck issuer c MissingKeyId = IsSome c.fields.extensions.authority_key_identifier
ClaimCheck issuer c WrongKeyId = IfSome c.fields.extensions.authority_key_identifier (λ id. id ≡ issuer.extensions.subject_key_identifier)
ClaimCheck issuer c MissingIssuerUri = IsSome c.fields.extensions.ca_issuer
ClaimCheck issuer c _ = Unit {0}

-- c lists its resources itself
abbrev pub OwnCheck : CertFields → VerificationError → Type 0
OwnCheck c InheritedV4 = c.fields.extensions.v4_resources ≢ inherit
OwnCheck c InheritedV6 = c.fields.extensions.v6_resources ≢ inherit
OwnCheck c InheritedAs = c.fields.extensions.as_resources ≢ inherit
OwnCheck c _ = Unit {0}

-- c doesn't overclaim under an issuer with these sets
abbrev pub HeldCheck : Held → CertFields → VerificationError → Type 0
HeldCheck held c OverclaimV4 = ListsOnlyHeld c.fields.extensions.overclaim (2 ^ 128 - 1) held.v4 c.fields.extensions.v4_resources
HeldCheck held c OverclaimV6 = ListsOnlyHeld c.fields.extensions.overclaim (2 ^ 128 - 1) held.v6 c.fields.extensions.v6_resources
HeldCheck held c OverclaimAs = ListsOnlyHeld c.fields.extensions.overclaim (2 ^ 32 - 1) held.as_numbers c.fields.extensions.as_resources
HeldCheck held c _ = Unit {0}

-- under what a certificate is judged: how the verifier answers, the moment, and whether names are
-- read strictly
pub record Context : Type 1 where
  pub verifies : Verifies
  pub now : Moment
  pub strict : Bool

-- the context of these three
abbrev pub context : Verifies → Moment → Bool → Context
context verifies now strict = record { verifies = verifies; now = now; strict = strict }

-- The check is true of c, in this context, under an issuer with these sets. A check is named by the
-- error that it gives where it isn't true.
abbrev pub Check : Context → TbsFields → Held → CertFields → VerificationError → Type 0
Check x issuer held c NotYetValid = TimeCheck x.now c NotYetValid
Check x issuer held c Expired = TimeCheck x.now c Expired
Check x issuer held c InheritedV4 = OwnCheck c InheritedV4
Check x issuer held c InheritedV6 = OwnCheck c InheritedV6
Check x issuer held c InheritedAs = OwnCheck c InheritedAs
Check x issuer held c MissingKeyId = ClaimCheck issuer c MissingKeyId
Check x issuer held c WrongKeyId = ClaimCheck issuer c WrongKeyId
Check x issuer held c MissingIssuerUri = ClaimCheck issuer c MissingIssuerUri
Check x issuer held c BadSignature = IsSignedBy x.verifies issuer.key c.signed_data
Check x issuer held c OverclaimV4 = HeldCheck held c OverclaimV4
Check x issuer held c OverclaimV6 = HeldCheck held c OverclaimV6
Check x issuer held c OverclaimAs = HeldCheck held c OverclaimAs
Check x issuer held c Memory = Unit {0}

-- ---- the checks of each call, in their order

-- the checks of the moment
abbrev pub validity_checks : List VerificationError
validity_checks = NotYetValid ∷ Expired ∷ []

-- the checks that the certificate claims to be issued by the issuer
abbrev pub claim_checks : List VerificationError
claim_checks = MissingKeyId ∷ WrongKeyId ∷ MissingIssuerUri ∷ []

-- the checks that the certificate inherits nothing
abbrev pub own_checks : List VerificationError
own_checks = InheritedV4 ∷ InheritedV6 ∷ InheritedAs ∷ []

-- the checks that the certificate doesn't overclaim
abbrev pub held_checks : List VerificationError
held_checks = OverclaimV4 ∷ OverclaimV6 ∷ OverclaimAs ∷ []

-- below an issuer, before resources are looked at
abbrev pub basis_checks : List VerificationError
basis_checks = NotYetValid ∷ Expired ∷ MissingKeyId ∷ WrongKeyId ∷ MissingIssuerUri ∷ BadSignature ∷ []

-- of a trust anchor, whose issuer it is itself
abbrev pub trust_anchor_checks : List VerificationError
trust_anchor_checks = NotYetValid ∷ Expired ∷ InheritedV4 ∷ InheritedV6 ∷ InheritedAs ∷ BadSignature ∷ []

-- of a certificate that another one issued
abbrev pub issued_checks : List VerificationError
issued_checks = NotYetValid ∷ Expired ∷ MissingKeyId ∷ WrongKeyId ∷ MissingIssuerUri ∷ BadSignature ∷ OverclaimV4 ∷
    OverclaimV6 ∷ OverclaimAs ∷ []

-- of a router's certificate the AS numbers alone
abbrev pub router_checks : List VerificationError
router_checks = NotYetValid ∷ Expired ∷ MissingKeyId ∷ WrongKeyId ∷ MissingIssuerUri ∷ BadSignature ∷ OverclaimAs ∷ []

-- all of these checks are true
abbrev pub IsVerified : {X : Type 0} → (X → Type 0) → List X → Type 0
IsVerified check checks = AllByRecursion check checks

-- the first of them that isn't true; or it ran out of memory
abbrev pub IsFirstFalseOrMemory : (VerificationError → Type 0) → List VerificationError → VerificationError → Type 0
IsFirstFalseOrMemory check checks e = (e ≡ Memory) ⊎ IsFirstFalse check checks e

-- what a test of these checks answers that may allocate: Ok where all are true, else the first that
-- isn't, or that memory was wanted
abbrev pub TestsOrMemory : {T : Type 0} → (VerificationError → Type 0) → List VerificationError → Result T VerificationError → Type 0
TestsOrMemory check checks (Ok v) = IsVerified check checks
TestsOrMemory check checks (Err e) = IsFirstFalseOrMemory check checks e

-- two answers are alike, out of memory aside: both are Ok, or both are Err with one error
abbrev pub AreAlike : {S T : Type 0} → Result S VerificationError → Result T VerificationError → Type 0
AreAlike (Ok v) (Ok w) = Unit {0}
AreAlike (Ok v) (Err e) = e ≡ Memory
AreAlike (Err e) (Ok v) = e ≡ Memory
AreAlike (Err e) (Err f) = (e ≡ f) ⊎ ((e ≡ Memory) ⊎ (f ≡ Memory))

-- the second answer is the first, or that memory was wanted
abbrev pub IsAnswerOrMemory : {S T : Type 0} → Result S VerificationError → Result T VerificationError → Type 0
IsAnswerOrMemory (Ok v) (Ok w) = Unit {0}
IsAnswerOrMemory (Ok v) (Err e) = e ≡ Memory
IsAnswerOrMemory (Err e) (Ok v) = ⊥
IsAnswerOrMemory (Err e) (Err f) = (f ≡ e) ⊎ (f ≡ Memory)

-- ---- what a certificate that was verified has

-- what a contract sees of a ResourceCert: the certificate, its sets of numbers, and the name of the
-- trust anchor locator
pub record ResourceFields : Type 0 where
  pub cert : CertFields
  pub v4 : List Block
  pub v6 : List Block
  pub as_numbers : List Block
  pub tal : List ℕ

-- as its checks see an issuer
abbrev pub held_by : ResourceFields → Held
held_by r = record { v4 = Has r.v4; v6 = Has r.v6; as_numbers = Has r.as_numbers }

-- the checks under an issuer that was verified
abbrev pub CheckUnder : Context → ResourceFields → CertFields → VerificationError → Type 0
CheckUnder x issuer c = Check x issuer.cert.fields (held_by issuer) c

-- the checks of a trust anchor, which issued itself
abbrev pub TrustAnchorCheck : Context → CertFields → VerificationError → Type 0
TrustAnchorCheck x c = Check x c.fields nothing_held c

-- the set has the numbers that are listed
abbrev pub ListsNumbers : Resources → List Block → Type 0
ListsNumbers r set = (n : ℕ) → Has set n ↔ IsListed n r

-- of a trust anchor: what it lists
pub record HasListed (c : CertFields) (tal : List ℕ) (r : ResourceFields) : Type 0 where
  pub cert_is : r.cert ≡ c
  pub v4_is : ListsNumbers c.fields.extensions.v4_resources r.v4
  pub v6_is : ListsNumbers c.fields.extensions.v6_resources r.v6
  pub as_is : ListsNumbers c.fields.extensions.as_resources r.as_numbers
  pub tal_is : r.tal ≡ tal

-- below an issuer: what it lists or inherits of the issuer's, and the issuer's locator (RFC 6487
-- 7.2, RFC 8360 4.2.4.4)
pub record HasIssued (c : CertFields) (issuer : ResourceFields) (r : ResourceFields) : Type 0 where
  pub cert_is : r.cert ≡ c
  pub v4_is : IsIssued issuer.v4 c.fields.extensions.v4_resources r.v4
  pub v6_is : IsIssued issuer.v6 c.fields.extensions.v6_resources r.v6
  pub as_is : IsIssued issuer.as_numbers c.fields.extensions.as_resources r.as_numbers
  pub tal_is : r.tal ≡ issuer.tal

-- its sets are lists of blocks as a ResourceCert keeps them: one list for each set
pub record HasSets (r : ResourceFields) : Type 0 where
  pub v4_is : IsSet (2 ^ 128 - 1) r.v4
  pub v6_is : IsSet (2 ^ 128 - 1) r.v6
  pub as_is : IsSet (2 ^ 32 - 1) r.as_numbers

-- ---- names

-- the name of the error
abbrev pub verification_error_name : VerificationError → List ℕ
verification_error_name NotYetValid = codes "NotYetValid"
verification_error_name Expired = codes "Expired"
verification_error_name InheritedV4 = codes "InheritedV4"
verification_error_name InheritedV6 = codes "InheritedV6"
verification_error_name InheritedAs = codes "InheritedAs"
verification_error_name MissingKeyId = codes "MissingKeyId"
verification_error_name WrongKeyId = codes "WrongKeyId"
verification_error_name MissingIssuerUri = codes "MissingIssuerUri"
verification_error_name BadSignature = codes "BadSignature"
verification_error_name OverclaimV4 = codes "OverclaimV4"
verification_error_name OverclaimV6 = codes "OverclaimV6"
verification_error_name OverclaimAs = codes "OverclaimAs"
verification_error_name Memory = codes "Memory"
