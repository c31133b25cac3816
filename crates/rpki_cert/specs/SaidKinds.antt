-- What a certificate says that it is, and what it is (own).
use Rattle.std.specs.Prelude.{◌≡◌, ◌⊎◌, ℕ, Bool, List, Some, true, IsSome, IsNone, IsSomeAnd}
use Rattle.rpki_ext.specs.Kinds.{Means}
use Rattle.rpki_ext.specs.RouterPurposes.{HasRouterPurpose}
use Rattle.rpki_parts.specs.declared.key.PublicKeyFormat.TheVariants.{EcdsaP256}
use Rattle.rpki_cert.specs.Certificates.{TbsFields, CertFields, IsCertificate}
use Rattle.rpki_cert.specs.declared.inspect.Kind.{Kind}
use Rattle.rpki_cert.specs.declared.inspect.Kind.TheVariants.{Anchor, Authority, EndEntity, Detached, Router}
use Rattle.rpki_cert.specs.declared.saying.Said.{Said}
use Rattle.rpki_cert.specs.Profiles.{MeetsProfile}

-- a CA's
abbrev pub SaysAuthority : TbsFields → Type 0
SaysAuthority f = f.extensions.basic_ca ≡ Some true

-- a router's: it names the purpose of routers (RFC 8209 3.1.3.2); or it has a key on a curve, which
-- only routers have (RFC 8608), and says neither that it is a CA's nor which object it signs
abbrev pub SaysRouter : TbsFields → Type 0
SaysRouter f =
    IsSomeAnd f.extensions.extended_key_usage HasRouterPurpose
    ⊎ ((f.key.format ≡ EcdsaP256) × (SaysAuthority f → ⊥) × IsNone f.extensions.access.signed_object)

-- neither
abbrev pub SaysLeaf : TbsFields → Type 0
SaysLeaf f = (SaysRouter f → ⊥) × (SaysAuthority f → ⊥)

-- one of this kind: what is neither a router's nor a CA's is an end entity's, which is detached
-- where it names no object that it signs
abbrev pub SaysKind : Kind → TbsFields → Type 0
SaysKind Router f = SaysRouter f
SaysKind Authority f = (SaysRouter f → ⊥) × SaysAuthority f
SaysKind EndEntity f = SaysLeaf f × IsSome f.extensions.access.signed_object
SaysKind Detached f = SaysLeaf f × IsNone f.extensions.access.signed_object
SaysKind Anchor f = ⊥

-- what a certificate is: a trust anchor where it meets the profile of one, and else what it says
abbrev pub IsKindOf : Kind → Bool → CertFields → Type 0
IsKindOf kind strict c =
    ((kind ≡ Anchor) × MeetsProfile Anchor strict c)
    ⊎ ((MeetsProfile Anchor strict c → ⊥) × SaysKind kind c.fields)

-- the octets begin with a certificate that says that it is one of this kind
abbrev pub BeginsWithKind : Kind → List ℕ → Type 0
BeginsWithKind kind octets = (c : CertFields) × Means IsCertificate c octets × SaysKind kind c.fields

-- what a certificate says of its place among others: its kind, the identifier of its own key, and
-- that of the key that it names as the one that signs it (RFC 5280 4.2.1.1)
pub record IsSaid (said : Said) (f : TbsFields) : Type 0 where
  pub kind_is : SaysKind said.kind f
  pub key_is : said.key ≡ f.extensions.subject_key_identifier
  pub signer_is : said.signer ≡ f.extensions.authority_key_identifier

-- the octets begin with a certificate that says this
abbrev pub BeginsWithSaid : Said → List ℕ → Type 0
BeginsWithSaid said octets = (c : CertFields) × Means IsCertificate c octets × IsSaid said c.fields
