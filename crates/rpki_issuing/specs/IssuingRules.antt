-- What is asked of a certificate only where it is issued: no reader asks it (RFC 6487 4.2, RFC 5280
-- 4.1.2.5; own: a CA's key is none of those above it).
use Rattle.std.specs.Prelude.{◌≡◌, ◌≢◌, ◌≤◌, ℕ, All, List, [], ◌∷◌, Option, None, Some}
use Rattle.rpki_cert.specs.Certificates.{TbsFields, CertFields, IsCertificate}
use Rattle.rpki_cert.specs.Verification.{ResourceFields, IsVerified}
use Rattle.rpki_ext.specs.Kinds.{Means}
use Rattle.rpki_parts.specs.Keys.{KeyFields}
use Rattle.rpki_cert.specs.declared.inspect.Kind.{Kind}
use Rattle.rpki_cert.specs.declared.inspect.Kind.TheVariants.{Authority}
use Rattle.rpki_issuing.specs.declared.wanted.rules.IssuingRule.{IssuingRule}
use Rattle.rpki_issuing.specs.declared.wanted.rules.IssuingRule.TheVariants.{ZeroSerial, EarlyValidity, IssuerKey}

-- the octets begin with a certificate of this key: of its algorithm and its bits
abbrev pub CertifiesKey : KeyFields → List ℕ → Type 0
CertifiesKey key octets = (c : CertFields) × Means IsCertificate c octets × (c.fields.key ≡ key)

-- none of these strings begins with one
abbrev pub IsNoKeyOf : List (List ℕ) → KeyFields → Type 0
IsNoKeyOf path key = All (λ octets. CertifiesKey key octets → ⊥) path

-- the issuer, where there is one, has another key
abbrev pub IsNotIssuersKey : Option ResourceFields → KeyFields → Type 0
IsNotIssuersKey None key = Unit {0}
IsNotIssuersKey (Some issuer) key = issuer.cert.fields.key ≢ key

-- a CA has a key that neither its issuer nor any certificate of its issuer's path has, since with one
-- of these a circle begins (own)
abbrev pub HasOwnKey : Kind → Option ResourceFields → List (List ℕ) → TbsFields → Type 0
HasOwnKey Authority issuer path f = IsNotIssuersKey issuer f.key × IsNoKeyOf path f.key
HasOwnKey kind issuer path f = Unit {0}

-- The certificate of this kind below this issuer, the last one of this path, keeps the rule: its
-- serial number is positive (RFC 6487 4.2); its validity doesn't begin before the first year that
-- UTCTime names, as UTCTime is asked for all years through 2049 (RFC 5280 4.1.2.5); and it has its own
-- key.
abbrev pub RuleCheck : Kind → Option ResourceFields → List (List ℕ) → TbsFields → IssuingRule → Type 0
RuleCheck kind issuer path f ZeroSerial = f.serial ≢ 0
RuleCheck kind issuer path f EarlyValidity = 1950 ≤ f.validity.not_before.year
RuleCheck kind issuer path f IssuerKey = HasOwnKey kind issuer path f

-- in the order in which they are tested
abbrev pub issuing_rules : List IssuingRule
issuing_rules = ZeroSerial ∷ EarlyValidity ∷ IssuerKey ∷ []

-- it keeps them all
abbrev pub KeepsRules : Kind → Option ResourceFields → List (List ℕ) → TbsFields → Type 0
KeepsRules kind issuer path f = IsVerified (RuleCheck kind issuer path f) issuing_rules
