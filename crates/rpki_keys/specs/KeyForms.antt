-- What the bits of a public key are, and which of them the RPKI uses (RFC 7935 3, RFC 8608 3.1).
use Rattle.std.specs.Prelude.{◌≡◌, ℕ, ◌*◌, ◌%◌, ◌^◌, ◌<◌, ◌≤◌, List, Option, Some, None}
use Rattle.rpki_parts.specs.Keys.{KeyFields}
use Rattle.rpki_parts.specs.declared.key.PublicKeyFormat.{PublicKeyFormat}
use Rattle.rpki_parts.specs.declared.key.PublicKeyFormat.TheVariants.{Rsa, EcdsaP256}
use Rattle.rpki_keys.specs.RsaKeys.{IsRsaPublicKey, IsRpkiKey}
use Rattle.rpki_keys.specs.Curve.{IsCurvePoint, IsUncompressed, IsCompressed}
use Rattle.rpki_keys.specs.declared.form.KeyForm.{KeyForm}
use Rattle.rpki_keys.specs.declared.form.KeyForm.TheVariants.{RsaKey, EvenModulus, NoRsaKey, Point, OffCurve, CompressedPoint, NoPoint}

-- the bits are those of a key that the RPKI uses: of certificates RSA, of BGPsec routers a point of
-- P-256 in the form that every implementation supports (RFC 5480 2.2); no compressed one (own)
abbrev pub AreUsable : PublicKeyFormat → List ℕ → Type 0
AreUsable Rsa bits = IsRpkiKey bits
AreUsable EcdsaP256 bits = IsCurvePoint bits

-- the key is one that the RPKI uses
abbrev pub IsUsableKey : KeyFields → Type 0
IsUsableKey key = AreUsable key.format key.bits

-- a positive number has this many binary digits
pub record HasBits (n count : ℕ) : Type 0 where
  pub below : n < 2 ^ count
  pub least : 2 ^ count ≤ 2 * n

-- the exponent, where it is below 2^64
abbrev pub IsExponent : ℕ → Option ℕ → Type 0
IsExponent e None = 2 ^ 64 ≤ e
IsExponent e (Some told) = (e ≡ told) × (e < 2 ^ 64)

-- an RSAPublicKey with an odd modulus of so many bits and this exponent
pub record IsRsaForm (count : ℕ) (exponent : Option ℕ) (bits : List ℕ) : Type 0 where
  pub n : ℕ
  pub e : ℕ
  pub key : IsRsaPublicKey n e bits
  pub odd : n % 2 ≡ 1
  pub size : HasBits n count
  pub exponent_is : IsExponent e exponent

-- an RSAPublicKey with an even modulus, which no product of odd primes is (RFC 8017 3.1)
pub record IsEvenForm (bits : List ℕ) : Type 0 where
  pub n : ℕ
  pub e : ℕ
  pub key : IsRsaPublicKey n e bits
  pub even : n % 2 ≡ 0

-- what the bits of an RSA key are
abbrev pub AreRsaOf : KeyForm → List ℕ → Type 0
AreRsaOf (RsaKey count exponent) bits = IsRsaForm count exponent bits
AreRsaOf EvenModulus bits = IsEvenForm bits
AreRsaOf NoRsaKey bits = (n e : ℕ) → ¬ IsRsaPublicKey n e bits
AreRsaOf _ bits = ⊥

-- what the bits of a P-256 key are
abbrev pub ArePointOf : KeyForm → List ℕ → Type 0
ArePointOf Point bits = IsCurvePoint bits
ArePointOf OffCurve bits = IsUncompressed bits × ¬ IsCurvePoint bits
ArePointOf CompressedPoint bits = IsCompressed bits
ArePointOf NoPoint bits = ¬ IsUncompressed bits × ¬ IsCompressed bits
ArePointOf _ bits = ⊥

-- what the bits of a key are, by its algorithm
abbrev pub AreOfForm : KeyForm → PublicKeyFormat → List ℕ → Type 0
AreOfForm form Rsa bits = AreRsaOf form bits
AreOfForm form EcdsaP256 bits = ArePointOf form bits

-- the key has this form
abbrev pub IsKeyForm : KeyForm → KeyFields → Type 0
IsKeyForm form key = AreOfForm form key.format key.bits

-- the form of a key that the RPKI uses
abbrev pub IsUsableForm : KeyForm → Type 0
IsUsableForm (RsaKey count exponent) = (count ≡ 2048) × (exponent ≡ Some 65537)
IsUsableForm Point = Unit {0}
IsUsableForm _ = ⊥
