-- The form of a key tells whether the RPKI uses it.
use Rattle.std.proofs.Common.{◌≡◌, ℕ, ◌*◌, ◌^◌, ◌≤◌, ◌↔◌, List, Option, Some, arith}
use Rattle.std.proofs.Math.Nat.{pow-suc}
use Rattle.rpki_parts.specs.declared.key.PublicKeyFormat.{PublicKeyFormat}
use Rattle.rpki_parts.specs.declared.key.PublicKeyFormat.TheVariants.{Rsa, EcdsaP256}
use Rattle.rpki_keys.specs.RsaKeys.{IsRpkiKey}
use Rattle.rpki_keys.specs.Curve.{IsCurvePoint}
use Rattle.rpki_keys.specs.KeyForms.{HasBits, IsExponent, AreUsable, AreRsaOf, ArePointOf, AreOfForm, IsUsableForm}
use Rattle.rpki_keys.specs.declared.form.KeyForm.{KeyForm}
use Rattle.rpki_keys.specs.declared.form.KeyForm.TheVariants.{RsaKey, EvenModulus, NoRsaKey, Point, OffCurve, CompressedPoint, NoPoint}
use Rattle.rpki_keys.proofs.OneForm.{one-exponent, parities}
use Rattle.rpki_keys.proofs.Points.{point-uncompressed, one-form}
use Rattle.rpki_keys.proofs.RsaKeyReads.{one-key}
use Rattle.rpki_keys.proofs.Sizes.{one-count}

-- a bound and twice the bound
doubled : (p q n : ℕ) → q ≡ p * 2 → p ≤ n → q ≤ 2 * n
doubled p q n e low = omega arith

halved : (p q n : ℕ) → q ≡ p * 2 → q ≤ 2 * n → p ≤ n
halved p q n e least = omega arith

-- the exponent of the RPKI is told as it is
usual : (e : ℕ) → e ≡ 65537 → IsExponent e (Some 65537)
usual e is = (is, omega arith)

told : (e : ℕ) (exponent : Option ℕ) → exponent ≡ Some 65537 → IsExponent e exponent → e ≡ 65537
told e exponent is h = (rw is at h).0

usable-rsa : (bits : List ℕ) (form : KeyForm) → AreRsaOf form bits → IsRpkiKey bits ↔ IsUsableForm form
usable-rsa bits (RsaKey count exponent) x = (
  λ k.
      let n : ℕ = k.0 in
      let same = one-key x.n x.e n k.1 bits x.key k.2.key in
      let size : HasBits n 2048 =
      record { below = k.2.size.high; least = doubled (2 ^ 2047) (2 ^ 2048) n (pow-suc 2 2047) k.2.size.low } in (
        one-count n count 2048 (rw same.0 at x.size) size,
        one-exponent k.1 exponent (Some 65537) (rw same.1 at x.exponent_is) (usual k.1 k.2.size.exponent),
      ),
  λ u.
      let size : HasBits x.n 2048 = rw u.0 at x.size in (
        x.n,
        x.e,
        record {
          key = x.key;
          size = record {
            low = halved (2 ^ 2047) (2 ^ 2048) x.n (pow-suc 2 2047) size.least;
            high = size.below;
            odd = x.odd;
            exponent = told x.e exponent u.1 x.exponent_is;
          };
        },
      ),
)
usable-rsa bits EvenModulus x = (
  λ k. absurd (parities k.0 x.n (one-key k.0 k.1 x.n x.e bits k.2.key x.key).0 k.2.size.odd x.even),
  λ u. absurd u,
)
usable-rsa bits NoRsaKey x = (λ k. absurd (x k.0 k.1 k.2.key), λ u. absurd u)
usable-rsa bits _ x = absurd x

usable-point : (bits : List ℕ) (form : KeyForm) → ArePointOf form bits → IsCurvePoint bits ↔ IsUsableForm form
usable-point bits Point x = (λ p. tt, λ u. x)
usable-point bits OffCurve x = (λ p. absurd (x.1 p), λ u. absurd u)
usable-point bits CompressedPoint x = (λ p. absurd (one-form bits (point-uncompressed bits p) x), λ u. absurd u)
usable-point bits NoPoint x = (λ p. absurd (x.0 (point-uncompressed bits p)), λ u. absurd u)
usable-point bits _ x = absurd x

-- the RPKI uses a key exactly where its form is one of those
pub usable-form : (format : PublicKeyFormat) (bits : List ℕ) (form : KeyForm) → AreOfForm form format bits →
    AreUsable format bits ↔ IsUsableForm form
usable-form Rsa bits form h = usable-rsa bits form h
usable-form EcdsaP256 bits form h = usable-point bits form h
