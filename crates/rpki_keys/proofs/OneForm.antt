-- A key has one form.
use Rattle.std.proofs.Common.{◌≡◌, ℕ, ◌%◌, List, Option, Some, None, refl, sym, ap, ◌∙◌, arith}
use Rattle.rpki_parts.specs.declared.key.PublicKeyFormat.{PublicKeyFormat}
use Rattle.rpki_parts.specs.declared.key.PublicKeyFormat.TheVariants.{Rsa, EcdsaP256}
use Rattle.rpki_keys.specs.KeyForms.{IsExponent, AreRsaOf, ArePointOf, AreOfForm}
use Rattle.rpki_keys.specs.declared.form.KeyForm.{KeyForm}
use Rattle.rpki_keys.specs.declared.form.KeyForm.TheVariants.{RsaKey, EvenModulus, NoRsaKey, Point, OffCurve, CompressedPoint, NoPoint}
use Rattle.rpki_keys.proofs.Points.{point-uncompressed, one-form}
use Rattle.rpki_keys.proofs.RsaKeyReads.{one-key}
use Rattle.rpki_keys.proofs.Sizes.{one-count}

-- an exponent is told in one way
pub one-exponent : (e : ℕ) (a b : Option ℕ) → IsExponent e a → IsExponent e b → a ≡ b
one-exponent e None None g h = refl
one-exponent e None (Some b) g h = absurd (omega arith)
one-exponent e (Some a) None g h = absurd (omega arith)
one-exponent e (Some a) (Some b) g h = ap Some (sym g.0 ∙ h.0)

-- an odd number isn't an even one
pub parities : (n m : ℕ) → n ≡ m → n % 2 ≡ 1 → m % 2 ≡ 0 → ⊥
parities n m e odd even = let one : m % 2 ≡ 1 = rw e at odd in omega arith

-- the bits of an RSA key have one form
pub one-rsa : (bits : List ℕ) (f g : KeyForm) → AreRsaOf f bits → AreRsaOf g bits → f ≡ g
one-rsa bits (RsaKey a b) (RsaKey c d) x y =
    let same = one-key x.n x.e y.n y.e bits x.key y.key in
    let count : a ≡ c = one-count y.n a c (rw same.0 at x.size) y.size in
    let exponent : b ≡ d = one-exponent y.e b d (rw same.1 at x.exponent_is) y.exponent_is in
    rw (count, exponent) refl
one-rsa bits (RsaKey a b) EvenModulus x y =
    absurd (parities x.n y.n (one-key x.n x.e y.n y.e bits x.key y.key).0 x.odd y.even)
one-rsa bits (RsaKey a b) NoRsaKey x y = absurd (y x.n x.e x.key)
one-rsa bits (RsaKey a b) _ x y = absurd y
one-rsa bits EvenModulus (RsaKey c d) x y =
    absurd (parities y.n x.n (one-key y.n y.e x.n x.e bits y.key x.key).0 y.odd x.even)
one-rsa bits EvenModulus EvenModulus x y = refl
one-rsa bits EvenModulus NoRsaKey x y = absurd (y x.n x.e x.key)
one-rsa bits EvenModulus _ x y = absurd y
one-rsa bits NoRsaKey (RsaKey c d) x y = absurd (x y.n y.e y.key)
one-rsa bits NoRsaKey EvenModulus x y = absurd (x y.n y.e y.key)
one-rsa bits NoRsaKey NoRsaKey x y = refl
one-rsa bits NoRsaKey _ x y = absurd y
one-rsa bits _ g x y = absurd x

-- the bits of a P-256 key have one form
pub one-point : (bits : List ℕ) (f g : KeyForm) → ArePointOf f bits → ArePointOf g bits → f ≡ g
one-point bits Point Point x y = refl
one-point bits Point OffCurve x y = absurd (y.1 x)
one-point bits Point CompressedPoint x y = absurd (one-form bits (point-uncompressed bits x) y)
one-point bits Point NoPoint x y = absurd (y.0 (point-uncompressed bits x))
one-point bits Point _ x y = absurd y
one-point bits OffCurve Point x y = absurd (x.1 y)
one-point bits OffCurve OffCurve x y = refl
one-point bits OffCurve CompressedPoint x y = absurd (one-form bits x.0 y)
one-point bits OffCurve NoPoint x y = absurd (y.0 x.0)
one-point bits OffCurve _ x y = absurd y
one-point bits CompressedPoint Point x y = absurd (one-form bits (point-uncompressed bits y) x)
one-point bits CompressedPoint OffCurve x y = absurd (one-form bits y.0 x)
one-point bits CompressedPoint CompressedPoint x y = refl
one-point bits CompressedPoint NoPoint x y = absurd (y.1 x)
one-point bits CompressedPoint _ x y = absurd y
one-point bits NoPoint Point x y = absurd (x.0 (point-uncompressed bits y))
one-point bits NoPoint OffCurve x y = absurd (x.0 y.0)
one-point bits NoPoint CompressedPoint x y = absurd (x.1 y)
one-point bits NoPoint NoPoint x y = refl
one-point bits NoPoint _ x y = absurd y
one-point bits _ g x y = absurd x

-- a key has one form
pub one-key-form : (format : PublicKeyFormat) (bits : List ℕ) (f g : KeyForm) → AreOfForm f format bits → AreOfForm g format bits → f ≡ g
one-key-form Rsa bits f g x y = one-rsa bits f g x y
one-key-form EcdsaP256 bits f g x y = one-point bits f g x y
