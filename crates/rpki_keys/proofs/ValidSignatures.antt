-- What is compared says what is verified.
use Rattle.std.proofs.Common.{◌≡◌, ℕ, ◌*◌, ◌%◌, ◌^◌, ◌<◌, ◌≤◌, ◌↔◌, Bool, IsTrue, List, length, refl, sym, ap, ◌∙◌, arith}
use Rattle.std.proofs.Math.Nat.{mod-lt, le_of_lt, le_trans}
use Rattle.rpki_keys.specs.Limbs.{place}
use Rattle.rpki_der.specs.Values.{AreOctets}
use Rattle.rpki_keys.specs.Octets.{os2ip, i2osp}
use Rattle.rpki_keys.specs.RsaSignatures.{IsValidSignature, IsRsaSignature, emsa_pkcs1_v1_5}
use Rattle.rpki_keys.specs.Moduli.{IsOnlyModulus}
use Rattle.rpki_keys.proofs.OctetNumbers.{i2osp-iff}

-- an odd number that is at least an even one is above it
above : (p n : ℕ) → p ≤ n → n % 2 ≡ 1 → p % 2 ≡ 0 → p * 2 < 2 * n
above p n low odd even = omega arith

-- 2^2048 is less than twice the modulus
pub place-below : (n : ℕ) → 2 ^ 2047 ≤ n → n % 2 ≡ 1 → place 32 < 2 * n
unfolding place
place-below n low odd = above (2 ^ 2047) n low odd refl

-- an odd number is positive
pub positive : (n : ℕ) → n % 2 ≡ 1 → 0 < n
positive n odd = omega arith

-- a comparison with the wanted octets decides whether a signature is valid
pub verified-iff : (n m w : ℕ) (message signature wanted : List ℕ) (r : Bool) → n < 2 ^ 2048 → n % 2 ≡ 1
    → length signature ≡ 256 → os2ip signature < n → m ≡ os2ip signature ^ 65537 % n
    → wanted ≡ emsa_pkcs1_v1_5 message 256 → length wanted ≡ 256 → AreOctets wanted → w ≡ os2ip wanted
    → (IsTrue r ↔ (m ≡ w)) → IsTrue r ↔ IsValidSignature n 65537 256 message signature
verified-iff n m w message signature wanted r high odd long small power is_wanted wanted_long octets is_w tells =
    let below_n : m < n = rw power (mod-lt (os2ip signature ^ 65537) (positive n odd)) in
    let below : m < 256 ^ 256 = le_trans below_n (le_of_lt high) in
    let iff = i2osp-iff m 256 wanted below octets wanted_long in (
      λ t. record {
        long = long;
        representative = small;
        same = ap (λ z. i2osp z 256) (sym power) ∙ iff.0 (tells.0 t ∙ is_w) ∙ is_wanted;
      },
      λ v. tells.1 (iff.1 (ap (λ z. i2osp z 256) power ∙ v.same ∙ sym is_wanted) ∙ sym is_w),
    )

-- of the one key that has these bits
pub signed-iff : (bits octets message signature : List ℕ) (r : Bool) → IsOnlyModulus bits octets
    → (IsTrue r ↔ IsValidSignature (os2ip octets) 65537 256 message signature) → IsTrue r ↔ IsRsaSignature bits message signature
signed-iff bits octets message signature r k tells = (
  λ t. record { n = os2ip octets; e = 65537; key = k.key; verified = tells.0 t },
  λ s. let only = k.only s.n s.e s.key in tells.1 (rw (only.0, only.1) at s.verified),
)
