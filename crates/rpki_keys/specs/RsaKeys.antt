-- RSA's public keys (RFC 8017 3.1, A.1.1), and those that the RPKI has (RFC 7935 3).
use Rattle.std.specs.Prelude.{◌≡◌, ℕ, ◌%◌, ◌^◌, ◌<◌, ◌≤◌, List, [], ◌∷◌}
use Rattle.rpki_der.specs.Primitives.{IsNumber}
use Rattle.rpki_der.specs.Values.{IsSequence}

-- RSAPublicKey ::= SEQUENCE {
--   modulus INTEGER, publicExponent INTEGER }   (RFC 8017 A.1.1)
pub record IsRsaPublicKey (n e : ℕ) (bits : List ℕ) : Type 0 where
  pub modulus : List ℕ
  pub exponent : List ℕ
  pub modulus_is : IsNumber n modulus
  pub exponent_is : IsNumber e exponent
  pub sequence : IsSequence (modulus ∷ exponent ∷ []) bits

-- a modulus of 2048 bits, which is odd as a product of odd primes, and the exponent 65537
pub record IsRpkiSize (n e : ℕ) : Type 0 where
  pub low : 2 ^ 2047 ≤ n
  pub high : n < 2 ^ 2048
  pub odd : n % 2 ≡ 1
  pub exponent : e ≡ 65537

-- the bits are those of the RPKI's key of this modulus and exponent
pub record IsRpkiRsaKey (n e : ℕ) (bits : List ℕ) : Type 0 where
  pub key : IsRsaPublicKey n e bits
  pub size : IsRpkiSize n e

-- the bits are those of a key of the RPKI
abbrev pub IsRpkiKey : List ℕ → Type 0
IsRpkiKey bits = (n : ℕ) × (e : ℕ) × IsRpkiRsaKey n e bits
