-- An RSAPublicKey is read as it is encoded, and has one modulus and one exponent.
use Rattle.std.specs.Int.Digits.{number_from_digits}
use Rattle.std.proofs.Common.{◌≡◌, ℕ, List, [], ◌∷◌, ◌++◌, Some, None, refl, sym, ap, subst, ◌∙◌}
use Rattle.std.proofs.lemmas.List.{append-nil}
use Rattle.rpki_der.specs.Primitives.{IsNumber, IsUnsigned}
use Rattle.rpki_der.specs.Primitives.Reading.{unsigned_at}
use Rattle.rpki_der.specs.Reading.{inside, both, Inside, Both, ReadsWhole}
use Rattle.rpki_der.specs.Tags.{SEQUENCE}
use Rattle.rpki_der.specs.Values.{AreOctets, IsEnc}
use Rattle.rpki_der.proofs.Octets.{nothing, some_is}
use Rattle.rpki_der.proofs.PrimitiveReads.{unsigned_reads}
use Rattle.rpki_der.proofs.Readings.{both_reads, inside_reads, whole_reads}
use Rattle.rpki_keys.specs.RsaKeys.{IsRsaPublicKey}
use Rattle.rpki_keys.specs.RsaNumbers.{rsa_numbers_of}

abbrev AreNumbersOf : List ℕ × List ℕ → List ℕ → Type 0
AreNumbersOf = Inside SEQUENCE (Both IsUnsigned IsUnsigned)

numbers-read : ReadsWhole rsa_numbers_of AreNumbersOf
unfolding rsa_numbers_of
numbers-read =
    whole_reads (inside SEQUENCE (both unsigned_at unsigned_at)) AreNumbersOf
    (inside_reads SEQUENCE (both unsigned_at unsigned_at) (Both IsUnsigned IsUnsigned)
    (both_reads unsigned_at unsigned_at IsUnsigned IsUnsigned unsigned_reads unsigned_reads))

-- a content is one of its number
number-of : (content text : List ℕ) → IsUnsigned content text → IsNumber (number_from_digits 256 content) text
number-of content text u = record {
  first = u.first;
  more = u.more;
  enc = rw u.is at u.enc;
  shortest = rw u.is at u.shortest;
  not_negative = u.not_negative;
  is = ap (number_from_digits 256) u.is;
}

unsigned-of : (n : ℕ) (text : List ℕ) (i : IsNumber n text) → IsUnsigned (i.first ∷ i.more) text
unsigned-of n text i = record {
  first = i.first;
  more = i.more;
  is = refl;
  shortest = i.shortest;
  not_negative = i.not_negative;
  enc = i.enc;
}

-- ---- what is read

-- the contents that are read are those of a key
pub key-read : (bits modulus exponent : List ℕ) → AreOctets bits → rsa_numbers_of bits ≡ Some (modulus, exponent)
    → IsRsaPublicKey (number_from_digits 256 modulus) (number_from_digits 256 exponent) bits
key-read bits modulus exponent octets e =
    let s = numbers-read.takes bits (modulus, exponent) octets e in
    let a = s.1.0 in
    let b = s.1.1 in
    record {
      modulus = a;
      exponent = b;
      modulus_is = number-of modulus a s.1.2;
      exponent_is = number-of exponent b s.1.3;
      sequence = subst (λ (c : List ℕ). IsEnc SEQUENCE c bits) (s.1.4 ∙ ap (λ (z : List ℕ). a ++ z) (sym (append-nil b))) s.2;
    }

-- the modulus that is read is the content of an INTEGER
pub modulus-read : (bits modulus exponent : List ℕ) → AreOctets bits →
    rsa_numbers_of bits ≡ Some (modulus, exponent) → (text : List ℕ) × IsUnsigned modulus text
modulus-read bits modulus exponent octets e =
    let s = numbers-read.takes bits (modulus, exponent) octets e in
    (s.1.0, s.1.2)

-- ---- and the other way round

-- a key's numbers are read
pub read-key : (n e : ℕ) (bits : List ℕ) → IsRsaPublicKey n e bits
    → (modulus : List ℕ) × (exponent : List ℕ) × (n ≡ number_from_digits 256 modulus) × (e ≡ number_from_digits 256 exponent)
    × (rsa_numbers_of bits ≡ Some (modulus, exponent))
read-key n e bits k =
    let m = k.modulus_is in
    let x = k.exponent_is in
    let modulus = m.first ∷ m.more in
    let exponent = x.first ∷ x.more in
    let content : k.modulus ++ (k.exponent ++ []) ≡ k.modulus ++ k.exponent = ap (λ (z : List ℕ). k.modulus ++ z) (append-nil k.exponent) in
    let inner : Both IsUnsigned IsUnsigned (modulus, exponent) (k.modulus ++ (k.exponent ++ [])) =
    (k.modulus, k.exponent, unsigned-of n k.modulus m, unsigned-of e k.exponent x, content) in
    (modulus, exponent, m.is, x.is, numbers-read.again (modulus, exponent) bits (k.modulus ++ (k.exponent ++ []), inner, k.sequence))

-- where nothing is read there is no key
pub no-key : (bits : List ℕ) → rsa_numbers_of bits ≡ None → (n e : ℕ) → IsRsaPublicKey n e bits → ⊥
no-key bits none n e k =
    let r = read-key n e bits k in
    let found : List ℕ × List ℕ = (r.0, r.1) in
    nothing {B = ⊥} found (sym none ∙ r.4)

-- bits are one key
pub one-key : (n e m f : ℕ) (bits : List ℕ) → IsRsaPublicKey n e bits → IsRsaPublicKey m f bits → (n ≡ m) × (e ≡ f)
one-key n e m f bits k l =
    let r = read-key n e bits k in
    let s = read-key m f bits l in
    let one : List ℕ × List ℕ = (r.0, r.1) in
    let other : List ℕ × List ℕ = (s.0, s.1) in
    let same : one ≡ other = some_is one other (sym r.4 ∙ s.4) in
    let modulus : r.0 ≡ s.0 = ap (λ (v : List ℕ × List ℕ). v.0) same in
    let exponent : r.1 ≡ s.1 = ap (λ (v : List ℕ × List ℕ). v.1) same in
    (r.2 ∙ ap (number_from_digits 256) modulus ∙ sym s.2, r.3 ∙ ap (number_from_digits 256) exponent ∙ sym s.3)
