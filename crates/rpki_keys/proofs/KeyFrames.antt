-- The bits of the keys of the RPKI: the octets of the modulus in a frame.
use Rattle.std.specs.List.{concat}
use Rattle.std.proofs.Common.{◌≡◌, ℕ, zero, suc, ◌+◌, ◌*◌, ◌%◌, ◌^◌, ◌<◌, ◌≤◌, ◌↔◌, IsTrue, Bool, Option, None, Some}
use Rattle.std.proofs.Common.{is_some, MatchOption, List, [], ◌∷◌, ◌++◌, length, get_or, refl, sym, ap, ◌∙◌, arith}
use Rattle.std.proofs.Common.{inl, inr}
use Rattle.std.proofs.Math.Nat.{le_trans, lt_irrefl, mod-eq_of_lt, mul-le-mul_right, pow-suc}
use Rattle.std.proofs.Math.Pow.{pow_mono}
use Rattle.std.proofs.lemmas.Bool.{cases_lt}
use Rattle.std.proofs.lemmas.List.{append_cancel_left, append_cancel_right, append-nil, length-append}
use Rattle.std.proofs.lemmas.Nat.{pow-add}
use Rattle.rpki_der.specs.Primitives.{IsInteger, IsNumber}
use Rattle.rpki_der.specs.Tags.{INTEGER, SEQUENCE}
use Rattle.rpki_der.specs.Values.{AreOctets, IsSequence, enc, length_octets}
use Rattle.rpki_der.proofs.Lengths.{length_short, length_82}
use Rattle.rpki_der.proofs.Octets.{AreOctets-append, AreOctets-after, AreOctets-front}
use Rattle.rpki_keys.specs.Octets.{os2ip, i2osp}
use Rattle.rpki_keys.specs.RsaKeys.{IsRpkiSize, IsRpkiRsaKey, IsRpkiKey}
use Rattle.rpki_keys.specs.Moduli.{IsOnlyModulus}
use Rattle.rpki_keys.proofs.OctetNumbers.{length-i2osp, os2ip-i2osp, i2osp-os2ip, i2osp-wider, os2ip-below}
use Rattle.rpki_keys.proofs.OctetNumbers.{os2ip-digits, pow-256, first-high, first-low, last-parity}

-- the octets of a key of the RPKI before its modulus
abbrev pub head : List ℕ
head = 0x30 ∷ 0x82 ∷ 0x01 ∷ 0x0a ∷ 0x02 ∷ 0x82 ∷ 0x01 ∷ 0x01 ∷ 0x00 ∷ []

-- the octets of a key of the RPKI behind its modulus
abbrev pub tail : List ℕ
tail = 0x02 ∷ 0x03 ∷ 0x01 ∷ 0x00 ∷ 0x01 ∷ []

-- ---- the content of an INTEGER, as long as its number asks

-- the content of the number n, by its bounds
record IsContent (content : List ℕ) (n : ℕ) : Type 0 where
  pub more : ℕ
  pub fits : n < 2 ^ (8 * more + 7)
  pub least : (less : ℕ) → n < 2 ^ (8 * less + 7) → more ≤ less
  pub octets : content ≡ i2osp n (more + 1)

-- the octets that the number k beyond the first needs, from its bounds
needs : (n m k : ℕ) → n < 2 ^ (8 * m + 7) → 2 ^ (8 * k + 7) ≤ n → k < m
needs n m k fits low = elim (cases_lt k m) [
  | inl less ↦ less
  | inr more ↦
      let le : 8 * m + 7 ≤ 8 * k + 7 = omega arith in
      absurd (lt_irrefl n (le_trans fits (le_trans (pow_mono le) low)))
]

half-place : (k : ℕ) → 128 * 256 ^ k ≡ 2 ^ (8 * k + 7)
half-place k = rw (pow-256 k, pow-add 2 (8 * k) 7) (omega arith)

-- a first octet from 1 on, or a second one from 128 on
large : (x : ℕ) (xs : List ℕ) (m : ℕ) → length xs ≡ suc m → IsInteger (x ∷ xs) → 2 ^ (8 * m + 7) ≤ os2ip (x ∷ xs)
unfolding os2ip
large x [] m l i = absurd (omega arith)
large zero (y ∷ ys) m l i =
    let high : 128 * 256 ^ m ≤ os2ip (y ∷ ys) = first-high (y ∷ ys) m l (i.0 refl) in
    rw (← half-place m) (omega arith)
large (suc x) (y ∷ ys) m l i =
    let same : length (y ∷ ys) ≡ suc m = l in
    let whole : 256 ^ suc m ≡ 256 ^ m * 256 = pow-suc 256 m in
    let most : 1 * 256 ^ suc m ≤ suc x * 256 ^ suc m = mul-le-mul_right (256 ^ suc m) (let le : 1 ≤ suc x = omega arith in le) in
    rw (← half-place m, l) (omega arith)

least-from : (n m less : ℕ) → ((k : ℕ) → m ≡ suc k → 2 ^ (8 * k + 7) ≤ n) → n < 2 ^ (8 * less + 7) → m ≤ less
least-from n zero less low fits = omega arith
least-from n (suc m) less low fits = needs n less m fits (low m refl)

content-of : (n : ℕ) (b : List ℕ) (i : IsNumber n b) → IsContent (i.first ∷ i.more) n
content-of n b i =
    let content = i.first ∷ i.more in
    let is : n ≡ os2ip content = i.is ∙ sym (os2ip-digits content) in
    let low : os2ip content < 128 * 256 ^ length i.more = first-low content (length i.more) i.enc.octets refl i.not_negative in
    let back = i2osp-os2ip content (length i.more + 1) i.enc.octets (omega arith) in
    record {
      more = length i.more;
      fits = rw (is, ← half-place (length i.more)) low;
      least = λ less fits. least-from n (length i.more) less (λ k l. rw is (large i.first i.more k l i.shortest)) fits;
      octets = rw is (sym back);
    }

same : {m : ℕ} → 255 < m → m ≤ 256 → m ≡ 256
same a b = omega arith

one-more : (content : List ℕ) (n m : ℕ) → m ≡ 256 → content ≡ i2osp n (m + 1) → content ≡ i2osp n 257
one-more content n m e h = rw e at h

modulus-octets : (content : List ℕ) (n : ℕ) → IsContent content n → 2 ^ 2047 ≤ n → n < 2 ^ 2048 → content ≡ 0 ∷ i2osp n 256
modulus-octets content n i low high =
    let more : 255 < i.more = needs n i.more 255 i.fits low in
    let wide : 2048 ≤ 2055 = omega arith in
    let less : i.more ≤ 256 = i.least 256 (le_trans high (pow_mono wide)) in
    one-more content n i.more (same more less) i.octets ∙ i2osp-wider n 256 high

exponent-at : (m : ℕ) (content : List ℕ) → m ≤ 2 → 65537 < 2 ^ (8 * m + 7) → content ≡ i2osp 65537 (m + 1) → content ≡ 1 ∷ 0 ∷ 1 ∷ []
unfolding i2osp
exponent-at zero content le fits h = absurd (omega arith)
exponent-at (suc zero) content le fits h = absurd (omega arith)
exponent-at (suc (suc zero)) content le fits h = h
exponent-at (suc (suc (suc m))) content le fits h = absurd (omega arith)

exponent-octets : (content : List ℕ) (e : ℕ) → e ≡ 65537 → IsContent content e → content ≡ 1 ∷ 0 ∷ 1 ∷ []
exponent-octets content e is i =
    let j = rw is at i in
    exponent-at j.more content (j.least 2 (omega arith)) j.fits j.octets

-- ---- the frame in DER

modulus-value : (o : List ℕ) → length o ≡ 256 → enc INTEGER (0 ∷ o) ≡ 0x02 ∷ 0x82 ∷ 0x01 ∷ 0x01 ∷ 0x00 ∷ o
unfolding enc
modulus-value o l =
    let long : length_octets (length (0 ∷ o)) ≡ 0x82 ∷ 0x01 ∷ 0x01 ∷ [] = ap (λ z. length_octets (suc z)) l ∙
    length_82 257 (omega arith) (omega arith) in
    ap (λ z. 0x02 ∷ (z ++ (0 ∷ o))) long

exponent-value : enc INTEGER (1 ∷ 0 ∷ 1 ∷ []) ≡ tail
unfolding enc
exponent-value = ap (λ z. 0x02 ∷ (z ++ (1 ∷ 0 ∷ 1 ∷ []))) (length_short 3 (omega arith))

whole-value : (o : List ℕ) → length o ≡ 256 → enc SEQUENCE ((0x02 ∷ 0x82 ∷ 0x01 ∷ 0x01 ∷ 0x00 ∷ o) ++ tail) ≡ head ++ (o ++ tail)
unfolding enc
whole-value o l =
    let all : length (o ++ tail) ≡ 261 = length-append o tail ∙ omega arith in
    let long : length_octets (length ((0x02 ∷ 0x82 ∷ 0x01 ∷ 0x01 ∷ 0x00 ∷ o) ++ tail)) ≡ 0x82 ∷ 0x01 ∷ 0x0a ∷ [] =
    ap (λ z. length_octets (suc (suc (suc (suc (suc z)))))) all ∙ length_82 266 (omega arith) (omega arith) in
    ap (λ z. 0x30 ∷ (z ++ ((0x02 ∷ 0x82 ∷ 0x01 ∷ 0x01 ∷ 0x00 ∷ o) ++ tail))) long

pieces : (o : List ℕ) → length o ≡ 256
    → concat (enc INTEGER (0 ∷ o) ∷ enc INTEGER (1 ∷ 0 ∷ 1 ∷ []) ∷ []) ≡ (0x02 ∷ 0x82 ∷ 0x01 ∷ 0x01 ∷ 0x00 ∷ o) ++ tail
pieces o l = rw (modulus-value o l, exponent-value) (ap (λ z. (0x02 ∷ 0x82 ∷ 0x01 ∷ 0x01 ∷ 0x00 ∷ o) ++ z) (append-nil tail))

frame : (o : List ℕ) → length o ≡ 256 →
    enc SEQUENCE (concat (enc INTEGER (0 ∷ o) ∷ enc INTEGER (1 ∷ 0 ∷ 1 ∷ []) ∷ [])) ≡ head ++ (o ++ tail)
frame o l = ap (λ z. enc SEQUENCE z) (pieces o l) ∙ whole-value o l

-- the bits of a key of the RPKI
pub key-bits : (bits : List ℕ) (n e : ℕ) → IsRpkiRsaKey n e bits → bits ≡ head ++ (i2osp n 256 ++ tail)
key-bits bits n e k =
    let first = k.key.modulus_is in
    let second = k.key.exponent_is in
    let modulus = modulus-octets (first.first ∷ first.more) n (content-of n k.key.modulus first) k.size.low k.size.high in
    let exponent = exponent-octets (second.first ∷ second.more) e k.size.exponent (content-of e k.key.exponent second) in
    let modulus-is : k.key.modulus ≡ enc INTEGER (0 ∷ i2osp n 256) = first.enc.is ∙ ap (enc INTEGER) modulus in
    let exponent-is : k.key.exponent ≡ enc INTEGER (1 ∷ 0 ∷ 1 ∷ []) = second.enc.is ∙ ap (enc INTEGER) exponent in
    k.key.sequence.is ∙ (rw (modulus-is, exponent-is) (frame (i2osp n 256) (length-i2osp n 256)))

-- which octets stand in them
pub key-octets : (bits o : List ℕ) (n e : ℕ) → bits ≡ head ++ (o ++ tail) → IsRpkiRsaKey n e bits → o ≡ i2osp n 256
key-octets bits o n e b k =
    append_cancel_right o (i2osp n 256) tail
    (append_cancel_left head (o ++ tail) (i2osp n 256 ++ tail) (sym b ∙ key-bits bits n e k))

size-number : (n e : ℕ) → IsRpkiSize n e → os2ip (i2osp n 256) ≡ n
size-number n e t = os2ip-i2osp n 256 ∙ mod-eq_of_lt t.high

-- the modulus of a key in this frame is the number of its octets
pub key-modulus : (bits o : List ℕ) (n e : ℕ) → bits ≡ head ++ (o ++ tail) → IsRpkiRsaKey n e bits → n ≡ os2ip o
key-modulus bits o n e b k =
    sym (size-number n e k.size) ∙ sym (ap os2ip (key-octets bits o n e b k))

-- and what they have to be
pub key-long : (bits o : List ℕ) (n e : ℕ) → bits ≡ head ++ (o ++ tail) → IsRpkiRsaKey n e bits → length o ≡ 256
key-long bits o n e b k = ap length (key-octets bits o n e b k) ∙ length-i2osp n 256

-- a modulus whose top bit is 0 is none of a key of the RPKI
pub key-high : (bits o : List ℕ) (n e : ℕ) → bits ≡ head ++ (o ++ tail) → AreOctets o → length o ≡ 256 →
    get_or o 0 0 < 128 → IsRpkiRsaKey n e bits → ⊥
key-high bits o n e b a l h k =
    let below : os2ip o < 2 ^ 2047 = first-low o 255 a l h in
    let low : 2 ^ 2047 ≤ os2ip o = rw (← key-modulus bits o n e b k) k.size.low in
    lt_irrefl (os2ip o) (le_trans below low)

-- an even modulus is none of a key of the RPKI
pub key-odd : (bits o : List ℕ) (n e : ℕ) → bits ≡ head ++ (o ++ tail) → length o ≡ 256 → get_or o 255 0 % 2 ≡ 0 → IsRpkiRsaKey n e bits → ⊥
key-odd bits o n e b l h k =
    let one : os2ip o % 2 ≡ 1 = rw (← key-modulus bits o n e b k) k.size.odd in
    parity (os2ip o % 2) (last-parity o 255 l ∙ h) one
  where
    parity : (z : ℕ) → z ≡ 0 → z ≡ 1 → ⊥
    parity z a c = omega arith

-- ---- the other way round

after-zero : (o : List ℕ) (k : ℕ) → length o ≡ suc k → 128 ≤ get_or o 0 0 → IsInteger (0 ∷ o)
after-zero [] k l h = absurd (omega arith)
after-zero (x ∷ xs) k l h = ((λ e. h), λ e. absurd (omega arith))

small : {m : ℕ} → m ≡ 256 → suc m < 2 ^ 32
small e = omega arith

is-modulus : (o : List ℕ) → AreOctets o → length o ≡ 256 → 128 ≤ get_or o 0 0 → IsNumber (os2ip o) (enc INTEGER (0 ∷ o))
unfolding os2ip
is-modulus o a l h = record {
  first = 0;
  more = o;
  enc = record { octet = omega arith; low_tag = omega arith; octets = (omega arith, a); short = small l; is = refl };
  shortest = after-zero o 255 l h;
  not_negative = omega arith;
  is = os2ip-digits o;
}

is-exponent : IsNumber 65537 (enc INTEGER (1 ∷ 0 ∷ 1 ∷ []))
is-exponent = record {
  first = 1;
  more = 0 ∷ 1 ∷ [];
  enc = record {
    octet = omega arith;
    low_tag = omega arith;
    octets = (omega arith, (omega arith, (omega arith, tt)));
    short = omega arith;
    is = refl;
  };
  shortest = ((λ e. absurd (omega arith)), λ e. absurd (omega arith));
  not_negative = omega arith;
  is = refl;
}

is-sequence : (bits o : List ℕ) → bits ≡ head ++ (o ++ tail) → AreOctets o → length o ≡ 256
    → IsSequence (enc INTEGER (0 ∷ o) ∷ enc INTEGER (1 ∷ 0 ∷ 1 ∷ []) ∷ []) bits
is-sequence bits o b a l =
    let content = (0x02 ∷ 0x82 ∷ 0x01 ∷ 0x01 ∷ 0x00 ∷ o) ++ tail in
    let octets : AreOctets content = AreOctets-append (0x02 ∷ 0x82 ∷ 0x01 ∷ 0x01 ∷ 0x00 ∷ o) tail
    (omega arith, (omega arith, (omega arith, (omega arith, (omega arith, a)))))
    (omega arith, (omega arith, (omega arith, (omega arith, (omega arith, tt))))) in
    let short : length content < 2 ^ 32 = omega (arith, length-append o tail) in
    record {
      octet = omega arith;
      low_tag = omega arith;
      octets = rw (pieces o l) octets;
      short = rw (pieces o l) short;
      is = b ∙ sym (frame o l);
    }

-- the bits are those of a key of the RPKI
pub takes : (bits o : List ℕ) → bits ≡ head ++ (o ++ tail) → AreOctets o → length o ≡ 256 → 128 ≤ get_or o 0 0 → get_or o 255 0 % 2 ≡ 1
    → IsOnlyModulus bits o
takes bits o b a l h p =
    let n : ℕ = os2ip o in
    let low : 2 ^ 2047 ≤ n = first-high o 255 l h in
    let high : n < 2 ^ 2048 = rw l at (os2ip-below o a) in
    record {
      long = l;
      key = record {
        key = record {
          modulus = enc INTEGER (0 ∷ o);
          exponent = enc INTEGER (1 ∷ 0 ∷ 1 ∷ []);
          modulus_is = is-modulus o a l h;
          exponent_is = is-exponent;
          sequence = is-sequence bits o b a l;
        };
        size = record { low = low; high = high; odd = last-parity o 255 l ∙ p; exponent = refl };
      };
      only = λ n e k. (key-modulus bits o n e b k, k.size.exponent);
    }

-- whether there is such a key
pub is-key-iff : {X : Type 0} (octets : X → List ℕ) (o : Option X) (bits : List ℕ) (r : Bool) → r ≡ is_some o
    → MatchOption o ((n e : ℕ) → IsRpkiRsaKey n e bits → ⊥) (λ x. IsOnlyModulus bits (octets x)) → IsTrue r ↔ IsRpkiKey bits
is-key-iff octets None bits r is none = (λ t. absurd cc, λ k. absurd (none k.0 k.1 k.2))
is-key-iff octets (Some x) bits r is one = (λ t. (os2ip (octets x), 65537, one.key), λ k. is)

-- the octets within the bits
pub within : (bits o : List ℕ) → bits ≡ head ++ (o ++ tail) → AreOctets bits → AreOctets o
within bits o b a = AreOctets-front (o ++ tail) o tail refl (AreOctets-after bits head (o ++ tail) b a)
