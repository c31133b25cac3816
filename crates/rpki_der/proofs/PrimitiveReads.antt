-- Values of the primitive types, both ways.
use Rattle.std.specs.Int.Digits.{number_from_digits}
use Rattle.std.proofs.Common.{◌≡◌, ℕ, ◌+◌, ◌-◌, ◌*◌, ◌%◌, ◌^◌, ◌<◌, ◌≤◌, Bool, true, false, not, ◌&&◌, ◌||◌, cond}
use Rattle.std.proofs.Common.{eqb, ltb, List, [], ◌∷◌, ◌++◌, length, get_or, take, drop, Option, Some, None, refl}
use Rattle.std.proofs.Common.{sym, ap, subst, ◌∙◌, arith, inl, inr}
use Rattle.std.proofs.lemmas.Bool.{cases_Bool, cases_eq, ltb-true, ltb-false, lt-ltb, le-ltb, eqb-true, eq-eqb}
use Rattle.std.proofs.lemmas.Bool.{and_parts, and_from, and_right, or_cases, or_left, or_right, not-true}
use Rattle.std.proofs.lemmas.Bool.{not_from_false}
use Rattle.std.proofs.lemmas.List.{take-append-drop}
use Rattle.std.proofs.Math.Seq.{take-length}
use Rattle.std.proofs.lemmas.Nat.{pow-add}
use Rattle.std.proofs.Math.Nat.{mul-add-mod_self_right}
use Rattle.std.proofs.lemmas.Int.Digits.{number_after_append, number_after_ge, number_more}
use Rattle.rpki_der.specs.Values.{length_octets, enc, IsEnc}
use Rattle.rpki_der.specs.Primitives.{IsNull, IsBits, IsU32, IsUnsigned, IsBoolOrFalse, IsInteger, IsNumber}
use Rattle.rpki_der.specs.Primitives.Reading.{null_of, null_at, or_false, bool_or_false_at, has_zero_bits, bits_of}
use Rattle.rpki_der.specs.Primitives.Reading.{bits_at, is_unsigned, unsigned_of, unsigned_at, number_below, u32_at}
use Rattle.rpki_der.specs.Primitives.Reading.{bool_of, bool_at}
use Rattle.rpki_der.specs.Reading.{content, optional, Reads, ReadsBefore, ReadsOrAbsent, Inside, Optional, BeginWith}
use Rattle.rpki_der.specs.Encoding.{BeginsOther}
use Rattle.rpki_der.specs.Tags.{BIT_STRING, BOOLEAN, INTEGER, NULL}
use Rattle.rpki_der.proofs.Octets.{if_some, some_is, nothing}
use Rattle.rpki_der.proofs.Readings.{content_reads, same_reads}
use Rattle.rpki_der.proofs.Optionals.{optional_or_absent, absent_before, map_value_or_absent}

-- ---- OCTET STRING

-- ---- NULL

abbrev IsEmpty : Unit {0} → List ℕ → Type 0
IsEmpty u c = c ≡ []

null_takes : (c : List ℕ) (u : Unit {0}) → null_of c ≡ Some u → c ≡ []
null_takes [] u e = refl
null_takes (b ∷ c) u e = absurd cc

null_is : (u : Unit {0}) (text : List ℕ) → Inside NULL IsEmpty u text → IsNull u text
unfolding enc length_octets
null_is u text s = s.2.is ∙ ap (enc NULL) s.1

is_null : (u : Unit {0}) (text : List ℕ) → IsNull u text → Inside NULL IsEmpty u text
unfolding enc length_octets
is_null u text e = ([], refl, record { octet = omega arith; low_tag = omega arith; octets = tt; short = omega arith; is = e })

-- NULL is read as it is encoded
pub null_reads : Reads null_at IsNull
unfolding null_at
null_reads =
    same_reads (content NULL null_of) (Inside NULL IsEmpty) IsNull
    (content_reads NULL null_of IsEmpty (record { takes = λ c u fits e. null_takes c u e; again = λ u c e. rw e refl }))
    null_is is_null

-- ---- BOOLEAN

abbrev IsFlag : Bool → List ℕ → Type 0
IsFlag b c = c ≡ cond b 0xFF 0x00 ∷ []

abbrev IsBoolean : Bool → List ℕ → Type 0
IsBoolean b text = text ≡ BOOLEAN ∷ 1 ∷ cond b 0xFF 0x00 ∷ []

flag_takes : (c : List ℕ) (b : Bool) → bool_of c ≡ Some b → IsFlag b c
flag_takes [] b e = absurd cc
flag_takes (n ∷ []) b e =
    elim (cases_Bool (eqb n 0xFF)) [
      | inl y ↦ rw (eqb-true n 0xFF y, ← some_is true b (rw y at e)) refl
      | inr n1 ↦ elim (cases_Bool (eqb n 0x00)) [
        | inl y ↦ rw (eqb-true n 0x00 y, ← some_is false b (rw (n1, y) at e)) refl
        | inr n2 ↦ nothing b (rw (n1, n2) at e)
      ]
    ]
flag_takes (n ∷ m ∷ c) b e = absurd cc

flag_again : (b : Bool) → bool_of (cond b 0xFF 0x00 ∷ []) ≡ Some b
flag_again true = refl
flag_again false = refl

flag_is : (b : Bool) (text : List ℕ) → Inside BOOLEAN IsFlag b text → IsBoolean b text
unfolding enc length_octets
flag_is b text s = s.2.is ∙ ap (enc BOOLEAN) s.1

octet_of : (b : Bool) → cond b 0xFF 0x00 < 256
octet_of true = omega arith
octet_of false = omega arith

is_flag : (b : Bool) (text : List ℕ) → IsBoolean b text → Inside BOOLEAN IsFlag b text
unfolding enc length_octets
is_flag b text e = (
  cond b 0xFF 0x00 ∷ [],
  refl,
  record { octet = omega arith; low_tag = omega arith; octets = (octet_of b, tt); short = omega arith; is = e },
)

bool_reads : Reads bool_at IsBoolean
unfolding bool_at
bool_reads =
    same_reads (content BOOLEAN bool_of) (Inside BOOLEAN IsFlag) IsBoolean
    (content_reads BOOLEAN bool_of IsFlag (record { takes = λ c b fits e. flag_takes c b e; again = λ b c s. rw s (flag_again b) }))
    flag_is is_flag

bool_begins : BeginWith BOOLEAN IsBoolean
bool_begins b text s = (1 ∷ cond b 0xFF 0x00 ∷ [], s)

from_option : (o : Option Bool) (text : List ℕ) → Optional IsBoolean o text → IsBoolOrFalse (or_false o) text
from_option None text s = inl s
from_option (Some true) text s = s
from_option (Some false) text s = inr s

to_option : (b : Bool) (text : List ℕ) → IsBoolOrFalse b text → (o : Option Bool) × (or_false o ≡ b) × Optional IsBoolean o text
to_option true text s = (Some true, refl, s)
to_option false text s = elim s [ inl e ↦ (None, refl, e) | inr e ↦ (Some false, refl, e) ]

-- a BOOLEAN DEFAULT FALSE is read as it is encoded
pub bool_or_false : ReadsOrAbsent BOOLEAN bool_or_false_at IsBoolOrFalse
unfolding bool_or_false_at
bool_or_false = map_value_or_absent BOOLEAN or_false (optional BOOLEAN bool_at) (Optional IsBoolean) IsBoolOrFalse
    (optional_or_absent BOOLEAN bool_at IsBoolean bool_reads bool_begins) from_option to_option

-- what follows decides whether it is absent: `before_then` and `inside_before` lead on
pub bool_or_false_reads : ReadsBefore (BeginsOther BOOLEAN) bool_or_false_at IsBoolOrFalse
bool_or_false_reads = absent_before BOOLEAN bool_or_false_at IsBoolOrFalse bool_or_false

-- ---- BIT STRING

low_bits : (k a b : ℕ) → k < 8 → (a * 256 + b) % 2 ^ k ≡ b % 2 ^ k
low_bits k a b few =
    let split : k + (8 - k) ≡ 8 = omega arith in
    let power : 2 ^ k * 2 ^ (8 - k) ≡ 256 = sym (pow-add 2 k (8 - k)) ∙ ap (λ (n : ℕ). 2 ^ n) split in
    let product : a * 256 ≡ a * 2 ^ (8 - k) * 2 ^ k = omega (arith, ap (λ (n : ℕ). a * n) power) in
    ap (λ (n : ℕ). (n + b) % 2 ^ k) product ∙ mul-add-mod_self_right (a * 2 ^ (8 - k)) (2 ^ k) b

-- the last octet alone decides
pub last_octet : (unused : ℕ) (octets : List ℕ) → unused < 8 → 0 < length octets →
    number_from_digits 256 octets % 2 ^ unused ≡ get_or octets (length octets - 1) 0 % 2 ^ unused
last_octet unused octets few some_octet =
    let i = length octets - 1 in
    let last : length octets - 1 < length octets = omega arith in
    let end : length octets - 1 + 1 ≡ length octets = omega arith in
    let whole : number_from_digits 256 octets ≡ number_from_digits 256 (take i octets) * 256 + get_or octets i 0 =
    ap (number_from_digits 256) (sym (take-length octets) ∙ ap (λ (k : ℕ). take k octets) (sym end)) ∙
    number_more 256 octets i last in
    ap (λ (n : ℕ). n % 2 ^ unused) whole ∙ low_bits unused (number_from_digits 256 (take i octets)) (get_or octets i 0) few

abbrev AreBits : ℕ × List ℕ → List ℕ → Type 0
AreBits v c = (c ≡ v.0 ∷ v.1) × (v.0 < 8) × (v.1 ≡ [] → v.0 ≡ 0) × (number_from_digits 256 v.1 % 2 ^ v.0 ≡ 0)

zero_bits_are : (unused : ℕ) (octets : List ℕ) → has_zero_bits unused octets ≡ true → AreBits (unused, octets) (unused ∷ octets)
zero_bits_are unused [] e = let none : unused ≡ 0 = eqb-true unused 0 e in (refl, omega (arith, none), λ _. none, rw none refl)
zero_bits_are unused (b ∷ octets) e =
    let parts = and_parts _ _ e in
    (refl, ltb-true unused 8 parts.0, λ empty. absurd cc, eqb-true _ 0 parts.1)

are_zero_bits : (unused : ℕ) (octets : List ℕ) → unused < 8 → (octets ≡ [] → unused ≡ 0) →
    number_from_digits 256 octets % 2 ^ unused ≡ 0 → has_zero_bits unused octets ≡ true
are_zero_bits unused [] few none zero_bits = eq-eqb unused 0 (none refl)
are_zero_bits unused (b ∷ octets) few none zero_bits = and_from _ _ (lt-ltb unused 8 few) (eq-eqb _ 0 zero_bits)

bits_takes : (c : List ℕ) (v : ℕ × List ℕ) → bits_of c ≡ Some v → AreBits v c
bits_takes [] v e = absurd cc
bits_takes (unused ∷ octets) v e =
    let made : ℕ × List ℕ = (unused, octets) in
    let g = if_some (has_zero_bits unused octets) made v e in
    subst (λ (w : ℕ × List ℕ). AreBits w (unused ∷ octets)) g.1 (zero_bits_are unused octets g.0)

bits_again : (v : ℕ × List ℕ) (c : List ℕ) → AreBits v c → bits_of c ≡ Some v
bits_again v c s = rw (s.0, are_zero_bits v.0 v.1 s.1 s.2 s.3) refl

-- a BIT STRING is read as it is encoded
pub bits_reads : Reads bits_at IsBits
unfolding bits_at
bits_reads =
    same_reads (content BIT_STRING bits_of) (Inside BIT_STRING AreBits) IsBits
    (content_reads BIT_STRING bits_of AreBits
    (record { takes = λ c v fits e. bits_takes c v e; again = bits_again }))
    (λ v text s. record { enc = subst (λ (c : List ℕ). IsEnc BIT_STRING c text) s.1.0 s.2; few = s.1.1; none = s.1.2; zero_bits = s.1.3 })
    (λ v text b. (v.0 ∷ v.1, (refl, b.few, b.none, b.zero_bits), b.enc))

-- ---- INTEGER

-- a number is no less than a front and one octet more
pub number_grows : (octets : List ℕ) (i : ℕ) → i < length octets →
    number_from_digits 256 (take i octets) * 256 ≤ number_from_digits 256 octets
number_grows octets i lt =
    let more = number_more 256 octets i lt in
    let split : number_from_digits 256 octets ≡ number_from_digits 256 (take (i + 1) octets ++ drop (i + 1) octets) =
    ap (number_from_digits 256) (sym (take-append-drop (i + 1) octets)) in
    let all = number_after_append 256 0 (take (i + 1) octets) (drop (i + 1) octets) in
    omega (arith, more, split, all, number_after_ge 256 (number_from_digits 256 (take (i + 1) octets)) (drop (i + 1) octets) (omega arith))

abbrev IsNumberContent : ℕ → ℕ → List ℕ → Type 0
IsNumberContent limit n c = (n ≡ number_from_digits 256 c) × (n < limit) × (is_unsigned c ≡ true)

below_takes : (limit : ℕ) (c : List ℕ) (n : ℕ) → number_below limit c ≡ Some n → IsNumberContent limit n c
below_takes limit c n e =
    let g = if_some (is_unsigned c && ltb (number_from_digits 256 c) limit) (number_from_digits 256 c) n e in
    let parts = and_parts _ _ g.0 in
    let small : number_from_digits 256 c < limit = ltb-true _ limit parts.1 in
    (sym g.1, omega (arith, g.1), parts.0)

below_again : (limit n : ℕ) (c : List ℕ) → IsNumberContent limit n c → number_below limit c ≡ Some n
below_again limit n c s = rw (s.2, ← s.0, lt-ltb n limit s.1) refl

-- what is too large is not read
pub too_large : (limit : ℕ) (c : List ℕ) → limit ≤ number_from_digits 256 c → number_below limit c ≡ None
too_large limit c large = rw (and_right (is_unsigned c) _ (le-ltb (number_from_digits 256 c) limit large)) refl

number_takes : (x : ℕ) (more : List ℕ) → is_unsigned (x ∷ more) ≡ true → IsInteger (x ∷ more) × (x < 128)
number_takes x [] e = (tt, ltb-true x 128 e)
number_takes x (y ∷ rest) e =
    let parts = and_parts (ltb x 128) (ltb 0 x || not (ltb y 128)) e in
    let low : x < 128 = ltb-true x 128 parts.0 in
    let high : x ≡ 0 → 128 ≤ y = λ z. elim (or_cases (ltb 0 x) (not (ltb y 128)) parts.1) [
      | inl p ↦ let positive : 0 < x = ltb-true 0 x p in absurd (omega arith)
      | inr p ↦ ltb-false y 128 (not-true _ p)
    ] in
    ((high, λ z. absurd (omega arith)), low)

number_again : (x : ℕ) (more : List ℕ) → IsInteger (x ∷ more) → x < 128 → is_unsigned (x ∷ more) ≡ true
number_again x [] s low = lt-ltb x 128 low
number_again x (y ∷ rest) s low =
    let second : (ltb 0 x || not (ltb y 128)) ≡ true = elim (cases_eq x 0) [
      | inl z ↦ or_right (ltb 0 x) (not (ltb y 128)) (not_from_false _ (le-ltb y 128 (s.0 z)))
      | inr positive ↦ or_left (ltb 0 x) (not (ltb y 128)) (lt-ltb 0 x (omega arith))
    ] in
    and_from _ _ (lt-ltb x 128 low) second

number_is : (limit n : ℕ) (c text : List ℕ) → IsNumberContent limit n c → IsEnc INTEGER c text → IsNumber n text × (n < limit)
number_is limit n [] text s v = absurd cc
number_is limit n (x ∷ more) text s v =
    let h = number_takes x more s.2 in
    (record { first = x; more = more; enc = v; shortest = h.0; not_negative = h.1; is = s.0 }, s.1)

-- an INTEGER from 0 on, below a limit, is read as it is encoded
pub number_reads : (limit : ℕ) → Reads (content INTEGER (number_below limit)) (λ n b. IsNumber n b × (n < limit))
number_reads limit =
    same_reads (content INTEGER (number_below limit)) (Inside INTEGER (IsNumberContent limit)) (λ n b. IsNumber n b × (n < limit))
    (content_reads INTEGER (number_below limit) (IsNumberContent limit)
    (record { takes = λ c n fits e. below_takes limit c n e; again = below_again limit }))
    (λ n text s. number_is limit n s.0 text s.1 s.2)
    (λ n text s. (s.0.first ∷ s.0.more, (s.0.is, s.1, number_again s.0.first s.0.more s.0.shortest s.0.not_negative), s.0.enc))

-- an INTEGER from 0 to 2^32 - 1 is read as it is encoded
pub u32_reads : Reads u32_at IsU32
unfolding u32_at
u32_reads =
    same_reads (content INTEGER (number_below (2 ^ 32))) (λ n b. IsNumber n b × (n < 2 ^ 32)) IsU32 (number_reads (2 ^ 32))
    (λ n text s. record { number = s.0; small = s.1 })
    (λ n text s. (s.number, s.small))

abbrev IsUnsignedContent : List ℕ → List ℕ → Type 0
IsUnsignedContent content c = (c ≡ content) × (is_unsigned c ≡ true)

unsigned_takes : (c content : List ℕ) → unsigned_of c ≡ Some content → IsUnsignedContent content c
unsigned_takes c content e = let g = if_some (is_unsigned c) c content e in (g.1, g.0)

unsigned_again : (content c : List ℕ) → IsUnsignedContent content c → unsigned_of c ≡ Some content
unsigned_again content c s = rw s.1 (ap Some s.0)

unsigned_is : (c text : List ℕ) → is_unsigned c ≡ true → IsEnc INTEGER c text → IsUnsigned c text
unsigned_is [] text tests v = absurd cc
unsigned_is (x ∷ more) text tests v =
    let h = number_takes x more tests in
    record { first = x; more = more; is = refl; shortest = h.0; not_negative = h.1; enc = v }

is_one : (c text : List ℕ) (s : IsUnsigned c text) → is_unsigned c ≡ true
is_one c text s = rw s.is (number_again s.first s.more (rw s.is at s.shortest) s.not_negative)

-- an INTEGER from 0 on is read as it is encoded
pub unsigned_reads : Reads unsigned_at IsUnsigned
unfolding unsigned_at
unsigned_reads =
    same_reads (content INTEGER unsigned_of) (Inside INTEGER IsUnsignedContent) IsUnsigned
    (content_reads INTEGER unsigned_of IsUnsignedContent (record { takes = λ c v fits e. unsigned_takes c v e; again = unsigned_again }))
    (λ c text s. subst (λ (d : List ℕ). IsUnsigned d text) s.1.0 (unsigned_is s.0 text s.1.1 s.2))
    (λ c text s. (c, (refl, is_one c text s), s.enc))
