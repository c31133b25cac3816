-- The name of a key is a name.
use Rattle.std.proofs.Common.{◌≡◌, ℕ, ◌*◌, ◌/◌, ◌%◌, ◌^◌, ◌<◌, true, List, [], ◌∷◌, ◌++◌, length, refl, sym, ap, ◌∙◌, arith, inl, inr}
use Rattle.std.proofs.lemmas.List.{append-nil, length-append}
use Rattle.std.proofs.lemmas.Bool.{cases_lt, lt-ltb, le-ltb}
use Rattle.rpki_der.specs.Values.{AreOctets, enc, length_octets, IsEnc}
use Rattle.rpki_der.specs.Skipping.{levels, IsSkippableWithin, IsSkippable}
use Rattle.rpki_der.specs.Primitives.{IsOid}
use Rattle.rpki_der.specs.Formats.{tagged}
use Rattle.rpki_der.proofs.FormatAnswers.{IsAlone, format_laws}
use Rattle.rpki_der.proofs.FormatLaws.{tagged_lawful}
use Rattle.rpki_der.specs.Tags.{OBJECT_IDENTIFIER, PRINTABLE_STRING, SEQUENCE, SET}
use Rattle.rpki_der.proofs.ValueWritten.{plain_oid}
use Rattle.rpki_parts.specs.Names.{common_name, Attribute, attribute_format, is_name, rdn_sequence_format}
use Rattle.rpki_parts.specs.Names.{relative_distinguished_name_format}
use Rattle.rpki_parts.specs.KeyNames.{common_name_format, digit, hexadecimal, key_name_format, name_of_digits}
use Rattle.rpki_parts.proofs.NameReads.{is_name_again}

digit_small : (n : ℕ) → n < 16 → digit n < 256
digit_small n h =
    elim (cases_lt n 10) [
      | inl l ↦ rw (lt-ltb n 10 l) (omega arith)
      | inr g ↦ rw (le-ltb n 10 g) (omega arith)
    ]

-- hexadecimal digits are octets
pub digits_octets : (octets : List ℕ) → AreOctets octets → AreOctets (hexadecimal octets)
digits_octets [] h = tt
digits_octets (x ∷ xs) h = (
  digit_small (x / 16) (let l : x < 256 = h.0 in omega arith),
  (digit_small (x % 16) (omega arith), digits_octets xs h.1),
)

-- there are two hexadecimal digits for each octet
pub length-digits : (octets : List ℕ) → length (hexadecimal octets) ≡ 2 * length octets
length-digits [] = refl
length-digits (x ∷ xs) = let e = length-digits xs in omega arith

enc_short : (t : ℕ) (c : List ℕ) (n : ℕ) → length c ≡ n → n < 128 → enc t c ≡ t ∷ n ∷ c
unfolding enc length_octets
enc_short t c n e h = rw (e, lt-ltb n 128 h) refl

-- the attribute whose value the digits are, and the set of it alone
abbrev attribute_content : List ℕ → List ℕ
attribute_content digits = OBJECT_IDENTIFIER ∷ 3 ∷ 0x55 ∷ 4 ∷ 3 ∷ PRINTABLE_STRING ∷ 40 ∷ digits

abbrev attribute_octets : List ℕ → List ℕ
attribute_octets digits = SEQUENCE ∷ 47 ∷ attribute_content digits

abbrev set_octets : List ℕ → List ℕ
set_octets digits = SET ∷ 49 ∷ attribute_octets digits

-- what stands before the digits
abbrev pub before_digits : List ℕ
before_digits = SEQUENCE ∷ 51 ∷ set_octets []

-- a key's name is a fixed front and the 40 digits
pub name-digits : (digits : List ℕ) → length digits ≡ 40 → name_of_digits digits ≡ before_digits ++ digits
unfolding key_name_format
name-digits digits e =
    let id : enc OBJECT_IDENTIFIER common_name ≡ OBJECT_IDENTIFIER ∷ 3 ∷ common_name =
    enc_short OBJECT_IDENTIFIER common_name 3 refl (omega arith) in
    let one : enc PRINTABLE_STRING digits ≡ PRINTABLE_STRING ∷ 40 ∷ digits = enc_short PRINTABLE_STRING digits 40 e (omega arith) in
    let two : enc SEQUENCE (attribute_content digits) ≡ attribute_octets digits =
    enc_short SEQUENCE (attribute_content digits) 47 (omega arith) (omega arith) in
    let three : enc SET (attribute_octets digits) ≡ set_octets digits = enc_short SET (attribute_octets digits) 49
    (omega arith) (omega arith) in
    let four : enc SEQUENCE (set_octets digits) ≡ before_digits ++ digits = enc_short SEQUENCE (set_octets digits) 51
    (omega arith) (omega arith) in
    rw (id, one, two, three) four

primitive : (content b : List ℕ) → IsEnc PRINTABLE_STRING content b → IsSkippable b
unfolding IsSkippableWithin
primitive content b e = (record { tag = PRINTABLE_STRING; content = content; enc = e }, inl refl)

key_name_alone : IsAlone key_name_format
unfolding key_name_format
key_name_alone = record {
  law = tagged_lawful SEQUENCE (tagged SET common_name_format) (omega arith) (omega arith)
      (tagged_lawful SET common_name_format (omega arith) (omega arith) (search format_laws));
  none = refl;
}

-- a key's name is a Name
pub is_name_of_digits : (digits : List ℕ) → length digits ≡ 40 → AreOctets digits → is_name (name_of_digits digits) ≡ true
unfolding key_name_format rdn_sequence_format relative_distinguished_name_format attribute_format
is_name_of_digits digits e octets =
    let short : length (name_of_digits digits) < 2 ^ 32 = rw (name-digits digits e) (omega (arith, length-append before_digits digits)) in
    let id : IsOid common_name × AreOctets common_name =
    (plain_oid 0x55 (4 ∷ 3 ∷ []) (omega arith, (omega arith, (omega arith, tt))), omega arith) in
    let (set, (attribute, (pieces, (type, value, type_is, value_is, both), attribute_is), set_is), name_is) =
    key_name_alone.law.made digits (id, octets) short in
    let a : Attribute = record { type_id = common_name; value_tag = PRINTABLE_STRING } in
    let encoded : (attribute_format levels).encodes a attribute =
    (pieces, (type, value, type_is, (digits, value_is, primitive digits value value_is), both), attribute_is) in
    let part : (relative_distinguished_name_format levels).encodes (a ∷ []) set =
    (attribute, ((attribute, [], encoded, refl, sym (append-nil attribute)), omega arith), set_is) in
    is_name_again ((a ∷ []) ∷ []) (name_of_digits digits) (set, (set, [], part, refl, sym (append-nil set)), name_is)

-- the name of a key, by its identifier
pub record IsKeyName (id : List ℕ) : Type 0 where
  pub is : name_of_digits (hexadecimal id) ≡ before_digits ++ hexadecimal id
  pub name : is_name (name_of_digits (hexadecimal id)) ≡ true

-- the name that is made of a key identifier of 20 octets is the name of a key
pub key_name : (id : List ℕ) → length id ≡ 20 → AreOctets id → IsKeyName id
key_name id size octets =
    let long : length (hexadecimal id) ≡ 40 = length-digits id ∙ ap (λ (n : ℕ). 2 * n) size in
    record { is = name-digits (hexadecimal id) long; name = is_name_of_digits (hexadecimal id) long (digits_octets id octets) }
