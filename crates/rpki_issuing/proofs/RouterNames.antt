-- The name of a router as it is written.
use Rattle.std.proofs.Common.{◌≡◌, ℕ, ◌<◌, List, [], ◌∷◌, ◌++◌, length, refl, arith}
use Rattle.std.proofs.lemmas.Bool.{lt-ltb}
use Rattle.rpki_der.specs.Tags.{OBJECT_IDENTIFIER, PRINTABLE_STRING, SEQUENCE, SET}
use Rattle.rpki_der.specs.Values.{enc, length_octets}
use Rattle.rpki_parts.specs.KeyNames.{key_name_format, name_of_digits}
use Rattle.rpki_parts.specs.Names.{common_name}

enc_short : (t : ℕ) (c : List ℕ) (n : ℕ) → length c ≡ n → n < 128 → enc t c ≡ t ∷ n ∷ c
unfolding enc length_octets
enc_short t c n e h = rw (e, lt-ltb n 128 h) refl

abbrev attribute_content : List ℕ → List ℕ
attribute_content text = OBJECT_IDENTIFIER ∷ 3 ∷ 0x55 ∷ 4 ∷ 3 ∷ PRINTABLE_STRING ∷ 15 ∷ text

abbrev attribute_octets : List ℕ → List ℕ
attribute_octets text = SEQUENCE ∷ 22 ∷ attribute_content text

abbrev set_octets : List ℕ → List ℕ
set_octets text = SET ∷ 24 ∷ attribute_octets text

-- what stands before the text
abbrev pub before_text : List ℕ
before_text = SEQUENCE ∷ 26 ∷ set_octets []

-- a router's name is a fixed front and its text of 15 octets
pub name-text : (text : List ℕ) → length text ≡ 15 → name_of_digits text ≡ before_text ++ text
unfolding key_name_format
name-text text e =
    let id : enc OBJECT_IDENTIFIER common_name ≡ OBJECT_IDENTIFIER ∷ 3 ∷ common_name =
    enc_short OBJECT_IDENTIFIER common_name 3 refl (omega arith) in
    let one : enc PRINTABLE_STRING text ≡ PRINTABLE_STRING ∷ 15 ∷ text =
    enc_short PRINTABLE_STRING text 15 e (omega arith) in
    let two : enc SEQUENCE (attribute_content text) ≡ attribute_octets text =
    enc_short SEQUENCE (attribute_content text) 22 (omega arith) (omega arith) in
    let three : enc SET (attribute_octets text) ≡ set_octets text = enc_short SET (attribute_octets text) 24
    (omega arith) (omega arith) in
    let four : enc SEQUENCE (set_octets text) ≡ before_text ++ text =
    enc_short SEQUENCE (set_octets text) 26 (omega arith) (omega arith) in
    rw (id, one, two, three) four
