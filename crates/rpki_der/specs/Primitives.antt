-- Values of the primitive types (X.690 8.2, 8.3, 8.6, 8.8, 8.19, 11.1, 11.2).
use Rattle.std.specs.Int.Digits.{number_from_digits, digits_of}
use Rattle.std.specs.Prelude.{◌≡◌, ℕ, ◌⊎◌, Bool, true, false, List, [], ◌∷◌, ◌<◌, ◌≤◌, ◌^◌, ◌++◌, ◌%◌, cond, nat_lt}
use Rattle.rpki_der.specs.Tags.{BOOLEAN, INTEGER, OBJECT_IDENTIFIER, BIT_STRING, NULL}
use Rattle.rpki_der.specs.Values.{IsEnc, enc}
pub mod Reading

-- BOOLEAN DEFAULT FALSE (X.690 8.2, 11.1): an explicit FALSE is read too (own)
abbrev pub IsBoolOrFalse : Bool → List ℕ → Type 0
IsBoolOrFalse true b = b ≡ BOOLEAN ∷ 1 ∷ 255 ∷ []
IsBoolOrFalse false b = (b ≡ []) ⊎ (b ≡ BOOLEAN ∷ 1 ∷ 0 ∷ [])

-- the content of an INTEGER (X.690 8.3): at least one octet, and the first nine bits are neither
-- all 0 nor all 1
abbrev pub IsInteger : List ℕ → Type 0
IsInteger [] = ⊥
IsInteger (x ∷ []) = Unit {0}
IsInteger (x ∷ y ∷ rest) = ((x ≡ 0 → 128 ≤ y) × (x ≡ 255 → y < 128))

-- INTEGER (0..MAX)
pub record IsNumber (n : ℕ) (b : List ℕ) : Type 0 where
  pub first : ℕ
  pub more : List ℕ
  pub enc : IsEnc INTEGER (first ∷ more) b
  pub shortest : IsInteger (first ∷ more)
  pub not_negative : first < 128
  pub is : n ≡ number_from_digits 256 (first ∷ more)

-- INTEGER (0..MAX) with this content: the octets of the number, the highest first
pub record IsUnsigned (content b : List ℕ) : Type 0 where
  pub first : ℕ
  pub more : List ℕ
  pub is : content ≡ first ∷ more
  pub shortest : IsInteger content
  pub not_negative : first < 128
  pub enc : IsEnc INTEGER content b

-- INTEGER (0..4294967295)
pub record IsU32 (n : ℕ) (b : List ℕ) : Type 0 where
  pub number : IsNumber n b
  pub small : n < 2 ^ 32

-- the content of an OBJECT IDENTIFIER (X.690 8.19): the last octet is below 80, and no
-- subidentifier begins with 80, so wherever 80 stands an octet of 80 or more stands before it
pub record IsOid (id : List ℕ) : Type 0 where
  pub front : List ℕ
  pub last : ℕ
  pub is : id ≡ front ++ last ∷ []
  pub ends : last < 128
  pub no_padding : (x y : List ℕ) → id ≡ x ++ 128 ∷ y → (z : List ℕ) × (k : ℕ) × (x ≡ z ++ k ∷ []) × (128 ≤ k)

-- OBJECT IDENTIFIER with this content (X.690 8.19)
pub record IsObjectIdentifier (id b : List ℕ) : Type 0 where
  pub enc : IsEnc OBJECT_IDENTIFIER id b
  pub oid : IsOid id

-- BIT STRING (X.690 8.6, 11.2): unused bits at its end, which are 0, and octets
pub record IsBitString (unused : ℕ) (octets b : List ℕ) : Type 0 where
  pub enc : IsEnc BIT_STRING (unused ∷ octets) b
  pub few : unused < 8
  pub none : octets ≡ [] → unused ≡ 0
  pub zero_bits : number_from_digits 256 octets % 2 ^ unused ≡ 0

-- BIT STRING, as a pair of the count of unused bits and the octets
abbrev pub IsBits : ℕ × List ℕ → List ℕ → Type 0
IsBits v b = IsBitString v.0 v.1 b

-- NULL (X.690 8.8)
abbrev pub null : List ℕ
null = NULL ∷ 0 ∷ []

-- NULL (X.690 8.8)
abbrev pub IsNull : Unit {0} → List ℕ → Type 0
IsNull u b = b ≡ null

-- ---- what is written

-- the encoding of a BOOLEAN (X.690 8.2, 11.1)
abbrev pub boolean : Bool → List ℕ
boolean true = BOOLEAN ∷ 1 ∷ 255 ∷ []
boolean false = BOOLEAN ∷ 1 ∷ 0 ∷ []

-- the encoding of a BOOLEAN DEFAULT FALSE: none of FALSE (X.690 11.5)
abbrev pub bool_or_false : Bool → List ℕ
bool_or_false true = BOOLEAN ∷ 1 ∷ 255 ∷ []
bool_or_false false = []

-- the content of an INTEGER: with a 0 before a first octet of 80 or more, and for no octets
abbrev pub unsigned : List ℕ → List ℕ
unsigned [] = 0 ∷ []
unsigned (d ∷ ds) = cond (nat_lt d 128) (d ∷ ds) (0 ∷ d ∷ ds)

-- the encoding of an INTEGER from 0 on
unfoldable pub number : ℕ → List ℕ
number n = enc INTEGER (unsigned (digits_of 256 n))
