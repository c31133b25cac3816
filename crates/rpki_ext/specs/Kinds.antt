-- Kinds of extensions, and what a kind that stands at most once means (RFC 5280 4.1.2.9, 4.2; RFC
-- 6487 4.8).
use Rattle.std.specs.Prelude.{◌<◌, ◌^◌, length, Bool, Option, Some, None, ◌≡◌, ℕ, List, bytes_eq, filter, [], ◌∷◌}
use Rattle.std.specs.Prelude.{if◌then◌else◌, option_map}
use Rattle.std.specs.List.{list_any}
use Rattle.rpki_der.specs.Extensions.{Extension, OptionalExtension, part_of}
use Rattle.rpki_der.specs.Sequences.{IsAtMostOne}
use Rattle.rpki_der.specs.Formats.{Format}
use Rattle.rpki_der.specs.Writers.{Part}
use Rattle.rpki_blocks.specs.declared.overclaim.Overclaim.{Overclaim}
use Rattle.rpki_blocks.specs.declared.overclaim.Overclaim.TheVariants.{Refuse, Trim}
pub use Rattle.rpki_der.specs.Encoding.{Means}
pub mod Reading

-- ---- kinds

-- the flag of a kind: the one that its extensions must have, or the one that is written where none
-- is asked for
pub data Flag : Type 0 where
  required untested : Bool → Flag

-- the flag that is written
abbrev pub flag_of : Flag → Bool
flag_of (required critical) = critical
flag_of (untested critical) = critical

-- the flag that extensions must have, where it is tested
abbrev pub tested : Flag → Option Bool
tested (required wanted) = Some wanted
tested (untested written) = None

-- the flag is one that an extension of the kind may have
abbrev pub IsFlagFor : Flag → Bool → Type 0
IsFlagFor (required wanted) critical = critical ≡ wanted
IsFlagFor (untested written) critical = Unit {0}

-- A kind of extension, of which each value is a V: the identifier that names it, its flag, and the
-- format of its content
pub record ExtensionKind (V : Type 0) : Type 1 where
  pub identifier : List ℕ
  pub flag : Flag
  pub format : Format V

-- every value can be written
abbrev pub Any : {V : Type 0} → V → Type 0
Any v = Unit {0}

-- under one of these identifiers
abbrev pub is_of : List (List ℕ) → Extension → Bool
is_of ids x = list_any (λ id. bytes_eq x.identifier id) ids

-- these extensions, in their order
abbrev pub only : List (List ℕ) → List Extension → List Extension
only ids xs = filter (is_of ids) xs

-- the one identifier of a kind
abbrev pub identifiers : {V : Type 0} → ExtensionKind V → List (List ℕ)
identifiers kind = kind.identifier ∷ []

-- ---- what extensions mean

-- the extension has the flag of the kind, and its content means v: what follows a front that
-- encodes v in the OCTET STRING is ignored (own)
abbrev pub Tells : {V : Type 0} → ExtensionKind V → Extension → V → Type 0
Tells kind x v = IsFlagFor kind.flag x.critical × Means kind.format.encodes v x.content

-- the value that extensions give for a kind: none where none is of the kind, what the only one
-- tells, and nothing where there are several (RFC 5280 4.2)
abbrev pub Gives : {V : Type 0} → ExtensionKind V → List Extension → Option V → Type 0
Gives kind xs v = IsAtMostOne (Tells kind) (only (identifiers kind) xs) v

-- ---- kinds with an identifier for each mode

-- both identifiers (RFC 8360 4.2.2.1, 4.2.2.3)
abbrev pub identifiers_by_mode : {V : Type 0} → (Overclaim → ExtensionKind V) → List (List ℕ)
identifiers_by_mode kinds = (kinds Refuse).identifier ∷ (kinds Trim).identifier ∷ []

-- the extension stands under the identifier of the mode, and tells v
abbrev pub TellsUnder : {V : Type 0} → (Overclaim → ExtensionKind V) → Overclaim → Extension → V → Type 0
TellsUnder kinds mode x v = (x.identifier ≡ (kinds mode).identifier) × Tells (kinds mode) x v

-- at most one under both identifiers, and that one under the identifier of the mode
abbrev pub GivesUnder : {V : Type 0} → (Overclaim → ExtensionKind V) → Overclaim → List Extension → Option V → Type 0
GivesUnder kinds mode xs v = IsAtMostOne (TellsUnder kinds mode) (only (identifiers_by_mode kinds) xs) v

-- a content means one value
abbrev pub HasOneMeaning : {V : Type 0} → (V → List ℕ → Type 0) → Type 0
HasOneMeaning {V} encodes = (content : List ℕ) (v w : V) → Means encodes v content → Means encodes w content → v ≡ w

-- ---- what is written

-- a value, where it passes the test
abbrev pub kept_if : {V : Type 0} → (V → Bool) → V → Option V
kept_if test v = if test v then Some v else None

-- the extension that is written of a kind's value, if there is one
abbrev pub extension_for : {V : Type 0} → ExtensionKind V → Option V → OptionalExtension
extension_for kind v = record { identifier = kind.identifier; critical = flag_of kind.flag; content = option_map kind.format.written v }

-- what is written of a kind's value, and what stands inside it
abbrev pub part : {V : Type 0} → ExtensionKind V → Option V → Part
part kind v = part_of (extension_for kind v)

-- what is written of a value that fits encodes it, if it has fewer than 2^32 octets
abbrev pub IsReadAgain : {V : Type 0} → ExtensionKind V → Type 0
IsReadAgain {V} kind = (v : V) → kind.format.fits v → length (kind.format.written v) < 2 ^ 32 →
    kind.format.encodes v (kind.format.written v)
