-- AS number resources of a certificate (RFC 3779 3.2.3, RFC 6487 4.8.11).
use Rattle.std.specs.Prelude.{ℕ, ◌==◌, not, nat_le, List, [], ◌∷◌, Some, Option}
use Rattle.std.specs.Option.{option_map}
use Rattle.rpki_der.specs.BasicFormats.{u32_format}
use Rattle.rpki_der.specs.FormatChoices.{CHOICE, image, such_that}
use Rattle.rpki_der.specs.Formats.{Format, tagged, fields, ◌∶◌, ◌⨟◌}
use Rattle.rpki_der.specs.Values.{nested}
use Rattle.rpki_der.specs.Tags.{CONTEXT_CONSTRUCTED, SEQUENCE}
use Rattle.rpki_blocks.specs.Sets.{Block, between}
use Rattle.rpki_blocks.specs.Resources.{Resources}
use Rattle.rpki_blocks.specs.Unions.{resource_choice, written_choice}

-- ASId ::= INTEGER   (RFC 3779 3.2.3.10)
-- restricted to 0 to 2^32 - 1 (RFC 6793), as the block of this number
abbrev pub as_id_format : Format Block
as_id_format = image (λ n. Some (between n n)) (λ r. r.min) u32_format

-- min ASId, max ASId: in order
abbrev pub as_ends_format : Format Block
as_ends_format = such_that (λ r. nat_le r.min r.max) (fields (λ x. between x.0 x.1)
    ((λ r. r.min) ∶ u32_format
    ⨟ (λ r. r.max) ∶ u32_format))

-- ASRange ::= SEQUENCE { min ASId, max ASId }   (RFC 3779 3.2.3.8)
-- a range of one number is read too (own)
unfoldable pub as_range_format : Format Block
as_range_format = tagged SEQUENCE as_ends_format

-- ASIdOrRange ::= CHOICE { id ASId, range ASRange }   (RFC 3779 3.2.3.5)
-- a block of one number is written as an ASId
unfoldable pub as_id_or_range_format : Format Block
as_id_or_range_format = CHOICE SEQUENCE (λ r. not (r.min == r.max)) as_range_format as_id_format

-- ASIdentifiers ::= SEQUENCE {   (RFC 3779 3.2.3.1)
--   asnum [0] EXPLICIT ASIdentifierChoice OPTIONAL, rdi [1] EXPLICIT ASIdentifierChoice OPTIONAL }
-- restricted to asnum, which is there, without rdi (RFC 6487 4.8.11)
unfoldable pub as_identifiers_format : Format Resources
as_identifiers_format = tagged SEQUENCE (tagged (CONTEXT_CONSTRUCTED 0) (resource_choice as_id_or_range_format))

-- it is encoded so
abbrev pub IsASIdentifiers : Resources → List ℕ → Type 0
IsASIdentifiers = as_identifiers_format.encodes

-- ---- what is written

-- ASRange
abbrev pub as_range : ℕ → ℕ → List ℕ
as_range min max = as_range_format.written (between min max)

-- ASIdOrRange: a block of one number as an INTEGER, else a range
abbrev pub as_block : Block → List ℕ
as_block = as_id_or_range_format.written

-- ASIdentifiers
abbrev pub written_as : Resources → Option (List ℕ)
written_as r = option_map (nested (SEQUENCE ∷ CONTEXT_CONSTRUCTED 0 ∷ [])) (written_choice as_block r)
