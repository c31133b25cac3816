-- What an IPAddressChoice or an ASIdentifierChoice lists (RFC 3779 2.2.3.4, 3.2.3.2).
use Rattle.std.specs.Prelude.{◌≡◌, ◌≢◌, ℕ, Bool, true, false, List, [], ◌∷◌, flat_map, Option, Some, None}
use Rattle.std.specs.List.{AllByRecursion}
use Rattle.rpki_der.specs.BasicFormats.{null_format}
use Rattle.rpki_der.specs.FormatChoices.{CHOICE, image}
use Rattle.rpki_der.specs.Formats.{Format, SEQUENCE_OF}
use Rattle.rpki_der.specs.Primitives.{null}
use Rattle.rpki_der.specs.Reading.{content}
use Rattle.rpki_der.specs.Tags.{SEQUENCE}
use Rattle.rpki_der.specs.Values.{enc}
use Rattle.rpki_blocks.specs.Sets.{Block, IsChain, HaveSameNumbers}
use Rattle.rpki_blocks.specs.Resources.{Resources, missing, inherit, blocks, listed}
use Rattle.rpki_blocks.specs.Unions.Reading.{union_of}
pub mod Reading

-- r is the set of the numbers of these blocks, which needn't be in order, apart or merged (own)
pub record IsUnion (bs : List Block) (r : Resources) : Type 0 where
  pub chain : List Block
  pub is_chain : IsChain chain
  pub same : HaveSameNumbers chain bs
  pub is : r ≡ listed chain

-- addressesOrRanges SEQUENCE OF IPAddressOrRange, or asIdsOrRanges SEQUENCE OF ASIdOrRange
pub record IsUnionOf (element : Format Block) (r : Resources) (b : List ℕ) : Type 0 where
  pub elements : List Block
  pub encoded : (SEQUENCE_OF element).encodes elements b
  pub union : IsUnion elements r

-- whether a set is listed
abbrev pub is_set : Resources → Bool
is_set missing = false
is_set inherit = false
is_set (blocks bs) = true

-- the blocks of a set
abbrev pub blocks_of : Resources → List Block
blocks_of missing = []
blocks_of inherit = []
blocks_of (blocks bs) = bs

-- such a sequence; of a set its chain is written
abbrev pub union_format : Format Block → Format Resources
union_format element = record {
  encodes = IsUnionOf element;
  read = content SEQUENCE (union_of element.read);
  fits = λ r. (r ≡ listed (blocks_of r)) × IsChain (blocks_of r) × AllByRecursion element.fits (blocks_of r);
  written = λ r. (SEQUENCE_OF element).written (blocks_of r);
  inside = λ r. (SEQUENCE_OF element).inside (blocks_of r);
  heads = Some (SEQUENCE ∷ []);
  least = 1;
  shut = [];
}

-- inherit NULL, of either choice: what the issuer has
abbrev pub inherit_format : Format Resources
inherit_format = image (λ _. Some inherit) (λ _. tt) null_format

-- IPAddressChoice ::= CHOICE {   (RFC 3779 2.2.3.4)
--   inherit NULL, addressesOrRanges SEQUENCE OF IPAddressOrRange }
-- ASIdentifierChoice ::= CHOICE {   (RFC 3779 3.2.3.2)
--   inherit NULL, asIdsOrRanges SEQUENCE OF ASIdOrRange }
unfoldable pub resource_choice : Format Block → Format Resources
resource_choice element = CHOICE SEQUENCE is_set (union_format element) inherit_format

-- ---- what is written

-- nothing where there is nothing to write
abbrev pub text_of : Option (List ℕ) → List ℕ
text_of None = []
text_of (Some text) = text

-- NULL, or a SEQUENCE of blocks; nothing of what is missing
abbrev pub written_choice : (Block → List ℕ) → Resources → Option (List ℕ)
written_choice element missing = None
written_choice element inherit = Some null
written_choice element (blocks bs) = Some (enc SEQUENCE (flat_map element bs))
