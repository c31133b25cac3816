-- Extensions, how they are encoded, and the one encoding that is written (RFC 5280 4.1, 4.1.2.9,
-- 4.2; X.690 11.1, 11.5).
use Rattle.std.specs.Prelude.{ℕ, Bool, List, [], ◌++◌, Option, Some, None}
use Rattle.rpki_der.specs.BasicFormats.{object_identifier, boolean_default_false, octet_string}
use Rattle.rpki_der.specs.Formats.{Format, SEQUENCE_WITH, ◌∶◌, ◌⨟◌, part}
use Rattle.rpki_der.specs.Tags.{OCTET_STRING, OBJECT_IDENTIFIER}
use Rattle.rpki_der.specs.Values.{enc}
use Rattle.rpki_der.specs.Writers.{Part}
pub mod Views

-- identifier, critical flag, and content of the OCTET STRING
pub record Extension : Type 0 where
  pub identifier : List ℕ
  pub critical : Bool
  pub content : List ℕ

-- Extension ::= SEQUENCE {
--   extnID OBJECT IDENTIFIER, critical BOOLEAN DEFAULT FALSE, extnValue OCTET STRING }
--   (RFC 5280 4.1)
unfoldable pub extension_format : Format Extension
extension_format = SEQUENCE_WITH (λ x. record { identifier = x.0; critical = x.1.0; content = x.1.1 })
    ((λ x. x.identifier) ∶ object_identifier
    ⨟ (λ x. x.critical) ∶ boolean_default_false
    ⨟ (λ x. x.content) ∶ octet_string)

-- it is encoded so
abbrev pub IsExtension : Extension → List ℕ → Type 0
IsExtension = extension_format.encodes

-- ---- what is written

-- what stands inside its SEQUENCE, with the flag as it is written
abbrev pub extension_content : List ℕ → List ℕ → List ℕ → List ℕ
extension_content id flag content = enc OBJECT_IDENTIFIER id ++ (flag ++ enc OCTET_STRING content)

-- the encoding of an Extension, and what stands inside its SEQUENCE
abbrev pub extension_part : List ℕ → Bool → List ℕ → Part
extension_part id critical content = part extension_format (record { identifier = id; critical = critical; content = content })

-- the encoding of an Extension
abbrev pub extension : List ℕ → Bool → List ℕ → List ℕ
extension id critical content = (extension_part id critical content).written

-- an extension that is written where it has a content
pub record OptionalExtension : Type 0 where
  pub identifier : List ℕ
  pub critical : Bool
  pub content : Option (List ℕ)

-- the encoding of an Extension where it has a content, else no octets
abbrev pub extension_of_some : List ℕ → Bool → Option (List ℕ) → List ℕ
extension_of_some identifier critical None = []
extension_of_some identifier critical (Some content) = extension identifier critical content

-- what stands inside its SEQUENCE
abbrev pub content_of_some : List ℕ → Bool → Option (List ℕ) → List ℕ
content_of_some identifier critical None = []
content_of_some identifier critical (Some content) = (extension_part identifier critical content).inside

-- the encoding of an extension that may be absent
abbrev pub text : OptionalExtension → List ℕ
text x = extension_of_some x.identifier x.critical x.content

-- the encoding of an extension that may be absent, and what stands inside its SEQUENCE
abbrev pub part_of : OptionalExtension → Part
part_of x = record { written = text x; inside = content_of_some x.identifier x.critical x.content }
