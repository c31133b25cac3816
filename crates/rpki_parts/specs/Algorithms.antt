-- The signature algorithm (RFC 7935 2, RFC 4055 5).
use Rattle.std.specs.Prelude.{ℕ, List, [], ◌∷◌, Bool, true, false}
use Rattle.rpki_der.specs.BasicFormats.{object_identifier, null_format}
use Rattle.rpki_der.specs.Formats.{Format, SEQUENCE_WITH, only, PRESENT, ◌∶◌, ◌⨟◌}
use Rattle.rpki_der.specs.Tags.{NULL}

-- sha256WithRSAEncryption, with NULL as its parameters or without any; the Rust struct
-- RpkiSignatureAlgorithm
pub record Algorithm : Type 0 where
  pub has_null : Bool

-- the algorithm with NULL as its parameters
abbrev pub with_null : Algorithm
with_null = record { has_null = true }

-- the algorithm without parameters
abbrev pub without_null : Algorithm
without_null = record { has_null = false }

-- sha256WithRSAEncryption: 1.2.840.113549.1.1.11 (RFC 4055 5)
abbrev pub sha256_with_rsa : List ℕ
sha256_with_rsa = 0x2A ∷ 0x86 ∷ 0x48 ∷ 0x86 ∷ 0xF7 ∷ 0x0D ∷ 0x01 ∷ 0x01 ∷ 0x0B ∷ []

-- NULL OPTIONAL, as whether it stands there
abbrev pub null_or_none : Format Bool
null_or_none = PRESENT NULL null_format

-- AlgorithmIdentifier ::= SEQUENCE {   (RFC 5280 4.1.1.2)
--   algorithm OBJECT IDENTIFIER, parameters ANY DEFINED BY algorithm OPTIONAL }
-- restricted to sha256WithRSAEncryption (RFC 7935 2): parameters are NULL, and may be left out (RFC
-- 4055 5)
unfoldable pub algorithm_format : Format Algorithm
algorithm_format = SEQUENCE_WITH (λ x. record { has_null = x.1 })
    ((λ a. tt) ∶ only sha256_with_rsa object_identifier
    ⨟ (λ a. a.has_null) ∶ null_or_none)

-- it is encoded so
abbrev pub IsSignatureAlgorithm : Algorithm → List ℕ → Type 0
IsSignatureAlgorithm = algorithm_format.encodes

-- the encoding of an AlgorithmIdentifier
abbrev pub algorithm : Algorithm → List ℕ
algorithm = algorithm_format.written
