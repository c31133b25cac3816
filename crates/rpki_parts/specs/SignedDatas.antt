-- Signed data: a value, an algorithm and a signature (RFC 5280 4.1.1, 5.1.1).
use Rattle.std.specs.Prelude.{ℕ, List, [], Option, Some, None}
use Rattle.rpki_der.specs.BasicFormats.{any_value}
use Rattle.rpki_der.specs.Formats.{Format, fields, tagged, ◌∶◌, ◌⨟◌, part}
use Rattle.rpki_der.specs.Tags.{SEQUENCE}
use Rattle.rpki_der.specs.Values.Reading.{◌>>=◌}
use Rattle.rpki_der.specs.Writers.{Part}
use Rattle.rpki_parts.specs.Algorithms.{algorithm_format}
use Rattle.rpki_parts.specs.Keys.{whole_bits_format}
use Rattle.rpki_parts.specs.Signatures.{SignatureFields}

-- what a contract sees of a SignedData
pub record SignedFields : Type 0 where
  pub message : List ℕ
  pub signature : SignatureFields

-- the content of SEQUENCE { tbsCertificate TBSCertificate or tbsCertList TBSCertList,
--   signatureAlgorithm AlgorithmIdentifier, signatureValue BIT STRING }   (RFC 5280 4.1, 5.1)
-- of the value that is signed nothing is read but its identifier and length, and the BIT STRING has
-- no unused bits (own)
unfoldable pub signed_content_format : Format SignedFields
signed_content_format = fields (λ x. record { message = x.0; signature = record { algorithm = x.1.0; value = x.1.1 } })
    ((λ s. s.message) ∶ any_value
    ⨟ (λ s. s.signature.algorithm) ∶ algorithm_format
    ⨟ (λ s. s.signature.value) ∶ whole_bits_format)

-- it is encoded so
abbrev pub IsSignedDataContent : SignedFields → List ℕ → Type 0
IsSignedDataContent = signed_content_format.encodes

-- what is written inside the SEQUENCE of signed data
abbrev pub signed_content : SignedFields → List ℕ
signed_content = signed_content_format.written

-- the encoding of signed data
abbrev pub signed_data : SignedFields → List ℕ
signed_data = (tagged SEQUENCE signed_content_format).written

-- the encoding of signed data, and what stands inside its SEQUENCE
abbrev pub signed_part : SignedFields → Part
signed_part = part (tagged SEQUENCE signed_content_format)

-- ---- what is signed

-- signed data, of which what is signed encodes the fields
abbrev pub AreSigned : {F : Type 0} → (F → List ℕ → Type 0) → F × SignedFields → List ℕ → Type 0
AreSigned encodes p text = IsSignedDataContent p.1 text × encodes p.0 p.1.message

-- what is signed is kept, and read where it stands
abbrev pub signed_at : {F : Type 0} → (List ℕ → Option (F × List ℕ)) → List ℕ → Option ((F × SignedFields) × List ℕ)
signed_at read octets = do
  s ← signed_content_format.read octets
  f ← read octets
  Some ((f.0, s.0), s.1)

-- signed data whose message is kept, and read by its format too
abbrev pub signed : {F : Type 0} → Format F → Format (F × SignedFields)
signed f = record {
  encodes = AreSigned f.encodes;
  read = signed_at f.read;
  fits = λ p. signed_content_format.fits p.1 × f.encodes p.0 p.1.message;
  written = λ p. signed_content p.1;
  inside = λ p. signed_content p.1;
  heads = None;
  least = 1;
  shut = [];
}
