-- What is told of the parts at which reading may stop: a table, in the order in which the types
-- name them.
use Prim.Native.String.{String}
use Rattle.std.specs.Prelude.{ℕ, List, codes}
use Rattle.rpki_files.specs.KnownKinds.{kind_name, kind_wanted}
use Rattle.rpki_files.specs.declared.expected.Field.{Field}
use Rattle.rpki_files.specs.declared.expected.Field.TheVariants as field
use Rattle.rpki_files.specs.declared.expected.Part.{Part}
use Rattle.rpki_files.specs.declared.expected.Part.TheVariants as part
use Rattle.rpki_files.specs.declared.kinds.Kind.{Kind}

-- its name, and what has to stand there, with the section that asks it
pub record PartFields : Type 0 where
  pub name : List ℕ
  pub wanted : List ℕ

-- these
abbrev pub part_words : String → String → PartFields
part_words name wanted = record { name = codes name; wanted = codes wanted }

-- of a field
abbrev pub field_text : Field → PartFields
field_text field.Version = part_words "the version" "version 3: the INTEGER 2 in [0], and nothing after it (RFC 6487 4.1)"
field_text field.ListVersion = part_words "the version" "version 2: the INTEGER 1 (RFC 6487 5)"
field_text field.Serial =
    part_words "the serial number" "an INTEGER that isn't negative, of at most 20 bytes (RFC 5280 4.1.2.2)"
field_text field.Algorithm = part_words "the signature algorithm" "sha256WithRSAEncryption (RFC 7935 2)"
field_text field.Issuer = part_words "the issuer" "a Name (RFC 5280 4.1.2.4)"
field_text field.Validity =
    part_words "the validity" "two times to the second, UTCTime before 2050 (RFC 5280 4.1.2.5)"
field_text field.Subject = part_words "the subject" "a Name (RFC 5280 4.1.2.6)"
field_text field.Key =
    part_words "the public key" "an RSA key or one on the curve P-256 (RFC 7935 3, RFC 8608 3.1)"
field_text field.ThisUpdate =
    part_words "this update" "a time to the second, UTCTime before 2050 (RFC 5280 5.1.2.4)"
field_text field.NextUpdate =
    part_words "next update" "a time to the second, UTCTime before 2050 (RFC 5280 5.1.2.5)"
field_text field.SignatureAlgorithm =
    part_words "the algorithm of the signature" "sha256WithRSAEncryption (RFC 7935 2)"

-- of an extension of a kind
abbrev pub kind_part_text : Kind → PartFields
kind_part_text k = record { name = kind_name k; wanted = kind_wanted k }

-- of a part
abbrev pub part_description : Part → PartFields
part_description part.Outer = part_words "the outer SEQUENCE" "a SEQUENCE that ends within the file (RFC 5280 4.1, 5.1)"
part_description part.Signed = part_words "the to-be-signed part" "a SEQUENCE (RFC 5280 4.1, 5.1)"
part_description (part.Field f) = field_text f
part_description part.Entries = part_words "the revoked certificates" "a SEQUENCE (RFC 5280 5.1.2.6)"
part_description part.Entry =
    part_words "a revoked certificate" "a serial number and a time, and nothing after them (RFC 6487 5)"
part_description part.Extensions = part_words "the extensions" "a SEQUENCE of all that must be there (RFC 6487 4.8, 5)"
part_description part.Extension =
    part_words "an extension" "an identifier, TRUE if it is critical, and an OCTET STRING (RFC 5280 4.1)"
part_description (part.Kind k) = kind_part_text k
part_description (part.Second k) = kind_part_text k
part_description part.Behind = part_words "what follows the extensions" "nothing (RFC 5280 4.1, 5.1)"
part_description part.OtherAlgorithm =
    part_words "the algorithm of the signature" "the one in the to-be-signed part (RFC 5280 5.1.1.2)"
part_description part.Signature =
    part_words "the signature" "a BIT STRING of whole bytes, and nothing after it (RFC 5280 4.1.1.3, 5.1.1.3)"
