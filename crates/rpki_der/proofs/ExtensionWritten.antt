-- What is written of an extension encodes it.
use Rattle.std.proofs.Common.{ℕ, ◌≤◌, ◌++◌, Bool, List, length, refl, arith}
use Rattle.std.proofs.lemmas.List.{length-append}
use Rattle.rpki_der.specs.Values.{AreOctets, enc}
use Rattle.rpki_der.specs.Primitives.{IsOid, bool_or_false}
use Rattle.rpki_der.specs.Extensions.{Extension, IsExtension, extension, extension_content, extension_format, extension_part}
use Rattle.rpki_der.specs.Tags.{OBJECT_IDENTIFIER, OCTET_STRING, SEQUENCE}
use Rattle.rpki_der.proofs.ValueWritten.{Short, append_short, content_short, enc_longer, enc_octets, flag_made, identifier_made, made}
use Rattle.rpki_der.proofs.WrittenOctets.{IfShort, ok_append, ok_enc, ok_flag}

parts_short : (id : List ℕ) (critical : Bool) (content : List ℕ) → Short (extension_part id critical content).inside →
    Short (enc OBJECT_IDENTIFIER id) × Short (enc OCTET_STRING content)
unfolding extension_format
parts_short id critical content h =
    let front = append_short (enc OBJECT_IDENTIFIER id) (bool_or_false critical ++ enc OCTET_STRING content) h in
    (front.0, (append_short (bool_or_false critical) (enc OCTET_STRING content) front.1).1)

-- what is written of an extension encodes it, if what stands inside its SEQUENCE is short
pub extension_encoded : (x : Extension) → IsOid x.identifier →
    Short (extension_part x.identifier x.critical x.content).inside →
    IsExtension x (extension x.identifier x.critical x.content)
unfolding extension_format
extension_encoded x oid h =
    let short = parts_short x.identifier x.critical x.content h in (
      extension_content x.identifier (bool_or_false x.critical) x.content,
      (
        enc OBJECT_IDENTIFIER x.identifier,
        bool_or_false x.critical ++ enc OCTET_STRING x.content,
        identifier_made x.identifier oid short.0,
        (
          bool_or_false x.critical,
          enc OCTET_STRING x.content,
          flag_made x.critical,
          made OCTET_STRING x.content (omega arith) short.1,
          refl,
        ),
        refl,
      ),
      record { octet = omega arith; low_tag = omega arith; octets = h.1; short = h.0; is = refl },
    )

inside_short : (id : List ℕ) (critical : Bool) (content : List ℕ) → Short (extension id critical content) →
    Short (extension_part id critical content).inside
unfolding extension_format
inside_short id critical content h = content_short SEQUENCE _ h

-- and if it is short itself
pub extension_made : (x : Extension) → IsOid x.identifier → Short (extension x.identifier x.critical x.content) →
    IsExtension x (extension x.identifier x.critical x.content)
extension_made x oid h = extension_encoded x oid (inside_short x.identifier x.critical x.content h)

-- an extension that is short has a short content
pub extension_content_short : (id : List ℕ) (critical : Bool) (content : List ℕ) → Short (extension id critical content) → Short content
extension_content_short id critical content h =
    content_short OCTET_STRING content (parts_short id critical content (inside_short id critical content h)).1

-- what stands inside the SEQUENCE consists of octets where the extension does
pub extension_inside_octets : (id : List ℕ) (critical : Bool) (content : List ℕ) →
    AreOctets (extension id critical content) → AreOctets (extension_part id critical content).inside
unfolding extension_format
extension_inside_octets id critical content h = enc_octets SEQUENCE (extension_content id (bool_or_false critical) content) h

-- what is written of an extension, if short, consists of octets where its content does
pub ok_extension : (id : List ℕ) (critical : Bool) (content : List ℕ) → AreOctets id → IfShort content →
    IfShort (extension id critical content)
unfolding extension_format
ok_extension id critical content o h =
    ok_enc SEQUENCE _ (omega arith)
    (ok_append (enc OBJECT_IDENTIFIER id) (bool_or_false critical ++ enc OCTET_STRING content)
    (ok_enc OBJECT_IDENTIFIER id (omega arith) (λ l. o))
    (ok_append (bool_or_false critical) (enc OCTET_STRING content) (λ l. ok_flag critical) (ok_enc OCTET_STRING content (omega arith) h)))

-- what stands inside the SEQUENCE isn't longer than the extension
pub extension_longer : (id : List ℕ) (critical : Bool) (content : List ℕ) →
    length (extension_part id critical content).inside ≤ length (extension id critical content)
unfolding extension_format
extension_longer id critical content = enc_longer SEQUENCE (extension_content id (bool_or_false critical) content)

-- a content isn't longer than what stands inside the SEQUENCE
pub content_longer : (id : List ℕ) (critical : Bool) (content : List ℕ) →
    length content ≤ length (extension_part id critical content).inside
unfolding extension_format
content_longer id critical content =
    omega (
      arith,
      enc_longer OCTET_STRING content,
      length-append (bool_or_false critical) (enc OCTET_STRING content),
      length-append (enc OBJECT_IDENTIFIER id) (bool_or_false critical ++ enc OCTET_STRING content),
    )
