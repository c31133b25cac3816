-- SEQUENCEs of what an identifier decides are lawful.
use Rattle.std.proofs.Common.{◌≡◌, ℕ, true, List, ◌++◌, Option, refl, arith}
use Rattle.rpki_der.specs.BasicFormats.{object_identifier}
use Rattle.rpki_der.specs.Choices.{AndThen}
use Rattle.rpki_der.specs.Formats.{IsLawful}
use Rattle.rpki_der.specs.Primitives.{IsObjectIdentifier}
use Rattle.rpki_der.specs.Primitives.Reading.{is_oid, oid_at}
use Rattle.rpki_der.specs.Reading.{ReadsWhole}
use Rattle.rpki_der.specs.Tags.{OBJECT_IDENTIFIER, SEQUENCE}
use Rattle.rpki_der.specs.Values.{enc}
use Rattle.rpki_der.proofs.FormatChoices.{primitive_lawful}
use Rattle.rpki_der.proofs.IdentifierReads.{oid_reads, oid_takes}
use Rattle.rpki_der.proofs.Octets.{AreOctets-after, bind_some}
use Rattle.rpki_der.proofs.ValueWritten.{Short, append_short, identifier_made}
use Rattle.rpki_der.proofs.WrittenOctets.{IfShort, all_octets, literal, ok_append, ok_enc}
use Rattle.rpki_ext.specs.Contents.{SEQUENCE_BY, identified}

-- an identifier that is a constant
pub constant_oid : (id : List ℕ) → is_oid id ≡ true → all_octets id ≡ true → object_identifier.fits id
constant_oid id is octets = (oid_takes id is, literal id octets)

-- a SEQUENCE of what an identifier decides, where what is behind each is read as it is encoded
pub sequence_by_lawful : {V : Type 0} (of : List ℕ → List ℕ → Option V) (is : List ℕ → V → List ℕ → Type 0)
    (fits : V → Type 0) (identifier written : V → List ℕ) → ((id : List ℕ) → ReadsWhole (of id) (is id))
    → ((v : V) → fits v → object_identifier.fits (identifier v)) → ((v : V) → fits v → IfShort (written v)) →
    ((v : V) → fits v → Short (written v) → is (identifier v) v (written v)) →
    IsLawful (SEQUENCE_BY of is fits identifier written)
sequence_by_lawful of is fits identifier written law known octets encodes =
    primitive_lawful SEQUENCE (identified of) (AndThen IsObjectIdentifier is) fits
    (λ v. enc OBJECT_IDENTIFIER (identifier v) ++ written v) (omega arith) (omega arith)
    (record {
      takes = λ c v low e.
          let a = bind_some (oid_at c) (λ id. of id.0 id.1) v e in
          let one = oid_reads.takes c a.0.0 a.0.1 low a.1 in
          (a.0.0, one.text, a.0.1, one.encoded, (law a.0.0).takes a.0.1 v (AreOctets-after c one.text a.0.1 one.parts low) a.2, one.parts);
      again = λ v c s. rw (s.5, oid_reads.again s.0 s.1 s.2 s.3) ((law s.0).again v s.2 s.4);
    })
    (λ v f. ok_append (enc OBJECT_IDENTIFIER (identifier v)) (written v)
    (ok_enc OBJECT_IDENTIFIER (identifier v) (omega arith) (λ l. (known v f).1)) (octets v f))
    (λ v f short. let shorts = append_short (enc OBJECT_IDENTIFIER (identifier v)) (written v) short in (
      identifier v,
      enc OBJECT_IDENTIFIER (identifier v),
      written v,
      identifier_made (identifier v) (known v f).0 shorts.0,
      encodes v f shorts.1,
      refl,
    ))
