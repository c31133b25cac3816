-- Signed data are lawful: how they are read, what is written of them, and what is signed.
use Rattle.std.proofs.Common.{◌≡◌, ◌<◌, ◌^◌, ℕ, List, [], ◌∷◌, ◌++◌, length, Option, None, refl, sym, ap, subst, ◌∙◌, arith, append_assoc}
use Rattle.std.proofs.lemmas.List.{length-append}
use Rattle.rpki_der.specs.BasicFormats.{any_value}
use Rattle.rpki_der.specs.Encoding.{Begins}
use Rattle.rpki_der.specs.Formats.{Format, Follows, IsLawful, Starts, then, ◌∶◌, ◌⨟◌}
use Rattle.rpki_der.specs.Reading.{Reads}
use Rattle.rpki_der.specs.Tags.{BIT_STRING, SEQUENCE}
use Rattle.rpki_der.specs.Values.{AreOctets, IsEnc, IsValue, enc}
use Rattle.rpki_der.specs.Values.Reading.{◌>>=◌}
use Rattle.rpki_der.proofs.BasicFormats.{any_value_lawful}
use Rattle.rpki_der.proofs.FormatAnswers.{IsAlone, alone_reads, after_alone}
use Rattle.rpki_der.proofs.FormatLaws.{fields_lawful, then_lawful}
use Rattle.rpki_der.proofs.Octets.{bind_some, both_are, some, some_is}
use Rattle.rpki_der.proofs.Readings.{before}
use Rattle.rpki_der.proofs.Values.{one_value}
use Rattle.rpki_parts.specs.Algorithms.{IsSignatureAlgorithm, algorithm, algorithm_format}
use Rattle.rpki_parts.specs.Keys.{whole_bits_format}
use Rattle.rpki_parts.specs.SignedDatas.{SignedFields, IsSignedDataContent, AreSigned, signed, signed_at}
use Rattle.rpki_parts.specs.SignedDatas.{signed_content, signed_content_format, signed_data}
use Rattle.rpki_parts.proofs.Lengths.{bits_longer}
use Rattle.rpki_parts.proofs.PartFormats.{algorithm_alone, algorithm_fits, algorithm_is, whole_bits_alone, whole_bits_are, whole_bits_fits}

-- anything may follow the content of signed data
pub signed_content_alone : IsAlone signed_content_format
unfolding signed_content_format algorithm_format whole_bits_format
signed_content_alone = record {
  law = fields_lawful (λ x. record { message = x.0; signature = record { algorithm = x.1.0; value = x.1.1 } })
      ((λ s. s.message) ∶ any_value ⨟ (λ s. s.signature.algorithm) ∶ algorithm_format ⨟ (λ s. s.signature.value) ∶
      whole_bits_format) (λ x. refl) (λ s. refl)
      (then_lawful any_value (then algorithm_format whole_bits_format) refl any_value_lawful
      (after_alone algorithm_format whole_bits_format algorithm_alone whole_bits_alone.law));
  none = refl;
}

-- the parts of the content of signed data
pub record SignedParts (s : SignedFields) (content : List ℕ) : Type 0 where
  pub algorithm : List ℕ
  pub signature : List ℕ
  pub message_is : IsValue s.message
  pub algorithm_is : IsSignatureAlgorithm s.signature.algorithm algorithm
  pub signature_is : whole_bits_format.encodes s.signature.value signature
  pub is : content ≡ s.message ++ (algorithm ++ signature)

-- it is made of them
pub signed_parts : (s : SignedFields) (content : List ℕ) → IsSignedDataContent s content → SignedParts s content
unfolding signed_content_format
signed_parts s content (message, rest, m, (a, b, f, g, q), p) =
    record {
      algorithm = a;
      signature = b;
      message_is = subst IsValue (sym m.1) m.0;
      algorithm_is = f;
      signature_is =
          g;
      is = p ∙ ap (λ (x : List ℕ). x ++ rest) (sym m.1) ∙ ap (λ (x : List ℕ). s.message ++ x) q;
    }

-- and they make it
pub parts_signed : (s : SignedFields) (content : List ℕ) → SignedParts s content → IsSignedDataContent s content
unfolding signed_content_format
parts_signed s content h = (
  s.message,
  h.algorithm ++ h.signature,
  (h.message_is, refl),
  (h.algorithm, h.signature, h.algorithm_is, h.signature_is, refl),
  h.is,
)

-- ---- what is written

module _ (s : SignedFields) (message : IsValue s.message) (octets : AreOctets s.signature.value)
    (short : length (signed_content s) < 2 ^ 32) where
  fits : signed_content_format.fits s
  unfolding signed_content_format whole_bits_format
  fits =
      let front = algorithm s.signature.algorithm in
      let l = length-append s.message (front ++ enc BIT_STRING (0 ∷ s.signature.value)) in (
        message,
        (
          algorithm_fits s.signature.algorithm,
          whole_bits_fits s.signature.value octets (omega (arith, short, bits_longer front s.signature.value)),
        ),
      )

  -- what is written inside signed data is its content
  pub signed_made : IsSignedDataContent s (signed_content s)
  signed_made = signed_content_alone.law.made s fits short

  -- what is written of signed data is a SEQUENCE of its content
  pub signed_enc : IsEnc SEQUENCE (signed_content s) (signed_data s)
  signed_enc = record {
    octet = omega arith;
    low_tag = omega arith;
    octets =
        signed_content_alone.law.octets s fits short;
    short = short;
    is = refl;
  }

-- the content of signed data is what is written of it
pub content_is : (s : SignedFields) (content : List ℕ) → IsSignedDataContent s content → content ≡ signed_content s
unfolding signed_content_format whole_bits_format
content_is s content h =
    let parts = signed_parts s content h in
    parts.is
    ∙ ap (λ (a : List ℕ). s.message ++ (a ++ parts.signature)) (algorithm_is s.signature.algorithm parts.algorithm parts.algorithm_is)
    ∙ ap (λ (b : List ℕ). s.message ++ (algorithm s.signature.algorithm ++ b))
    (whole_bits_are s.signature.value parts.signature parts.signature_is).is

-- ---- what is signed

-- what stands behind the value that is signed
abbrev behind : (s : SignedFields) (text : List ℕ) → SignedParts s text → List ℕ → List ℕ
behind s text h rest = (h.algorithm ++ h.signature) ++ rest

at_front : (s : SignedFields) (text rest : List ℕ) (h : SignedParts s text) → text ++ rest ≡ s.message ++ behind s text h rest
at_front s text rest h = ap (λ (t : List ℕ). t ++ rest) h.is ∙ append_assoc s.message (h.algorithm ++ h.signature) rest

-- signed data of which the message is read lawfully is read as it is encoded
pub signed_reads : {F : Type 0} (read : List ℕ → Option (F × List ℕ)) (encodes : F → List ℕ → Type 0) →
    Reads read encodes → ((f : F) (text : List ℕ) → encodes f text → IsValue text)
    → Reads (signed_at read) (AreSigned encodes)
signed_reads {F} read encodes law value =
    let outer = alone_reads signed_content_format signed_content_alone in
    record {
      takes = λ octets p rest low e.
          let a = bind_some (signed_content_format.read octets)
          (λ s. read octets >>= λ f. some {A = (F × SignedFields) × List ℕ} ((f.0, s.0), s.1)) (p, rest) e in
          let b = bind_some (read octets) (λ f. some {A = (F × SignedFields) × List ℕ} ((f.0, a.0.0), a.0.1)) (p, rest) a.2 in
          let one = outer.takes octets a.0.0 a.0.1 low a.1 in
          let two = law.takes octets b.0.0 b.0.1 low b.1 in
          let parts = signed_parts a.0.0 one.text one.encoded in
          let whole : two.text ++ b.0.1 ≡ a.0.0.message ++ behind a.0.0 one.text parts a.0.1 = sym two.parts ∙
          one.parts ∙ at_front a.0.0 one.text a.0.1 parts in
          let kept = (one_value two.text a.0.0.message b.0.1 _ (value b.0.0 two.text two.encoded) parts.message_is whole).0 in
          let made : (F × SignedFields) × List ℕ = ((b.0.0, a.0.0), a.0.1) in
          subst (λ (q : (F × SignedFields) × List ℕ). Begins (AreSigned encodes) octets q.0 q.1) (some_is made (p, rest) b.2)
          (record {
            text = one.text;
            encoded =
                (one.encoded, subst (λ (t : List ℕ). encodes b.0.0 t) kept two.encoded);
            parts = one.parts;
          });
      again = λ p text rest s.
          let parts = signed_parts p.1 text s.0 in
          let front : read (text ++ rest) ≡ some {A = F × List ℕ} (p.0, behind p.1 text parts rest) =
          ap read (at_front p.1 text rest parts) ∙ law.again p.0 p.1.message (behind p.1 text parts rest) s.1 in
          rw (outer.again p.1 text rest s.0, front) refl;
    }

-- signed data of a message whose format is lawful are lawful
pub signed_lawful : {F : Type 0} (f : Format F) → IsAlone f →
    ((v : F) (text : List ℕ) → f.encodes v text → IsValue text) → IsLawful (signed f)
unfolding signed_content_format
signed_lawful {F} f alone value = record {
  reads = before (Follows []) (signed_at f.read) (AreSigned f.encodes) (signed_reads f.read f.encodes (alone_reads f alone) value);
  starts = λ p text s. some_starts text (signed_content_alone.law.starts p.1 text s.0);
  shorter = λ octets p rest e.
      let a = bind_some (signed_content_format.read octets)
      (λ s. f.read octets >>= λ v. some {A = (F × SignedFields) × List ℕ} ((v.0, s.0), s.1)) (p, rest) e in
      let b = bind_some (f.read octets) (λ v. some {A = (F × SignedFields) × List ℕ} ((v.0, a.0.0), a.0.1)) (p, rest) a.2 in
      omega (arith, signed_content_alone.law.shorter octets a.0.0 a.0.1 a.1, ap length (both_are ((b.0.0, a.0.0), a.0.1) (p, rest) b.2).1);
  octets = λ p fits short. signed_content_alone.law.octets p.1 fits.0 short;
  made = λ p fits short. (signed_content_alone.law.made p.1 fits.0 short, fits.1);
}
  where
    some_starts : (text : List ℕ) → Starts signed_content_format.heads signed_content_format.least text → Starts None 1 text
    some_starts [] s = absurd (omega arith)
    some_starts (n ∷ text) s = refl
