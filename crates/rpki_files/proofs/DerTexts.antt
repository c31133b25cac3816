-- Signed data is no text: the signature, a BIT STRING of whole octets, begins with an octet 0.
use Rattle.std.specs.List.{list_any}
use Rattle.std.proofs.Common.{◌≡◌, ℕ, Bool, true, nat_eq, not, IsTrue, List, [], ◌∷◌, ◌++◌, length, refl, sym, ap}
use Rattle.std.proofs.Common.{◌∙◌, append_assoc, append-nil, inl, inr}
use Rattle.std.proofs.lemmas.Bool.{false≢true, or_right}
use Rattle.std.proofs.lemmas.List.Folds.{list_any-append}
use Rattle.rpki_der.specs.Tags.{BIT_STRING, SEQUENCE}
use Rattle.rpki_der.specs.Values.{IsEnc, enc, length_octets}
use Rattle.rpki_crl.specs.Lists.{certificate_list_content_format, certificate_list_format}
use Rattle.rpki_parts.specs.SignedDatas.{SignedFields}
use Rattle.rpki_der.specs.Skipping.{levels}
use Rattle.rpki_parts.proofs.PartFormats.{whole_bits_are}
use Rattle.rpki_parts.proofs.SignedFormats.{SignedParts, signed_parts}
use Rattle.rpki_cert.proofs.CertificateParts.{certificate_parts}
use Rattle.rpki_files.specs.Contents.{BeginsWithEither}
use Rattle.rpki_files.specs.PemFiles.{IsObjectOf, is_text}

-- these octets have 0
pub record HasZero (octets : List ℕ) : Type 0 where
  pub before : List ℕ
  pub behind : List ℕ
  pub is : octets ≡ before ++ (0 ∷ behind)

-- octets around it
around : (front octets rest : List ℕ) → HasZero octets → HasZero (front ++ (octets ++ rest))
around front octets rest h = record {
  before = front ++ h.before;
  behind = h.behind ++ rest;
  is = ap (λ (l : List ℕ). front ++ (l ++ rest)) h.is ∙ simp append_assoc;
}

-- the content of a value has it
in_value : (tag : ℕ) (content b : List ℕ) → IsEnc tag content b → HasZero content → HasZero b
unfolding enc
in_value tag content b e h =
    let m = around (tag ∷ length_octets (length content)) content [] h in
    record {
      before = m.before;
      behind = m.behind;
      is = e.is ∙ ap (λ (l : List ℕ). tag ∷ (length_octets (length content) ++ l)) (sym (append-nil content)) ∙ m.is;
    }

-- the same octets have it
same : (octets others : List ℕ) → octets ≡ others → HasZero others → HasZero octets
same octets others e h = record { before = h.before; behind = h.behind; is = e ∙ h.is }

-- no text has it
no_text : (octets : List ℕ) → HasZero octets → ¬ IsTrue (is_text octets)
no_text octets h text =
    let p : ℕ → Bool = λ octet. nat_eq octet 0 in
    let has : list_any p octets ≡ true = ap (list_any p) h.is ∙ list_any-append p h.before (0 ∷ h.behind) ∙
    or_right (list_any p h.before) true refl in
    false≢true (ap not (sym has) ∙ text)

-- the last of three pieces
at_end : (a b c : List ℕ) → a ++ (b ++ c) ≡ (a ++ b) ++ (c ++ [])
at_end a b c = simp (append_assoc, append-nil)

-- signed data has it
in_signed : (s : SignedFields) (content : List ℕ) → SignedParts s content → HasZero content
in_signed s content p =
    let bits = in_value BIT_STRING (0 ∷ s.signature.value) p.signature
    (whole_bits_are s.signature.value p.signature p.signature_is)
    (record { before = []; behind = s.signature.value; is = refl }) in
    same content _ (p.is ∙ at_end s.message p.algorithm p.signature) (around (s.message ++ p.algorithm) p.signature [] bits)

-- a certificate and a list are no texts
pub no_text_shown : (octets : List ℕ) → BeginsWithEither octets → ¬ IsTrue (is_text octets)
unfolding certificate_list_format certificate_list_content_format
no_text_shown octets shown =
    elim shown [
      | inl (c, (rest, b)) ↦
          let it = certificate_parts levels c b.text b.encoded in
          no_text octets (same octets _ b.parts
          (around [] b.text rest
          (in_value SEQUENCE it.content b.text it.enc (in_signed c.signed_data it.content it.signed))))
      | inr (r, (rest, b)) ↦
          let (content, (one_algorithm, (signed, fields)), enc) = b.encoded in
          no_text octets (same octets _ b.parts
          (around [] b.text rest
          (in_value SEQUENCE content b.text enc
          (in_signed r.signed_data content (signed_parts r.signed_data content signed)))))
    ]

-- a file of a certificate or a list is taken as it is
pub taken_as_is : (file octets : List ℕ) → IsObjectOf file octets → BeginsWithEither file → octets ≡ file
taken_as_is file octets object shown =
    elim object [
      | inl pem ↦ absurd (no_text_shown file shown pem.is_of_text)
      | inr own ↦ own.0
    ]
