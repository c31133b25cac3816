-- A rearrangement of a certificate is a certificate with the same fields and signature.
use Rattle.std.specs.List.{AllByRecursion, AllZip, concat}
use Rattle.std.proofs.Common.{◌≡◌, ℕ, List, [], ◌∷◌, ◌++◌, subst, sym, ap, ◌∙◌}
use Rattle.std.proofs.lemmas.List.{same_from_push}
use Rattle.rpki_der.specs.Extensions.{IsExtension}
use Rattle.rpki_der.specs.Skipping.{levels}
use Rattle.rpki_der.specs.Tags.{CONTEXT_CONSTRUCTED, SEQUENCE}
use Rattle.rpki_der.specs.Values.{IsEnc, IsNested, IsValue}
use Rattle.rpki_der.proofs.Formats.{of_enc, same_enc}
use Rattle.rpki_der.proofs.Lists.{weaken}
use Rattle.rpki_der.proofs.Values.{one_value, one_row}
use Rattle.rpki_parts.specs.Signatures.{SignatureFields}
use Rattle.rpki_ext.proofs.Pieces.{sequence_pieces, pieces_sequence}
use Rattle.rpki_parts.proofs.SignedFormats.{SignedParts, parts_signed}
use Rattle.rpki_cert.specs.Certificates.{TbsFields, certificate_content_format, tbs_content_format}
use Rattle.rpki_cert.specs.Rearranged.{IsBuiltOf, IsSomeExtension, IsPassedOver, IsRearrangement, IsCertificateOf}
use Rattle.rpki_cert.proofs.CertificateParts.{all_values, certificate_parts, concat_push, extension_value, zipped_values}
use Rattle.rpki_cert.proofs.Reordering.{all_append, all_moved, from_times}
use Rattle.rpki_cert.proofs.SameExtensions.{GiveAlike, new_give, old_give}

-- ---- values

pub some_value : (piece : List ℕ) → IsSomeExtension piece → IsValue piece
some_value piece h = extension_value h.0 piece h.1

-- ---- the certificate

-- with pieces that give all that the old ones give, all stays but the octets that are signed
module _ (before old new : List (List ℕ)) (behind b c : List ℕ) (p : IsBuiltOf before old behind b)
    (q : IsBuiltOf before new behind c) where
  carried : AllByRecursion IsValue old → GiveAlike old new → (f : TbsFields) (s : SignatureFields) →
      IsCertificateOf f s b → IsCertificateOf f s c
  unfolding certificate_content_format
  carried old_values alike f s w =
      let certificate = certificate_parts levels
      (record { fields = f; signed_data = record { message = w.message; signature = s } }) b w.certificate_is in
      let signed = certificate.signed in
      let inside = certificate.fields in
      let whole : p.tbs ++ behind ≡ w.message ++ (signed.algorithm ++ signed.signature) =
      (same_enc p.whole certificate.enc).1 ∙ signed.is in
      let parts = one_value p.tbs w.message behind (signed.algorithm ++ signed.signature) (of_enc p.tbs_is)
      (of_enc certificate.inside_enc) whole in
      let tbs_is : IsEnc SEQUENCE (concat before ++ p.extensions) w.message =
      subst (λ (m : List ℕ). IsEnc SEQUENCE (concat before ++ p.extensions) m) parts.0 p.tbs_is in
      let contents : concat (before ++ p.extensions ∷ []) ≡ concat (inside.front ++ inside.extensions ∷ []) =
      concat_push before p.extensions ∙ (same_enc tbs_is certificate.inside_enc).1 ∙ inside.is in
      let values = all_append IsValue before (p.extensions ∷ []) p.before_are (of_enc p.extensions_is.1, tt) in
      let same_elements = one_row (before ++ p.extensions ∷ []) (inside.front ++ inside.extensions ∷ []) values
      (all_values inside) contents in
      let ends = same_from_push before inside.front p.extensions inside.extensions same_elements in
      let nested : IsNested (CONTEXT_CONSTRUCTED 3 ∷ SEQUENCE ∷ []) (concat old) inside.extensions =
      subst (λ (e : List ℕ). IsNested (CONTEXT_CONSTRUCTED 3 ∷ SEQUENCE ∷ []) (concat old) e) ends.1
      p.extensions_is in
      let found = sequence_pieces IsExtension inside.triples inside.elements inside.elements_are in
      let outer : inside.extensions_is.0 ≡ nested.0 = (same_enc inside.extensions_is.1 nested.1).1 in
      let sequences_same : inside.elements ≡ concat old =
      sym inside.extensions_is.2.2 ∙
      (same_enc inside.extensions_is.2.1
      (subst (λ (i : List ℕ). IsEnc SEQUENCE nested.2.0 i) (sym outer) nested.2.1)).1 ∙ nested.2.2 in
      let pieces : found.0 ≡ old = one_row found.0 old (zipped_values inside.triples found.0 found.1) old_values
      (sym found.2 ∙ sequences_same) in
      let given = alike inside.triples f.extensions
      (subst (λ (s : List (List ℕ)). AllZip IsExtension inside.triples s) pieces found.1) inside.gives in
      let content : (tbs_content_format levels).encodes f (concat before ++ q.extensions) =
      subst (λ (front : List (List ℕ)). (tbs_content_format levels).encodes f (concat front ++ q.extensions))
      (sym ends.0) (inside.with_others given.0 (concat new) q.extensions
      (pieces_sequence IsExtension given.0 new given.1) q.extensions_is given.2) in
      let signed_is : SignedParts (record { message = q.tbs; signature = s }) (q.tbs ++ behind) = record {
        algorithm = signed.algorithm;
        signature = signed.signature;
        message_is = of_enc q.tbs_is;
        algorithm_is = signed.algorithm_is;
        signature_is = signed.signature_is;
        is = ap (λ (rest : List ℕ). q.tbs ++ rest) parts.1;
      } in
      record {
        message = q.tbs;
        certificate_is = (
          q.tbs ++ behind,
          (
            parts_signed (record { message = q.tbs; signature = s }) (q.tbs ++ behind) signed_is,
            (concat before ++ q.extensions, content, q.tbs_is),
          ),
          q.whole,
        );
      }

module _ (b c : List ℕ) (r : IsRearrangement b c) where
  -- a certificate is still one with its fields after it was rearranged
  pub still_certificate : (f : TbsFields) (s : SignatureFields) → IsCertificateOf f s b → IsCertificateOf f s c
  still_certificate =
      let reordered = from_times IsPassedOver r.old r.new r.counts in
      carried r.before r.old r.new r.behind b c r.old_is r.new_is
      (weaken IsSomeExtension IsValue some_value r.old r.extensions_are) (new_give r.old r.new reordered)

  -- what is a certificate after it was rearranged was one with its fields before
  pub was_certificate : (f : TbsFields) (s : SignatureFields) → IsCertificateOf f s c → IsCertificateOf f s b
  was_certificate =
      let reordered = from_times IsPassedOver r.old r.new r.counts in
      let old_values = weaken IsSomeExtension IsValue some_value r.old r.extensions_are in
      let new_values = all_moved IsPassedOver IsValue (λ piece h. extension_value h.extension piece h.piece_is) r.old
      r.new reordered old_values in
      carried r.before r.new r.old r.behind c b r.new_is r.old_is new_values (old_give r.old r.new r.extensions_are reordered)
