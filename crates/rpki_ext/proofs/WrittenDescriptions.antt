-- What is written of Subject Information Access, piece by piece.
use Rattle.std.proofs.Common.{◌≡◌, ℕ, ◌+◌, ◌≤◌, List, [], ◌∷◌, ◌++◌, length, take, arith, refl, ap, sym, ◌∙◌, append_assoc}
use Rattle.std.proofs.lemmas.List.{length-append, length-take, take-take, take_at}
use Rattle.rpki_der.specs.Skipping.{levels}
use Rattle.rpki_ext.specs.SubjectAccess.{Access, Description, description_format, description_if, descriptions, written_all}
use Rattle.rpki_ext.specs.declared.subject_access.AccessMethod.TheVariants.{CaRepository, RpkiManifest, SignedObject, RpkiNotify}

all_append : (ds es : List Description) → written_all (ds ++ es) ≡ written_all ds ++ written_all es
all_append [] es = refl
all_append (d ∷ ds) es = ap (λ (b : List ℕ). (description_format levels).written d ++ b) (all_append ds es) ∙
    sym (append_assoc ((description_format levels).written d) (written_all ds) (written_all es))

long_both : (ds es : List Description) → length (written_all (ds ++ es)) ≡ length (written_all ds) + length (written_all es)
long_both ds es = ap length (all_append ds es) ∙ length-append (written_all ds) (written_all es)

four_shorter : (a b c d : List Description) → (length (written_all a) ≤ length (written_all (a ++ (b ++ (c ++ d))))) ×
    (length (written_all b) ≤ length (written_all (a ++ (b ++ (c ++ d))))) ×
    (length (written_all c) ≤ length (written_all (a ++ (b ++ (c ++ d))))) ×
    (length (written_all d) ≤ length (written_all (a ++ (b ++ (c ++ d)))))
four_shorter a b c d =
    let all = long_both a (b ++ (c ++ d)) in
    let rest = long_both b (c ++ d) in
    let last = long_both c d in
    (omega arith, omega arith, omega arith, omega arith)

-- each behind what was there before
pub one_by_one : (a : Access) (old one two three new : List ℕ) →
    one ≡ old ++ written_all (description_if CaRepository a.ca_repository) →
    two ≡ one ++ written_all (description_if RpkiManifest a.rpki_manifest) →
    three ≡ two ++ written_all (description_if SignedObject a.signed_object)
    → new ≡ three ++ written_all (description_if RpkiNotify a.rpki_notify) → new ≡ old ++ written_all (descriptions a)
one_by_one a old one two three new e f g h = rw (h, g, f, e) (simp (all_append, append_assoc) refl)

-- no piece is longer than all
pub pieces_shorter : (a : Access) →
    (length (written_all (description_if CaRepository a.ca_repository)) ≤ length (written_all (descriptions a))) ×
    (length (written_all (description_if RpkiManifest a.rpki_manifest)) ≤ length (written_all (descriptions a)))
    × (length (written_all (description_if SignedObject a.signed_object)) ≤ length (written_all (descriptions a))) ×
    (length (written_all (description_if RpkiNotify a.rpki_notify)) ≤ length (written_all (descriptions a)))
pieces_shorter a = four_shorter (description_if CaRepository a.ca_repository)
    (description_if RpkiManifest a.rpki_manifest) (description_if SignedObject a.signed_object)
    (description_if RpkiNotify a.rpki_notify)

-- what stood there stays, if what stands there now does
pub front_kept : (old now new : List ℕ) → take (length now) new ≡ now → take (length old) now ≡ old → take (length old) new ≡ old
front_kept old now new kept front =
    let within : length old ≤ length now = omega (arith, ap length front, length-take (length old) now) in
    sym (take-take (length old) (length now) new within) ∙ ap (take (length old)) kept ∙ front

-- what is appended leaves it
pub front_of : (old now more : List ℕ) → now ≡ old ++ more → take (length old) now ≡ old
front_of old now more is = ap (take (length old)) is ∙ take_at old more (length old) refl
