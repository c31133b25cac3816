-- The certificate with the new sequence is a rearrangement of the one that was read.
use Rattle.std.specs.List.{AllByRecursion, concat, sum_by}
use Rattle.std.specs.Prelude.{bytes_eq, IsErrAnd, IsErrOf}
use Rattle.std.proofs.Common.{◌≡◌, ◌⊎◌, ℕ, ◌+◌, ◌^◌, ◌<◌, ◌≤◌, false, cond, List, [], ◌∷◌, ◌++◌, length, get_or}
use Rattle.std.proofs.Common.{Result, Ok, Err, refl, sym, ap, subst, ◌∙◌, arith, inl, inr}
use Rattle.std.proofs.lemmas.Bool.{cases_Bool}
use Rattle.std.proofs.lemmas.List.{length-append}
use Rattle.std.proofs.lemmas.Slice.Eq.{bytes_eq-Decides}
use Rattle.rpki_der.specs.Extensions.{Extension}
use Rattle.rpki_der.specs.Primitives.{IsOid}
use Rattle.rpki_der.specs.Tags.{CONTEXT_CONSTRUCTED, SEQUENCE}
use Rattle.rpki_der.specs.Values.{AreOctets, IsValue, enc, length_octets, nested}
use Rattle.rpki_der.specs.declared.error.EncodeError.{EncodeError}
use Rattle.rpki_der.specs.declared.error.EncodeError.TheVariants.{TooLong, Memory}
use Rattle.rpki_der.proofs.ExtensionWritten.{extension_made}
use Rattle.rpki_der.proofs.Octets.{AreOctets-parts}
use Rattle.rpki_der.proofs.ValueWritten.{Short, content_short, enc_longer, made, nested_made, nested_short, pieces_short}
use Rattle.rpki_cert.specs.Rearranged.{IsBuiltOf, IsPassedOver, IsRearrangement, times}
use Rattle.rpki_cert.specs.Rearranging.{ArePlaced, AreUnknown, BeginsWith, IsPlan, IsRearranged, IsRejected, Parts}
use Rattle.rpki_cert.specs.Rearranging.{added_at, content_with, is_known, new_extensions, tbs_content_with, written}
use Rattle.rpki_cert.specs.Rearranging.Steps.{HaveAdded, HasLong, joined}
use Rattle.rpki_cert.specs.RearrangeErrors.{of_writing}
use Rattle.rpki_cert.specs.declared.extra.Extra.{Extra}
use Rattle.rpki_cert.proofs.Orders.{order_sums, sum_of_places}
use Rattle.rpki_cert.proofs.SequencesMade.{all_added, joined_is, long_sequence, sequence_sums}

-- ---- errors that are passed on

-- what it means that this error says of a part that it is too long
pub passed_on_long : {T U : Type 0} (P : Type 0) (r : Result T EncodeError) (e : EncodeError) →
    IsErrAnd r (λ y. y ≡ e) → (IsErrOf {T = U} {E = EncodeError} (Err e) TooLong → P) → IsErrOf r TooLong → P
passed_on_long P (Ok x) e same says = λ long. absurd cc
passed_on_long {T} {U} P (Err d) e same says = λ long.
    let is : IsErrOf {T = U} {E = EncodeError} (Err e) TooLong = cc in
    says is

-- ---- the octets of the sequence

-- the sequence that is put together is the new sequence of the plan
pub elements_made : (order : List ℕ) (places old : List (List ℕ)) (extras : List Extra) →
    IsPlan (length old) order extras → length places ≡ length old + 1 → HaveAdded (length old + 1) extras places →
    joined order places old ≡ concat (new_extensions order extras old)
elements_made order places old extras plan many have =
    joined_is order places old extras 0 (omega (arith, many, plan.order_is.as_many))
    (λ i below. have i (omega (arith, below, many)) ∙ ap (λ (k : ℕ). concat (added_at k extras)) (omega arith))

placed_in : (order : List ℕ) (count : ℕ) (extras : List Extra) → IsPlan count order extras → ArePlaced (length order) extras
placed_in order count extras plan = subst (λ (n : ℕ). ArePlaced n extras) (sym plan.order_is.as_many) plan.extras_are

-- a new sequence with an added extension that is too long is too long
pub sequence_too_long : (order : List ℕ) (old : List (List ℕ)) (extras : List Extra) →
    IsPlan (length old) order extras → HasLong extras → 2 ^ 32 ≤ length (concat (new_extensions order extras old))
sequence_too_long order old extras plan h = long_sequence order extras old (placed_in order (length old) extras plan) h

-- the sequence stands inside
pub elements_longer : (elements : List ℕ) (p : Parts) → length elements ≤ length (content_with elements p)
elements_longer elements p =
    omega (
      arith,
      length-append (enc SEQUENCE (tbs_content_with elements p)) p.behind,
      enc_longer SEQUENCE (tbs_content_with elements p),
      length-append (concat p.before) (enc (CONTEXT_CONSTRUCTED 3) (enc SEQUENCE elements)),
      enc_longer (CONTEXT_CONSTRUCTED 3) (enc SEQUENCE elements),
      enc_longer SEQUENCE elements,
    )

-- ---- the certificate

octets_inside : (t : ℕ) (c : List ℕ) → AreOctets (enc t c) → AreOctets c
unfolding enc
octets_inside t c h = (AreOctets-parts (length_octets (length c)) c h.1).1

-- the answer, which is written of these parts and fits
module _ (p : Parts) (elements : List (List ℕ)) (answer : List ℕ)
    (is : answer ≡ enc SEQUENCE (content_with (concat elements) p))
    (short : length (content_with (concat elements) p) < 2 ^ 32) (octets : AreOctets answer) where
  inside : AreOctets (content_with (concat elements) p)
  inside = octets_inside SEQUENCE (content_with (concat elements) p) (subst AreOctets is octets)

  tbs_fits : Short (enc SEQUENCE (tbs_content_with (concat elements) p))
  tbs_fits =
      let parts = AreOctets-parts (enc SEQUENCE (tbs_content_with (concat elements) p)) p.behind inside in
      (omega (arith, short, length-append (enc SEQUENCE (tbs_content_with (concat elements) p)) p.behind), parts.0)

  extensions_fit : Short (nested (CONTEXT_CONSTRUCTED 3 ∷ SEQUENCE ∷ []) (concat elements))
  extensions_fit =
      let content = content_short SEQUENCE (tbs_content_with (concat elements) p) tbs_fits in
      let extensions = nested (CONTEXT_CONSTRUCTED 3 ∷ SEQUENCE ∷ []) (concat elements) in
      (omega (arith, content.0, length-append (concat p.before) extensions), (AreOctets-parts (concat p.before) extensions content.1).1)

  -- each piece of the new sequence is short
  pub sequence_fits : AllByRecursion Short elements
  sequence_fits = pieces_short elements (nested_short (CONTEXT_CONSTRUCTED 3 ∷ SEQUENCE ∷ []) (concat elements) extensions_fit)

  -- the answer is put together of its parts
  pub built : AllByRecursion IsValue p.before → IsBuiltOf p.before elements p.behind answer
  built values = record {
    extensions = nested (CONTEXT_CONSTRUCTED 3 ∷ SEQUENCE ∷ []) (concat elements);
    tbs = enc SEQUENCE (tbs_content_with (concat elements) p);
    before_are = values;
    extensions_is = nested_made (CONTEXT_CONSTRUCTED 3 ∷ SEQUENCE ∷ []) (concat elements) (omega arith, (omega arith, tt)) extensions_fit;
    tbs_is = made SEQUENCE (tbs_content_with (concat elements) p) (omega arith) tbs_fits;
    whole = record { octet = omega arith; low_tag = omega arith; octets = inside; short = short; is = is };
  }

-- ---- what is added is passed over

passed : (x : Extra) → is_known x ≡ false → IsOid x.oid → Short (written x) → IsPassedOver (written x)
passed x unknown oid short =
    let e : Extension = record { identifier = x.oid; critical = false; content = x.value } in
    record { extension = e; piece_is = extension_made e oid short; unknown = unknown; not_critical = refl }

-- 1 where the string is the piece
abbrev is_piece : List ℕ → List ℕ → ℕ
is_piece piece x = cond (bytes_eq piece x) 1 0

each_passed : (piece : List ℕ) (extras : List Extra) → AreUnknown extras → AllByRecursion (λ x. IsOid x.oid) extras →
    AllByRecursion (λ x. Short (written x)) extras →
    AllByRecursion (λ x. (is_piece piece (written x) ≡ 0) ⊎ IsPassedOver piece) extras
each_passed piece [] u o s = tt
each_passed piece (x ∷ extras) u o s = (
  elim (cases_Bool (bytes_eq piece (written x))) [
    | inl same ↦
        let is : piece ≡ written x = (bytes_eq-Decides piece (written x)).0 same in
        inr (subst IsPassedOver (sym is) (passed x u.0 o.0 s.0))
    | inr other ↦ inl (rw other refl)
  ],
  each_passed piece extras u.1 o.1 s.1,
)

module _ (octets : List ℕ) (order : List ℕ) (extras : List Extra) (p : Parts) (begins : BeginsWith octets p)
    (plan : IsPlan (length p.old) order extras) (unknown : AreUnknown extras) where
  module _ (oids : AllByRecursion (λ x. IsOid x.oid) extras) (answer : List ℕ)
      (is : answer ≡ enc SEQUENCE (content_with (concat (new_extensions order extras p.old)) p))
      (short : length (content_with (concat (new_extensions order extras p.old)) p) < 2 ^ 32) (are : AreOctets answer) where
    -- the answer is the rearranged certificate
    pub rearranged : IsRearranged octets order extras answer
    rearranged = record {
      parts = p;
      begins = begins;
      plan = plan;
      unknown = unknown;
      built = built p (new_extensions order extras p.old) answer is short are begins.built.before_are;
    }

    counted : (piece : List ℕ) → (times piece (new_extensions order extras p.old) ≡ times piece p.old) ⊎
        (IsPassedOver piece × (times piece p.old ≤ times piece (new_extensions order extras p.old)))
    counted piece =
        let f : List ℕ → ℕ = is_piece piece in
        let shorts = all_added Short order extras p.old (placed_in order (length p.old) extras plan)
        (sequence_fits p (new_extensions order extras p.old) answer is short are) in
        let sums = sequence_sums f (IsPassedOver piece) 0 order extras p.old (each_passed piece extras unknown oids shorts) in
        let named : sum_by (λ n. f (get_or p.old n [])) order ≡ sum_by f p.old =
        order_sums (λ n. f (get_or p.old n [])) (length p.old) order plan.order_is ∙ sum_of_places f p.old [] in
        elim sums [ inl same ↦ inl (same ∙ named) | inr more ↦ inr (more.0, omega (arith, more.1, named)) ]

    -- the answer is a rearrangement of a front of the octets
    pub is_rearrangement : (front : List ℕ) × (rest : List ℕ) × (octets ≡ front ++ rest) × IsRearrangement front answer
    is_rearrangement = (
      begins.front,
      begins.rest,
      begins.octets_are,
      record {
        before = p.before;
        old = p.old;
        new = new_extensions order extras p.old;
        behind = p.behind;
        old_is = begins.built;
        new_is = built p (new_extensions order extras p.old) answer is short are begins.built.before_are;
        extensions_are = begins.extensions_are;
        counts = counted;
      },
    )

  -- why it could not be written is why nothing is rearranged
  pub rejected_by_writing : (e : EncodeError) →
      (e ≡ TooLong → 2 ^ 32 ≤ length (content_with (concat (new_extensions order extras p.old)) p)) →
      IsRejected octets order extras (of_writing e)
  rejected_by_writing TooLong long = (p, begins, plan, unknown, long refl)
  rejected_by_writing Memory long = tt
