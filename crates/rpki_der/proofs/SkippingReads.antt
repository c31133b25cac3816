-- Values of any kind, both ways.
use Rattle.std.specs.List.{AllByRecursion, concat}
use Rattle.std.proofs.Common.{◌≡◌, ℕ, zero, suc, ◌-◌, ◌+◌, ◌<◌, cond, List, [], ◌∷◌, ◌++◌, length, take, Some, None}
use Rattle.std.proofs.Common.{Result, Ok, Err, refl, sym, ap, ◌∙◌, arith, inl, inr, ◌↔◌}
use Rattle.std.specs.Prelude.{IsOk}
use Rattle.std.proofs.lemmas.Bool.{cases_Bool, eq-eqb, eqb-true}
use Rattle.std.proofs.lemmas.List.{length-append, length-take-le, take_at}
use Rattle.rpki_der.specs.Values.{AreOctets, enc, IsEnc, IsValue}
use Rattle.rpki_der.specs.Reading.{Reads, ReadsWhole}
use Rattle.rpki_der.specs.Values.Reading.{value_at, ◌>>=◌}
use Rattle.rpki_der.specs.Sequences.{AreEncodings}
use Rattle.rpki_der.specs.Sequences.Reading.{sequence_of}
use Rattle.rpki_der.specs.Place.Reading.{Returns}
use Rattle.rpki_der.specs.declared.error.DecodeError.{DecodeError}
use Rattle.rpki_der.specs.Encoding.{Begins}
use Rattle.rpki_der.specs.Skipping.{IsSkippableWithin, IsSkippableSequence, IsSkipped, IsCaptured, levels}
use Rattle.rpki_der.specs.Skipping.Reading.{any_at, captured_at, is_primitive, skip_within, skip_sequence_within, skip_at, skip_all_of}
use Rattle.rpki_der.proofs.Octets.{both_are, bind_some, if_some, some, some_is, nothing}
use Rattle.rpki_der.proofs.Readings.{begins_same}
use Rattle.rpki_der.proofs.ValueReads.{value_takes, value_again}
use Rattle.rpki_der.proofs.Sequences.{elements_are, sequence_again}
use Rattle.rpki_der.proofs.SkippingSteps.{any_shrinks, within_shrinks}

-- ---- a value of any identifier octet

-- a value, seen as its identifier octet and its content
abbrev pub IsTagged : ℕ × List ℕ → List ℕ → Type 0
IsTagged v b = IsEnc v.0 v.1 b

any_takes : (octets : List ℕ) (v : ℕ × List ℕ) (rest : List ℕ) → AreOctets octets →
    any_at octets ≡ some {A = (ℕ × List ℕ) × List ℕ} (v, rest) → Begins IsTagged octets v rest
any_takes [] v rest fits e = nothing (v, rest) e
any_takes (tag ∷ bytes) v rest fits e =
    let a = bind_some (value_at tag (tag ∷ bytes)) (λ x. some {A = (ℕ × List ℕ) × List ℕ} ((tag, x.0), x.1)) (v, rest) e in
    let one = value_takes tag (tag ∷ bytes) a.0.0 a.0.1 fits a.1 in
    let made : (ℕ × List ℕ) × List ℕ = ((tag, a.0.0), a.0.1) in
    begins_same IsTagged (tag ∷ bytes) made (v, rest) (some_is made (v, rest) a.2)
    (record { text = one.text; encoded = one.encoded; parts = one.parts })

-- octets that a value begins, begin with its identifier octet
pub begins_tag : (tag : ℕ) (content text rest : List ℕ) → IsEnc tag content text → (tail : List ℕ) × (text ++ rest ≡ tag ∷ tail)
unfolding enc
begins_tag tag content text rest v = (_, ap (λ (t : List ℕ). t ++ rest) v.is)

any_from : (octets : List ℕ) (tag : ℕ) (tail content rest : List ℕ) → octets ≡ tag ∷ tail →
    value_at tag octets ≡ some {A = List ℕ × List ℕ} (content, rest) →
    any_at octets ≡ some {A = (ℕ × List ℕ) × List ℕ} ((tag, content), rest)
any_from octets tag tail content rest begins e =
    rw begins (let f : value_at tag (tag ∷ tail) ≡ some {A = List ℕ × List ℕ} (content, rest) = rw begins at e in
    rw f refl)

any_again : (v : ℕ × List ℕ) (text rest : List ℕ) → IsTagged v text → any_at (text ++ rest) ≡ some {A = (ℕ × List ℕ) × List ℕ} (v, rest)
any_again v text rest s =
    let b = begins_tag v.0 v.1 text rest s in
    any_from (text ++ rest) v.0 b.0 v.1 rest b.1 (value_again v.0 v.1 text rest s)

-- ---- a value that is kept whole

-- a value that is kept whole is read as it stands
pub captured_reads : Reads captured_at IsCaptured
unfolding captured_at
captured_reads = record {
  takes = λ octets text rest fits e.
      let (((tag, content), after), found, last) =
      bind_some (any_at octets)
      (λ v. some {A = List ℕ × List ℕ} (take (length octets - length v.1) octets, v.1)) (text, rest) e in
      let one = any_takes octets (tag, content) after fits found in
      let made : List ℕ × List ℕ = (take (length octets - length after) octets, after) in
      let front : take (length octets - length after) octets ≡ one.text = front_is octets one.text after one.parts in
      let value : IsValue one.text = record { tag = tag; content = content; enc = one.encoded } in
      begins_same IsCaptured octets made (text, rest) (some_is made (text, rest) last)
      (record { text = one.text; encoded = (value, front); parts = one.parts });
  again = λ octets text rest s.
      let found : ℕ × List ℕ = (s.0.tag, s.0.content) in
      let front : take (length (text ++ rest) - length rest) (text ++ rest) ≡ text = front_is (text ++ rest) text rest refl in
      rw (any_again found text rest s.0.enc, front, s.1) refl;
}
  where
    front_is : (octets text rest : List ℕ) → octets ≡ text ++ rest → take (length octets - length rest) octets ≡ text
    front_is octets text rest e = rw e (take_at text rest (length (text ++ rest) - length rest) (omega (arith, length-append text rest)))

-- what is kept and what remains are the octets
pub captured_length : (octets text rest : List ℕ) → captured_at octets ≡ Some (text, rest) → length text + length rest ≡ length octets
unfolding captured_at
captured_length octets text rest e =
    let (((tag, content), after), found, last) =
    bind_some (any_at octets) (λ v. some {A = List ℕ × List ℕ} (take (length octets - length v.1) octets, v.1))
    (text, rest) e in
    let d = both_are (take (length octets - length after) octets, after) (text, rest) last in
    let shorter = any_shrinks octets (tag, content) after found in
    omega (arith, shorter, length-take-le (length octets - length after) octets (omega (arith, shorter)), ap length d.0, ap length d.1)

-- what is kept has an octet at least
pub captured_some : (octets text rest : List ℕ) → captured_at octets ≡ Some (text, rest) → length rest < length octets
unfolding captured_at
captured_some octets text rest e =
    let (((tag, content), after), found, last) =
    bind_some (any_at octets) (λ v. some {A = List ℕ × List ℕ} (take (length octets - length v.1) octets, v.1))
    (text, rest) e in
    let d = both_are (take (length octets - length after) octets, after) (text, rest) last in
    omega (arith, any_shrinks octets (tag, content) after found, ap length d.1)

-- ---- a value that is skipped

abbrev Within : ℕ → Unit {0} → List ℕ → Type 0
Within d u b = IsSkippableWithin d b

-- a sequence of them, as its pieces
sequence_to : (P : List ℕ → Type 0) (us : List (Unit {0})) (b : List ℕ) →
    AreEncodings {V = Unit {0}} (λ u x. P x) us b → (elements : List (List ℕ)) × (b ≡ concat elements) ×
    AllByRecursion P elements
sequence_to P [] b h = ([], h, tt)
sequence_to P (u ∷ us) b h =
    let r = sequence_to P us h.1 h.3 in
    (h.0 ∷ r.0, h.4 ∙ ap (λ (x : List ℕ). h.0 ++ x) r.1, (h.2, r.2))

sequence_from : (P : List ℕ → Type 0) (elements : List (List ℕ)) → AllByRecursion P elements →
    (us : List (Unit {0})) × AreEncodings {V = Unit {0}} (λ u x. P x) us (concat elements)
sequence_from P [] h = ([], refl)
sequence_from P (b ∷ elements) h = let r = sequence_from P elements h.1 in (tt ∷ r.0, (b, concat elements, h.0, r.1, refl))

-- a sequence of skipped values is read lawfully where one of them is
pub sequence_reads : (d : ℕ) → Reads (skip_within d) (Within d) →
    ReadsWhole (skip_sequence_within d)
    (λ u b. (elements : List (List ℕ)) × (b ≡ concat elements) × AllByRecursion (IsSkippableWithin d) elements)
sequence_reads d R = record {
  takes = λ octets u fits e.
      let a = bind_some (sequence_of (skip_within d) octets) (λ elements. some {A = Unit {0}} tt) u e in
      sequence_to (IsSkippableWithin d) a.0 octets (elements_are (skip_within d) (Within d) R octets a.0 fits a.1);
  again = λ u octets s.
      let r = sequence_from (IsSkippableWithin d) s.0 s.2 in
      rw (s.1, sequence_again (skip_within d) (Within d) R (within_shrinks d) r.0 (concat s.0) r.1) refl;
}

primitive_reads : Reads (skip_within 0) (Within 0)
unfolding skip_within IsSkippableWithin
primitive_reads = record {
  takes = λ octets u rest fits e.
      let (((tag, content), after), found, last) =
      bind_some (any_at octets) (λ v. cond (is_primitive v.0.0) (some {A = Unit {0} × List ℕ} (tt, v.1)) None)
      (u, rest) e in
      let made : Unit {0} × List ℕ = (tt, after) in
      let g = if_some (is_primitive tag) made (u, rest) last in
      let one = any_takes octets (tag, content) after fits found in
      let value : IsValue one.text = record { tag = tag; content = content; enc = one.encoded } in
      begins_same (Within 0) octets made (u, rest) g.1 (record { text = one.text; encoded = (value, eqb-true _ 0 g.0); parts = one.parts });
  again = λ u text rest s.
      let found : ℕ × List ℕ = (s.0.tag, s.0.content) in
      rw (any_again found text rest s.0.enc, eq-eqb _ 0 s.1) refl;
}

deeper_reads : (d : ℕ) → Reads (skip_within d) (Within d) → Reads (skip_within (suc d)) (Within (suc d))
unfolding skip_within IsSkippableWithin
deeper_reads d R = record {
  takes = λ octets u rest fits e.
      let (((tag, content), after), found, last) =
      bind_some (any_at octets)
      (λ v. cond (is_primitive v.0.0) (some {A = Unit {0} × List ℕ} (tt, v.1))
      (sequence_of (skip_within d) v.0.1 >>= λ elements. some {A = Unit {0} × List ℕ} (tt, v.1))) (u, rest) e in
      let one = any_takes octets (tag, content) after fits found in
      let value : IsValue one.text = record { tag = tag; content = content; enc = one.encoded } in
      let made : Unit {0} × List ℕ = (tt, after) in
      elim (cases_Bool (is_primitive tag)) [
        | inl y ↦
            let same : some made ≡ some {A = Unit {0} × List ℕ} (u, rest) = rw y at last in
            begins_same (Within (suc d)) octets made (u, rest) (some_is made (u, rest) same)
            (record { text = one.text; encoded = (value, inl (eqb-true _ 0 y)); parts = one.parts })
        | inr n ↦
            let inside : (sequence_of (skip_within d) content >>= λ elements. some made) ≡
            some {A = Unit {0} × List ℕ} (u, rest) = rw n at last in
            let b = bind_some (sequence_of (skip_within d) content) (λ elements. some made) (u, rest) inside in
            let low : AreOctets content = one.encoded.octets in
            let elements = sequence_to (IsSkippableWithin d) b.0 content (elements_are (skip_within d) (Within d) R content b.0 low b.1) in
            begins_same (Within (suc d)) octets made (u, rest) (some_is made (u, rest) b.2)
            (record { text = one.text; encoded = (value, inr elements); parts = one.parts })
      ];
  again = λ u text rest s.
      let tag = s.0.tag in
      let content = s.0.content in
      let found : ℕ × List ℕ = (tag, content) in
      let next = any_again found text rest s.0.enc in
      elim s.1 [
        | inl p ↦ rw (next, eq-eqb _ 0 p) refl
        | inr elements ↦
            let r = sequence_from (IsSkippableWithin d) elements.0 elements.2 in
            let inside : sequence_of (skip_within d) content ≡ some r.0 =
            rw elements.1
            (sequence_again (skip_within d) (Within d) R (within_shrinks d) r.0 (concat elements.0) r.1) in
            elim (cases_Bool (is_primitive tag)) [
              | inl y ↦ rw (next, y) refl
              | inr n ↦ rw (next, n, inside) refl
            ]
      ];
}

-- a value is skipped at a depth where it can be
pub within_reads : (d : ℕ) → Reads (skip_within d) (Within d)
within_reads zero = primitive_reads
within_reads (suc d) = deeper_reads d (within_reads d)

-- a value is skipped where it can be
pub skip_reads : Reads skip_at IsSkipped
unfolding skip_at
skip_reads = within_reads levels

-- a sequence of values is skipped where each of them can be
pub skip_all_reads : ReadsWhole skip_all_of (λ u b. IsSkippableSequence b)
unfolding skip_all_of
skip_all_reads = sequence_reads levels (within_reads levels)

-- what a reader of the whole gave, both ways
pub skips_all : (r : Result (Unit {0}) DecodeError) (octets : List ℕ) → AreOctets octets →
    Returns r (skip_all_of octets) → IsOk r ↔ IsSkippableSequence octets
skips_all (Ok u) octets fits e = (λ _. skip_all_reads.takes octets u fits e, λ _. refl)
skips_all (Err d) octets fits e = (λ h. absurd cc, λ elements. nothing tt (sym e.1 ∙ skip_all_reads.again tt octets elements))
