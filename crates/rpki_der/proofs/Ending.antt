-- What the writer of a content and the end of the part around it did together.
use Rattle.std.specs.Prelude.{IsOk, IfErr, OnOk, OnErr}
use Rattle.std.proofs.Common.{◌≡◌, ◌^◌, ◌≤◌, ◌++◌, ℕ, List, length, take, drop, Result, Ok, Err, refl, sym, ◌∙◌, ap, inl, inr, arith}
use Rattle.std.proofs.lemmas.Bool.{cases_lt}
use Rattle.std.proofs.lemmas.List.{take_at, drop_at, length-take, take-take}
use Rattle.rpki_der.specs.Values.{enc}
use Rattle.rpki_der.specs.Writers.{Ends, Part, SaysLong, Writes}
use Rattle.rpki_der.specs.declared.error.EncodeError.{EncodeError}
use Rattle.rpki_der.specs.declared.error.EncodeError.TheVariants.{TooLong, Memory}

-- a writer that only runs out of memory doesn't say that anything is too long
pub memory_says : {T : Type 0} (r : Result T EncodeError) (octets : List ℕ) → IfErr r (λ e. e ≡ Memory) → SaysLong r octets
memory_says (Ok x) octets h = λ long. absurd cc
memory_says (Err d) octets h = λ long. absurd cc

-- what stands behind the first octets
pub behind : (start : ℕ) (old inside mid : List ℕ) → start ≡ length old → mid ≡ old ++ inside → drop start mid ≡ inside
behind start old inside mid at is = rw is (drop_at old inside start (sym at))

-- they wrote the part, or left the octets as they were
pub ended : (p : List ℕ → Part) (start : ℕ) (old inside mid new : List ℕ)
    (content r : Result (Unit {0}) EncodeError) → start ≡ length old → OnOk content (mid ≡ old ++ inside) →
    OnErr content (take (length old) mid ≡ old) → SaysLong content (p inside).inside →
    Ends p start mid content r new → Writes (p inside) old r new
ended p start old inside mid new (Ok u) (Ok v) at ok err says e =
    let front : take start mid ≡ old = rw ok (take_at old inside start (sym at)) in
    let rest : drop start mid ≡ inside = behind start old inside mid at ok in
    record {
      ok = e.ok ∙ ap (λ (b : List ℕ). b ++ (p (drop start mid)).written) front ∙ ap (λ (b : List ℕ). old ++ (p b).written) rest;
      err = tt;
      fits = elim (cases_lt (length (p inside).inside) (2 ^ 32)) [
        | inl short ↦ short
        | inr much ↦ absurd (let long : 2 ^ 32 ≤ length (p (drop start mid)).inside = rw rest much in
            let is : Ok v ≡ Err TooLong = (e.too_long refl).1 long in cc)
      ];
      too_long = λ h. absurd cc;
    }
ended p start old inside mid new (Ok u) (Err d) at ok err says e =
    let front : take start mid ≡ old = rw ok (take_at old inside start (sym at)) in
    let rest : drop start mid ≡ inside = behind start old inside mid at ok in
    record { ok = tt; err = e.err ∙ front; fits = tt; too_long = λ h. rw (← rest) ((e.too_long refl).0 h) }
ended p start old inside mid new (Err d) (Ok v) at ok err says e = absurd (let is : Ok v ≡ Err d = e.handed_on in cc)
ended p start old inside mid new (Err d) (Err f) at ok err says e =
    record { ok = tt; err = e.err ∙ ap (λ (n : ℕ). take n mid) at ∙ err; fits = tt; too_long = λ h. says (sym e.handed_on ∙ h) }

-- what stands behind the first octets isn't longer than the whole, so where it is too long, that is
pub enclosed_long : {T : Type 0} (r : Result T EncodeError) (start : ℕ) (old inside mid whole : List ℕ) →
    SaysLong r (drop start mid) → start ≡ length old → mid ≡ old ++ inside → length inside ≤ length whole →
    SaysLong r whole
enclosed_long r start old inside mid whole says at is le = λ long.
    let much : 2 ^ 32 ≤ length (drop start mid) = says long in
    omega (arith, ap length (behind start old inside mid at is))

-- a value of what stands behind the first octets
pub enclosed : (tag start : ℕ) (old inside mid new : List ℕ) → start ≡ length old → mid ≡ old ++ inside →
    new ≡ take start mid ++ enc tag (drop start mid) → new ≡ old ++ enc tag inside
enclosed tag start old inside mid new at is e =
    let front : take start mid ≡ old = rw is (take_at old inside start (sym at)) in
    e ∙ ap (λ (b : List ℕ). b ++ enc tag (drop start mid)) front ∙ ap (λ (b : List ℕ). old ++ enc tag b) (behind start old inside mid at is)

-- where the end went well, the content did
pub ended_well : (P Q : Type 0) (content r : Result (Unit {0}) EncodeError) → OnOk content P → OnOk r (IsOk content) →
    OnOk r Q → OnOk r (P × Q)
ended_well P Q (Ok u) (Ok v) p well q = (p, q)
ended_well P Q (Ok u) (Err d) p well q = tt
ended_well P Q (Err d) (Ok v) p well q = absurd cc
ended_well P Q (Err d) (Err f) p well q = tt

-- what stood in front before more was appended still does
pub front_kept : (old mid new : List ℕ) → take (length old) mid ≡ old → take (length mid) new ≡ mid → take (length old) new ≡ old
front_kept old mid new g h =
    let shorter : length old ≤ length mid = omega (arith, ap length g, length-take (length old) mid) in
    sym (take-take (length old) (length mid) new shorter) ∙ ap (take (length old)) h ∙ g
