-- What a reader's answer says of whether a content begins with a value.
use Rattle.std.specs.Prelude.{Result, Ok, Err, IsOk, IsTrue, MatchResult, is_ok}
use Rattle.std.proofs.Common.{◌≡◌, ◌↔◌, ℕ, List, refl, sym, subst}
use Rattle.std.proofs.lemmas.Bool.{false≢true}
use Rattle.rpki_der.specs.declared.error.DecodeError.{DecodeError}
use Rattle.rpki_der.specs.declared.error.DecodeError.TheVariants as decoding
use Rattle.rpki_der.specs.Place.{Place, Rejects, ReadsFrontBy, ReadsFrontOrMemoryBy, remaining}
use Rattle.rpki_files.specs.KnownKinds.{HasValue, SaysWhether}

-- what follows from a rejection is rejected too
rejected_too : {P Q : Type 0} (e : DecodeError) → (P → Q) → Rejects e P → Rejects e Q
rejected_too decoding.Memory f h = tt
rejected_too e f h = f h

-- what holds is what a refusal says
stands : {P : Type 0} (e : DecodeError) → P → Rejects e P
stands decoding.Memory p = tt
stands e p = p

-- of a reader that may run out of memory, without its value
pub begins_or_memory : {X Y : Type 0} (view : X → Y) (encodes : Y → List ℕ → Type 0) (old new : Place)
    (r : Result X DecodeError) (s : Result (Unit {0}) DecodeError)
    → ReadsFrontOrMemoryBy view encodes old r new → MatchResult r (λ _. IsOk s) (λ e. s ≡ Err e) →
    SaysWhether s (HasValue encodes (remaining old))
begins_or_memory view encodes old new (Ok x) (Ok u) a h = (view x, (remaining new, a))
begins_or_memory view encodes old new (Ok x) (Err e) a h = absurd (false≢true h)
begins_or_memory view encodes old new (Err e) s a h =
    let none : Rejects e (¬ HasValue encodes (remaining old)) = rejected_too e (λ no value. no value.0 value.1.0 value.1.1) a in
    subst (λ (t : Result (Unit {0}) DecodeError). SaysWhether t (HasValue encodes (remaining old))) (sym h) none

-- of a reader that takes no memory, without its value
pub begins : {X Y : Type 0} (view : X → Y) (encodes : Y → List ℕ → Type 0) (old new : Place)
    (r : Result X DecodeError) (s : Result (Unit {0}) DecodeError)
    → ReadsFrontBy view encodes old r new → MatchResult r (λ _. IsOk s) (λ e. s ≡ Err e) → SaysWhether s (HasValue encodes (remaining old))
begins view encodes old new (Ok x) s a h = begins_or_memory view encodes old new (Ok x) s a h
begins view encodes old new (Err e) s a h = begins_or_memory view encodes old new (Err e) s (stands e a.1) h

-- whether such a reader reads a value
pub read_or_none : {X Y : Type 0} (view : X → Y) (encodes : Y → List ℕ → Type 0) (old new : Place)
    (r : Result X DecodeError) → ReadsFrontBy view encodes old r new →
    IsTrue (is_ok r) ↔ HasValue encodes (remaining old)
read_or_none view encodes old new (Ok x) a = ((λ yes. (view x, (remaining new, a))), (λ has. refl))
read_or_none view encodes old new (Err e) a = ((λ yes. absurd (false≢true yes)), (λ has. absurd (a.1 has.0 has.1.0 has.1.1)))
