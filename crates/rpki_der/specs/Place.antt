-- What a contract sees of a cursor, and what a reader answered there.
use Rattle.std.specs.Prelude.{ℕ, List, slice_range, ◌≡◌, ◌≢◌, ◌≤◌, Result, Ok, Err, Option, Some, None}
use Rattle.rpki_der.specs.declared.error.DecodeError.{DecodeError}
use Rattle.rpki_der.specs.declared.error.DecodeError.TheVariants.{Memory}
use Rattle.rpki_der.specs.Encoding.{Begins, BeginsOther, BeginsOrAbsent}
pub mod Reading

-- the octets that a cursor reads from, and which of them are remaining
pub record Place : Type 0 where
  pub source : List ℕ
  pub from : ℕ
  pub to : ℕ

-- the remaining octets
abbrev pub remaining : Place → List ℕ
remaining p = slice_range p.source p.from p.to

-- both lie in one source, the inner one inside the outer one
pub record IsWithin (inner outer : Place) : Type 0 where
  pub source : inner.source ≡ outer.source
  pub from : outer.from ≤ inner.from
  pub to : inner.to ≤ outer.to

-- a cursor went on, or stayed
pub record MovesOn (old new : Place) : Type 0 where
  pub source : new.source ≡ old.source
  pub to : new.to ≡ old.to
  pub from : old.from ≤ new.from

-- after an Ok a cursor went on, after an Err it stands where it stood
abbrev pub Keeps : {X : Type 0} → Result X DecodeError → Place → Place → Type 0
Keeps (Ok x) old new = MovesOn old new
Keeps (Err e) old new = new ≡ old

-- the inner cursor lies in the source of the outer one, and ends where the outer one stands
pub record EndsAt (inner outer : Place) : Type 0 where
  pub source : inner.source ≡ outer.source
  pub end : inner.to ≡ outer.from

-- what `out of memory` may stand in place of: every other error says P
abbrev pub Rejects : DecodeError → Type 0 → Type 0
Rejects Memory P = Unit {0}
Rejects _ P = P

-- ---- both directions of a relation

-- A reader's answer, seen by view: a value that a front encodes, and the cursor stands behind it;
-- or no front encodes any value. It takes no memory.
abbrev pub ReadsFrontBy : {X Y : Type 0} → (X → Y) → (Y → List ℕ → Type 0) → Place → Result X DecodeError → Place → Type 0
ReadsFrontBy view encodes old (Ok x) new = Begins encodes (remaining old) (view x) (remaining new)
ReadsFrontBy {X} {Y} view encodes old (Err e) new = (e ≢ Memory) × ((y : Y) (rest : List ℕ) → Begins encodes (remaining old) y rest → ⊥)

-- The answer of a reader that answers None at the end and before another identifier, seen by view.
abbrev pub AnswersOptionalBy : {X Y : Type 0} → (X → Y) → ℕ → (Y → List ℕ → Type 0) → Place → Result (Option X) DecodeError → Place → Type 0
AnswersOptionalBy view tag encodes old (Ok None) new = BeginsOther tag (remaining old) × (new ≡ old)
AnswersOptionalBy view tag encodes old (Ok (Some x)) new = Begins encodes (remaining old) (view x) (remaining new)
AnswersOptionalBy {X} {Y} view tag encodes old (Err e) new =
    (e ≢ Memory) × (BeginsOther tag (remaining old) → ⊥) × ((y : Y) (rest : List ℕ) → Begins encodes (remaining old) y rest → ⊥)

-- the answer of a reader that may run out of memory, seen by view
abbrev pub ReadsFrontOrMemoryBy : {X Y : Type 0} → (X → Y) → (Y → List ℕ → Type 0) → Place → Result X DecodeError → Place → Type 0
ReadsFrontOrMemoryBy view encodes old (Ok x) new = Begins encodes (remaining old) (view x) (remaining new)
ReadsFrontOrMemoryBy {X} {Y} view encodes old (Err e) new = Rejects e ((y : Y) (rest : List ℕ) → Begins encodes (remaining old) y rest → ⊥)

-- the answer of a reader whose value may be absent, and that may run out of memory, seen by view
abbrev pub AnswersOptionalOrMemoryBy : {X Y : Type 0} → (X → Y) → ℕ → (Y → List ℕ → Type 0) → Place →
    Result (Option X) DecodeError → Place → Type 0
AnswersOptionalOrMemoryBy view tag encodes old (Ok None) new = BeginsOther tag (remaining old) × (new ≡ old)
AnswersOptionalOrMemoryBy view tag encodes old (Ok (Some x)) new = Begins encodes (remaining old) (view x) (remaining new)
AnswersOptionalOrMemoryBy {X} {Y} view tag encodes old (Err e) new =
    (BeginsOther tag (remaining old) → ⊥) × Rejects e ((y : Y) (rest : List ℕ) → Begins encodes (remaining old) y rest → ⊥)

-- the answer of a reader whose value may be absent, and that may run out of memory
abbrev pub AnswersOptionalOrMemory : {X : Type 0} → ℕ → (X → List ℕ → Type 0) → Place → Result (Option X) DecodeError → Place → Type 0
AnswersOptionalOrMemory tag encodes = AnswersOptionalOrMemoryBy (λ x. x) tag encodes

-- a reader's answer where a value may be absent before another identifier, and what is then read is
-- a value too
abbrev pub ReadsFrontOrAbsent : {X : Type 0} → ℕ → (X → List ℕ → Type 0) → Place → Result X DecodeError → Place → Type 0
ReadsFrontOrAbsent tag encodes old (Ok x) new = BeginsOrAbsent tag encodes (remaining old) x (remaining new)
ReadsFrontOrAbsent {X} tag encodes old (Err e) new = (e ≢ Memory) ×
    ((x : X) (rest : List ℕ) → BeginsOrAbsent tag encodes (remaining old) x rest → ⊥)

-- the answer of a reader where an absent value is a value too, and that may run out of memory
abbrev pub ReadsFrontOrAbsentOrMemory : {X : Type 0} → ℕ → (X → List ℕ → Type 0) → Place → Result X DecodeError → Place → Type 0
ReadsFrontOrAbsentOrMemory tag encodes old (Ok x) new = BeginsOrAbsent tag encodes (remaining old) x (remaining new)
ReadsFrontOrAbsentOrMemory {X} tag encodes old (Err e) new =
    Rejects e ((x : X) (rest : List ℕ) → BeginsOrAbsent tag encodes (remaining old) x rest → ⊥)

-- a call's answer on whole octets, seen by view: a value that they encode; or they encode none, or
-- it ran out of memory
abbrev pub MeansOrMemoryBy : {X Y : Type 0} → (X → Y) → (Y → List ℕ → Type 0) → Result X DecodeError → List ℕ → Type 0
MeansOrMemoryBy view encodes (Ok x) octets = encodes (view x) octets
MeansOrMemoryBy {X} {Y} view encodes (Err e) octets = Rejects e ((y : Y) → encodes y octets → ⊥)

-- a call's answer on whole octets, without a view
abbrev pub MeansOrMemory : {X : Type 0} → (X → List ℕ → Type 0) → Result X DecodeError → List ℕ → Type 0
MeansOrMemory encodes = MeansOrMemoryBy (λ x. x) encodes
