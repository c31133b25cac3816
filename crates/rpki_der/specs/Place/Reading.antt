-- What a reader answered, by a reading function.
use Rattle.std.specs.Prelude.{◌≡◌, ◌≢◌, ℕ, List, Option, Some, None, Result, Ok, Err}
use Rattle.rpki_der.specs.declared.error.DecodeError.{DecodeError}
use Rattle.rpki_der.specs.Place.{Place, remaining, Rejects}
use Rattle.rpki_der.specs.declared.error.DecodeError.TheVariants.{Memory}

-- A reader's answer, seen by view, is what reading gives of the remaining octets, and the cursor
-- stands behind it. It takes no memory.
abbrev pub TookBy : {X Y : Type 0} → (X → Y) → (List ℕ → Option (Y × List ℕ)) → Place → Result X DecodeError → Place → Type 0
TookBy view read old (Ok x) new = read (remaining old) ≡ Some (view x, remaining new)
TookBy view read old (Err e) new = (e ≢ Memory) × (read (remaining old) ≡ None)

-- a reader's answer by a reading function, without a view
abbrev pub Took : {X : Type 0} → (List ℕ → Option (X × List ℕ)) → Place → Result X DecodeError → Place → Type 0
Took read = TookBy (λ x. x) read

-- the answer by a reading function of a reader that may run out of memory, seen by view
abbrev pub TookOrMemoryBy : {X Y : Type 0} → (X → Y) → (List ℕ → Option (Y × List ℕ)) → Place → Result X DecodeError → Place → Type 0
TookOrMemoryBy view read old (Ok x) new = read (remaining old) ≡ Some (view x, remaining new)
TookOrMemoryBy view read old (Err e) new = Rejects e (read (remaining old) ≡ None)

-- the answer by a reading function of a reader that may run out of memory
abbrev pub TookOrMemory : {X : Type 0} → (List ℕ → Option (X × List ℕ)) → Place → Result X DecodeError → Place → Type 0
TookOrMemory read = TookOrMemoryBy (λ x. x) read

-- what a function returned, seen by view, is what reading gives, and it takes no memory
abbrev pub ReturnsBy : {X Y : Type 0} → (X → Y) → Result X DecodeError → Option Y → Type 0
ReturnsBy view (Ok x) read = read ≡ Some (view x)
ReturnsBy view (Err e) read = (e ≢ Memory) × (read ≡ None)

-- what a function returned is what reading gives
abbrev pub Returns : {X : Type 0} → Result X DecodeError → Option X → Type 0
Returns = ReturnsBy (λ x. x)

-- what a function that may run out of memory returned, seen by view, is what reading gives
abbrev pub ReturnsOrMemoryBy : {X Y : Type 0} → (X → Y) → Result X DecodeError → Option Y → Type 0
ReturnsOrMemoryBy view (Ok x) read = read ≡ Some (view x)
ReturnsOrMemoryBy view (Err e) read = Rejects e (read ≡ None)

-- what a function that may run out of memory returned is what reading gives
abbrev pub ReturnsOrMemory : {X : Type 0} → Result X DecodeError → Option X → Type 0
ReturnsOrMemory = ReturnsOrMemoryBy (λ x. x)
