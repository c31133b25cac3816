-- What a reader of a format answered, and what a writer of it did.
use Rattle.std.specs.Prelude.{ℕ, Result}
use Rattle.rpki_der.specs.declared.error.DecodeError.{DecodeError}
use Rattle.rpki_der.specs.Formats.{Format}
use Rattle.rpki_der.specs.Place.{Place, Keeps, ReadsFrontBy, ReadsFrontOrMemoryBy, ReadsFrontOrAbsent, ReadsFrontOrAbsentOrMemory}
use Rattle.rpki_der.specs.Place.Reading.{Took, TookBy, TookOrMemory, TookOrMemoryBy}

-- A reader's answer, seen by view: a value that a front encodes, and the cursor stands behind it;
-- or no front encodes any value, and the cursor stands where it stood. It takes no memory. It is
-- also what the reading function gives.
pub record AnswersBy {X Y : Type 0} (view : X → Y) (f : Format Y) (old : Place) (r : Result X DecodeError) (new : Place) : Type 0 where
  pub encoded : ReadsFrontBy view f.encodes old r new
  pub reads : TookBy view f.read old r new
  pub keeps : Keeps r old new

-- a reader's answer without a view
abbrev pub Answers : {X : Type 0} → Format X → Place → Result X DecodeError → Place → Type 0
Answers f = AnswersBy (λ x. x) f

-- the answer of a reader that may run out of memory, seen by view
pub record AnswersOrMemoryBy {X Y : Type 0} (view : X → Y) (f : Format Y) (old : Place) (r : Result X DecodeError)
    (new : Place) : Type 0 where
  pub encoded : ReadsFrontOrMemoryBy view f.encodes old r new
  pub reads : TookOrMemoryBy view f.read old r new
  pub keeps : Keeps r old new

-- the answer of a reader that may run out of memory
abbrev pub AnswersOrMemory : {X : Type 0} → Format X → Place → Result X DecodeError → Place → Type 0
AnswersOrMemory f = AnswersOrMemoryBy (λ x. x) f

-- the answer of a reader of a format whose values may be absent before another identifier, and are
-- values then too
pub record AnswersOrAbsent {X : Type 0} (tag : ℕ) (f : Format X) (old : Place) (r : Result X DecodeError) (new : Place) : Type 0 where
  pub encoded : ReadsFrontOrAbsent tag f.encodes old r new
  pub reads : Took f.read old r new
  pub keeps : Keeps r old new

-- the answer of such a reader that may run out of memory
pub record AnswersOrAbsentOrMemory {X : Type 0} (tag : ℕ) (f : Format X) (old : Place) (r : Result X DecodeError)
    (new : Place) : Type 0 where
  pub encoded : ReadsFrontOrAbsentOrMemory tag f.encodes old r new
  pub reads : TookOrMemory f.read old r new
  pub keeps : Keeps r old new
