-- What callers in C are told of a fault's number: the fault's name and its sentence (own).
use Rattle.std.specs.Prelude.{◌≡◌, ℕ, ◌-◌, ◌%◌, ◌++◌, ◌&&◌, Bool, if◌then◌else◌, nat_le, nat_lt, List, [], Option}
use Rattle.std.specs.Prelude.{Some, None, option_map}
use Rattle.rpki_files.specs.FaultTable.{FaultFields, PartFields, fault_numbered, part_numbered}
use Rattle.rpki_c.specs.Writing.{IsWrittenInto}

-- what is told of a fault
pub record ToldFields : Type 0 where
  pub name : List ℕ
  pub sentence : List ℕ

-- of one that speaks of this part, or of none, whose name is empty
abbrev pub told_fields : FaultFields → List ℕ → ToldFields
told_fields it part = record { name = it.name; sentence = it.before ++ (part ++ it.behind) }

abbrev pub told_if : Option (List ℕ) → Option FaultFields → Option ToldFields
told_if (Some part) (Some it) = Some (told_fields it part)
told_if _ _ = None

-- faults with these numbers speak of a part, and twenty numbers are kept for each
abbrev pub has_part : ℕ → Bool
has_part number = nat_le 120 number && nat_lt number 220

-- the number in the table
abbrev pub first_number : ℕ → ℕ
first_number number = if has_part number then number - number % 20 else number

abbrev pub part_name : ℕ → Option (List ℕ)
part_name number =
    if has_part number then option_map (λ (it : PartFields). it.name) (part_numbered (number % 20))
    else Some []

-- of the fault that has the number, and None where none has it
abbrev pub told_of : ℕ → Option ToldFields
told_of number = told_if (part_name number) (fault_numbered (first_number number))

abbrev pub name_told : ℕ → Option (List ℕ)
name_told number = option_map (λ (it : ToldFields). it.name) (told_of number)

abbrev pub sentence_told : ℕ → Option (List ℕ)
sentence_told number = option_map (λ (it : ToldFields). it.sentence) (told_of number)

-- the call tells this text and answers that there is no fault; or, where there is no text, it tells
-- nothing and answers that it is a bad call
abbrev pub TellsText : Option (List ℕ) → ℕ → List ℕ → List ℕ → ℕ → Type 0
TellsText None answer old new count = (answer ≡ 2) × (new ≡ old) × (count ≡ 0)
TellsText (Some text) answer old new count = (answer ≡ 0) × IsWrittenInto text old new count
