-- What a caller is told of a question about a path (own).
use Rattle.std.specs.Prelude.{◌≡◌, ◌⊎◌, ℕ, ◌+◌, ◌^◌, ◌-◌, List, length, map, min, Option, Some, None, Result, Ok, Err}
use Rattle.rpki_cert.specs.Verification.{ResourceFields}
use Rattle.rpki_cert.specs.declared.inspect.Kind.TheVariants.{Authority}
use Rattle.rpki_path.specs.GivenPaths.{PathStrings, CanEndIn, IsSplitAs}
use Rattle.rpki_path.specs.NameChains.{TellsNames}
use Rattle.rpki_path.specs.declared.path_fault.PathError.{PathError}
use Rattle.rpki_c.specs.FaultNumbers.{path_number, refusal_number}
use Rattle.rpki_c.specs.Verdicts.{AnswersQuestion, AreStringsOf, DontAddUp}
use Rattle.rpki_c.specs.Writing.{as_struct, ip_struct, written_over}
use Rattle.rpki_c.specs.declared.judging.Accepted.{Accepted}
use Rattle.rpki_c.specs.declared.paths.RpkiRoom.{RpkiRoom}
use Rattle.rpki_c.specs.declared.paths.RpkiVerdict.{RpkiVerdict}
use Rattle.rpki_c.specs.declared.question.RpkiQuestion.{RpkiQuestion}
use Rattle.rpki_c.specs.declared.refusal.Refusal.{Refusal}
use Rattle.rpki_c.specs.declared.refusal.Refusal.TheVariants as refusal
use Rattle.rpki_c.specs.declared.strings.RpkiStrings.{RpkiStrings}

-- ---- verdicts

-- the place of what is wrong, of so many members: the member's; the last one's, whose key it is;
-- behind all members, the list's; and else the trust anchor's
abbrev pub refusal_place : ℕ → Refusal → ℕ
refusal_place members (refusal.NoResources place) = place
refusal_place members (refusal.Member e) = e.index
refusal_place members (refusal.OtherName place) = place
refusal_place members refusal.UnusedKey = members - 1
refusal_place members (refusal.List place e) = members + place
refusal_place members _ = 0

-- a place, or the greatest number of 32 bits where it is greater
abbrev pub told_place : ℕ → ℕ
told_place place = min place (2 ^ 32 - 1)

-- the verdict of a fault, at this index
abbrev pub rejection : ℕ → ℕ → RpkiVerdict
rejection fault index = record { fault = fault; index = index; v4 = 0; v6 = 0; asn = 0 }

-- the verdict on a path whose last member holds these numbers
abbrev pub acceptance : ResourceFields → RpkiVerdict
acceptance r = record { fault = 0; index = 0; v4 = length r.v4; v6 = length r.v6; asn = length r.as_numbers }

-- the room is where it was
pub record IsSameRoom (old new : RpkiRoom) : Type 0 where
  pub v4 : new.v4.ghost_name ≡ old.v4.ghost_name
  pub v6 : new.v6.ghost_name ≡ old.v6.ghost_name
  pub asn : new.asn.ghost_name ≡ old.asn.ghost_name

-- the verdict that an answer about so many members is: how much is held, or why it is rejected
abbrev pub verdict_of : ℕ → Result Accepted Refusal → RpkiVerdict
verdict_of members (Ok it) = acceptance it.judged.holder
verdict_of members (Err r) = rejection (refusal_number r) (told_place (refusal_place members r))

-- these ranges stand in the room, as many of each kind as there is room for
pub record HoldsRanges (r : ResourceFields) (old new : RpkiRoom) : Type 0 where
  pub v4 : new.v4.now ≡ written_over (map ip_struct r.v4) old.v4.now
  pub v6 : new.v6.now ≡ written_over (map ip_struct r.v6) old.v6.now
  pub asn : new.asn.now ≡ written_over (map as_struct r.as_numbers) old.asn.now

-- the room holds what it held
pub record HoldsTheSame (old new : RpkiRoom) : Type 0 where
  pub v4 : new.v4.now ≡ old.v4.now
  pub v6 : new.v6.now ≡ old.v6.now
  pub asn : new.asn.now ≡ old.asn.now

-- the room holds what an accepted path's last member holds
abbrev pub HoldsAnswer : Result Accepted Refusal → RpkiRoom → RpkiRoom → Type 0
HoldsAnswer (Ok it) old new = HoldsRanges it.judged.holder old new
HoldsAnswer (Err r) old new = HoldsTheSame old new

-- the verdict of an answer to a question about a path, and what then stands in the room
pub record IsToldVerdict (q : RpkiQuestion) (old new : RpkiRoom) (verdict : RpkiVerdict)
    : Type 0 where
  pub answer : Result Accepted Refusal
  pub answers : AnswersQuestion q answer
  pub told : verdict ≡ verdict_of (length q.members.lengths.now) answer
  pub held : HoldsAnswer answer old new

-- ---- names

-- the fault that a finding about names is
abbrev pub names_fault : Option (Result (Option ℕ) PathError) → ℕ
names_fault None = 2
names_fault (Some (Ok None)) = 0
names_fault (Some (Ok (Some place))) = 600
names_fault (Some (Err e)) = path_number e.fault

-- its place
abbrev pub names_place : Option (Result (Option ℕ) PathError) → ℕ
names_place (Some (Ok (Some place))) = place
names_place (Some (Err e)) = e.index
names_place _ = 0

-- what is found of the names of strings; nothing where there are none
abbrev pub FindsNames : List (List ℕ) → Option (Result (Option ℕ) PathError) → Type 0
FindsNames strings None = CanEndIn Authority (length strings) → ⊥
FindsNames strings (Some found) =
    (path : PathStrings) × IsSplitAs strings Authority path × TellsNames path found

-- what is told of the names of these strings, unless memory ran out
pub record AreToldNames (strings : List (List ℕ)) (fault place : ℕ) : Type 0 where
  pub found : Option (Result (Option ℕ) PathError)
  pub finds : FindsNames strings found
  pub fault_is : fault ≡ names_fault found
  pub place_is : place ≡ names_place found

-- what is told of the names of a caller's strings: memory ran out, the lengths don't add up, or
-- what is found
abbrev pub IsToldNames : RpkiStrings → ℕ → ℕ → Type 0
IsToldNames s fault place =
    ((fault ≡ 1) × (place ≡ 0))
    ⊎ (DontAddUp s × (fault ≡ 2) × (place ≡ 0))
    ⊎ ((strings : List (List ℕ)) × AreStringsOf s strings × AreToldNames strings fault place)
