-- What a caller wants of a revocation list, by octets, lengths and numbers (own).
use Rattle.std.specs.Int.Digits.{number_from_digits}
use Rattle.std.specs.List.{AllByRecursion}
use Rattle.std.specs.Prelude.{◌≡◌, ◌≢◌, ℕ, List, Option, Some, None, map}
use Rattle.rpki_crl.specs.RevokedEntries.{Entry}
use Rattle.rpki_der.specs.Times.{IsMoment}
use Rattle.rpki_issuing.specs.WantedLists.{WantedListFields}
use Rattle.rpki_c.specs.Questions.{HasTerms}
use Rattle.rpki_c.specs.TimeParts.{moment_of_parts}
use Rattle.rpki_c.specs.declared.list_completing.RpkiListCompletion.{RpkiListCompletion}
use Rattle.rpki_c.specs.declared.lists.RpkiEntry.{RpkiEntry}
use Rattle.rpki_c.specs.declared.question.Terms.{Terms}
use Rattle.rpki_c.specs.declared.wanted_list.ListTerms.{ListTerms}
use Rattle.rpki_c.specs.declared.wanted_list.RpkiWantedList.{RpkiWantedList}

-- how many octets a wanted list has in the caller's memory
abbrev pub wanted_list_size : ℕ
wanted_list_size = 200

-- the list is prepared so
pub record HasListTerms (w : RpkiWantedList) (t : ListTerms) : Type 0 where
  pub size_is : w.size ≡ wanted_list_size
  pub path_is : HasTerms w.issuer t.asked
  pub this_is : t.this_update ≡ moment_of_parts w.this_update
  pub this_exists : IsMoment t.this_update
  pub next_is : t.next_update ≡ moment_of_parts w.next_update
  pub next_exists : IsMoment t.next_update

-- no moment or path has its numbers, or it is a struct of another size
abbrev pub HasNoListTerms : RpkiWantedList → Type 0
HasNoListTerms w = (t : ListTerms) → HasListTerms w t → ⊥

-- ---- its number, and what it revokes

-- the number that is chosen: the octets have the greatest first, and zeros choose none
abbrev pub IsNumberChosen : List ℕ → Option ℕ → Type 0
IsNumberChosen octets None = number_from_digits 256 octets ≡ 0
IsNumberChosen octets (Some n) = (n ≡ number_from_digits 256 octets) × (n ≢ 0)

-- the entry that is given
abbrev pub given_entry : RpkiEntry → Entry
given_entry it =
    record { serial = number_from_digits 256 it.serial; date = moment_of_parts it.date }

-- there is the moment since when it is revoked
abbrev pub HasDate : RpkiEntry → Type 0
HasDate it = IsMoment (moment_of_parts it.date)

abbrev pub HaveDates : List RpkiEntry → Type 0
HaveDates revoked = AllByRecursion HasDate revoked

-- ---- the whole

-- what is wanted of the list
pub record GivesWantedList (w : RpkiWantedList) (t : ListTerms) (it : WantedListFields) : Type 0 where
  pub number_is : IsNumberChosen w.number it.number
  pub revoked_are : it.revoked ≡ map given_entry w.revoked.now
  pub dates_exist : HaveDates w.revoked.now
  pub this_update_is : it.this_update ≡ t.this_update
  pub next_update_is : it.next_update ≡ t.next_update

-- ---- completion

-- how many octets a completion of a list has in the caller's memory
abbrev pub list_completion_size : ℕ
list_completion_size = 160

-- the list is completed so
pub record HasListCompletionTerms (c : RpkiListCompletion) (t : Terms) : Type 0 where
  pub size_is : c.size ≡ list_completion_size
  pub path_is : HasTerms c.issuer t

-- no path has its numbers, or it is a struct of another size
abbrev pub HasNoListCompletionTerms : RpkiListCompletion → Type 0
HasNoListCompletionTerms c = (t : Terms) → HasListCompletionTerms c t → ⊥
