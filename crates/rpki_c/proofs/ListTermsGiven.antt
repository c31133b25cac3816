-- Wanted lists, and completions of lists, that have no terms.
use Rattle.std.proofs.Common.{◌≢◌, subst}
use Rattle.rpki_der.specs.Times.{IsMoment}
use Rattle.rpki_c.specs.Questions.{HasNoTerms}
use Rattle.rpki_c.specs.TimeParts.{moment_of_parts}
use Rattle.rpki_c.specs.WantedLists.{list_completion_size, wanted_list_size, HasNoListCompletionTerms, HasNoListTerms}
use Rattle.rpki_c.specs.declared.list_completing.RpkiListCompletion.{RpkiListCompletion}
use Rattle.rpki_c.specs.declared.wanted_list.RpkiWantedList.{RpkiWantedList}

module _ (w : RpkiWantedList) where
  pub no_list_size : w.size ≢ wanted_list_size → HasNoListTerms w
  no_list_size h t terms = h terms.size_is

  pub no_list_path : HasNoTerms w.issuer → HasNoListTerms w
  no_list_path h t terms = h t.asked terms.path_is

  pub no_this_update : (IsMoment (moment_of_parts w.this_update) → ⊥) → HasNoListTerms w
  no_this_update h t terms = h (subst IsMoment terms.this_is terms.this_exists)

  pub no_next_update : (IsMoment (moment_of_parts w.next_update) → ⊥) → HasNoListTerms w
  no_next_update h t terms = h (subst IsMoment terms.next_is terms.next_exists)

module _ (c : RpkiListCompletion) where
  pub no_list_completion_size : c.size ≢ list_completion_size → HasNoListCompletionTerms c
  no_list_completion_size h t terms = h terms.size_is

  pub no_list_completion_path : HasNoTerms c.issuer → HasNoListCompletionTerms c
  no_list_completion_path h t terms = h t terms.path_is
