-- Why no list is prepared or completed, from one step to the next.
use Rattle.std.specs.Prelude.{Err, option_map, Option, Some, None}
use Rattle.std.proofs.Common.{◌≡◌, ◌≢◌, ◌∙◌, ℕ, List, Bor, refl, sym, subst}
use Rattle.rpki_cert.specs.Certificates.{TbsFields}
use Rattle.rpki_ext.specs.Kinds.{Means}
use Rattle.rpki_crl.specs.Lists.{CrlState, IsTbsCertList, ListFields}
use Rattle.rpki_crl.specs.RevokedEntries.{Revoked}
use Rattle.rpki_issuing.specs.WantedLists.{IsListPrepared, IsListWanted, WantedListFields}
use Rattle.rpki_issuing.specs.declared.wanted.preparing.WantedError.{WantedError}
use Rattle.rpki_issuing.specs.declared.wanted.preparing.WantedError.TheVariants.{Broken, Listed, Memory, NoList}
use Rattle.rpki_issuing.specs.declared.wanted.preparing.WantedError.TheVariants.{NoRole, OtherOctets, Unready}
use Rattle.rpki_issuing.specs.declared.wanted.preparing.WantedError.TheVariants.{UnreadyList, Unsigned}
use Rattle.rpki_issuing.specs.declared.wanted.preparing.WantedError.TheVariants.{UnsignedList}
use Rattle.rpki_c.specs.ListAnswers.{AnswersBehind, AnswersListCompletedBelow, AnswersListFields, AnswersListNamed}
use Rattle.rpki_c.specs.ListAnswers.{AnswersListSigned, WantsListFields, CompletesList, GivesNoEntries, IsListNamed}
use Rattle.rpki_c.specs.ListAnswers.{fields_before}
use Rattle.rpki_c.specs.WantedAnswers.{unfit_of}
use Rattle.rpki_c.specs.WantedLists.{GivesWantedList}
use Rattle.rpki_c.specs.declared.list_completing.RpkiListCompletion.{RpkiListCompletion}
use Rattle.rpki_c.specs.declared.question.Terms.{Terms}
use Rattle.rpki_c.specs.declared.unissued.Unissued.{Unissued}
use Rattle.rpki_c.specs.declared.unissued.Unissued.TheVariants as why
use Rattle.rpki_c.specs.declared.wanted_list.ListTerms.{ListTerms}
use Rattle.rpki_c.specs.declared.wanted_list.RpkiWantedList.{RpkiWantedList}

-- what an error says that isn't that memory ran out, it says of why nothing is prepared or completed
unfit_with : (Holds : Unissued → Type 0) (P : Type 0) → Holds why.Memory →
    ((e : WantedError) → P → Holds (why.Unfit e)) → (e : WantedError) → (e ≢ Memory → P) → Holds (unfit_of e)
unfit_with Holds P memory unfit Memory h = memory
unfit_with Holds P memory unfit NoRole h = unfit NoRole (h (λ same. cc))
unfit_with Holds P memory unfit (Broken e) h = unfit (Broken e) (h (λ same. cc))
unfit_with Holds P memory unfit (Listed e) h = unfit (Listed e) (h (λ same. cc))
unfit_with Holds P memory unfit (Unready e) h = unfit (Unready e) (h (λ same. cc))
unfit_with Holds P memory unfit OtherOctets h = unfit OtherOctets (h (λ same. cc))
unfit_with Holds P memory unfit (Unsigned e) h = unfit (Unsigned e) (h (λ same. cc))
unfit_with Holds P memory unfit (NoList e) h = unfit (NoList e) (h (λ same. cc))
unfit_with Holds P memory unfit (UnreadyList e) h = unfit (UnreadyList e) (h (λ same. cc))
unfit_with Holds P memory unfit (UnsignedList e) h = unfit (UnsignedList e) (h (λ same. cc))

-- the fields of the list before, which is lent
pub before_lent : (before : Option (Bor CrlState)) → option_map (λ (l : Bor CrlState). l.now.list.fields) before ≡
    fields_before (option_map (λ (l : Bor CrlState). l.now) before)
before_lent None = refl
before_lent (Some l) = refl

module _ (w : RpkiWantedList) (t : ListTerms) (issuer : TbsFields) (before : Option CrlState) where
  pub ungiven_fields : (e : Unissued) → GivesNoEntries w.revoked.now e → AnswersListFields w t issuer before (Err e)
  ungiven_fields (why.Unfit e) h = absurd h
  ungiven_fields _ h = h

  pub unwanted_fields : (wanted : WantedListFields) → GivesWantedList w t wanted → (e : WantedError)
      → (e ≢ Memory → (f : ListFields Revoked) → IsListWanted wanted (fields_before before) issuer f → ⊥)
      → AnswersListFields w t issuer before (Err (unfit_of e))
  unwanted_fields wanted given e none =
      unfit_with (λ why. AnswersListFields w t issuer before (Err why)) ((f : ListFields Revoked) →
      IsListWanted wanted (fields_before before) issuer f → ⊥)
      tt (λ e none. (wanted, given, λ f is so. none f is)) e none

  pub unlisted_behind : (e : Unissued) → AnswersListFields w t issuer before (Err e) →
      AnswersBehind w t issuer before (Err e)
  unlisted_behind (why.Unfit e) (wanted, given, none) = (wanted, given, λ f is so. none f is tt)
  unlisted_behind _ h = h

  pub unready_behind : (f : ListFields Revoked) → WantsListFields w t issuer before f → (e : WantedError)
      → (e ≢ Memory → (octets : List ℕ) → IsListPrepared t.asked.now t.asked.strict issuer f octets → ⊥)
      → AnswersBehind w t issuer before (Err (unfit_of e))
  unready_behind f asks e none =
      unfit_with (λ why. AnswersBehind w t issuer before (Err why)) ((octets : List ℕ) →
      IsListPrepared t.asked.now t.asked.strict issuer f octets → ⊥)
      tt
      (λ e none. (
        asks.wanted,
        asks.given,
        λ g is so. none so.0
            (subst (λ (h : ListFields Revoked). IsListPrepared t.asked.now t.asked.strict issuer h so.0)
            (is.fields_are ∙ sym asks.fields_are.fields_are) so.1),
      ))
      e none

pub signed_list_named : (issuer : TbsFields) (octets : List ℕ) (e : Unissued) → AnswersListSigned octets (Err e) →
    AnswersListNamed issuer octets (Err e)
signed_list_named issuer octets why.OtherName h = absurd h
signed_list_named issuer octets _ h = h

module _ (c : RpkiListCompletion) (t : Terms) (issuer : TbsFields) where
  pub named_list_below : (e : Unissued) → AnswersListNamed issuer c.prepared.now (Err e) →
      AnswersListCompletedBelow c t issuer (Err e)
  named_list_below (why.Unfit e) h = absurd h
  named_list_below _ h = h

  pub unfit_list : (f : ListFields Revoked) → Means IsTbsCertList f c.prepared.now → IsListNamed issuer f →
      (e : WantedError)
      → (e ≢ Memory → (octets : List ℕ) → CompletesList c t issuer f octets → ⊥) →
      AnswersListCompletedBelow c t issuer (Err (unfit_of e))
  unfit_list f signed named e none =
      unfit_with (λ why. AnswersListCompletedBelow c t issuer (Err why)) ((octets : List ℕ) →
      CompletesList c t issuer f octets → ⊥)
      tt (λ e none. (f, signed, named, none)) e none
