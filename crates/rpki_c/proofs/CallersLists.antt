-- The caller's lists, as they are read one after the other, and those among all that are asked.
use Rattle.std.specs.Prelude.{◌↔◌, Contains, MatchOption, Option, Some, None}
use Rattle.std.proofs.Common.{◌≡◌, ◌+◌, ◌<◌, ◌⊎◌, ℕ, zero, suc, List, [], ◌∷◌, ◌++◌, length, take, get_or, false}
use Rattle.std.proofs.Common.{refl, sym, subst, ◌∙◌, inl, inr, arith}
use Rattle.std.proofs.lemmas.List.{append-nil, take_more}
use Rattle.std.proofs.lemmas.List.Elements.{Contains-append_right}
use Rattle.rpki_der.specs.Reading.{Reads}
use Rattle.rpki_der.specs.Skipping.{levels}
use Rattle.rpki_der.specs.Values.{AreOctets}
use Rattle.rpki_der.proofs.Answering.{none_encoded, rejects}
use Rattle.rpki_der.proofs.FormatAnswers.{alone_reads}
use Rattle.rpki_der.proofs.Octets.{nothing, some}
use Rattle.rpki_der.proofs.WrittenOctets.{value_octets}
use Rattle.rpki_crl.specs.ListHeads.{NamesKey}
use Rattle.rpki_crl.specs.Lists.{CrlFields, CrlState, IsCertificateList, certificate_list_format}
use Rattle.rpki_crl.proofs.ListFormats.{certificate_list_alone}
use Rattle.rpki_crl.proofs.NamedKeys.{list_names, one_key}
use Rattle.rpki_c.specs.Verdicts.{AreAllLists, AreListsBut, AreListsNaming, AreNoList, IsForeign, IsListGiven}
use Rattle.rpki_c.specs.Verdicts.{IsUnreadList}
use Rattle.rpki_c.specs.declared.refusal.Refusal.{Refusal}
use Rattle.rpki_c.specs.declared.refusal.Refusal.TheVariants as refusal
use Rattle.rpki_c.proofs.OneMore.{keep_push, pass_push}

-- ---- one string more

module _ (MayPass : List ℕ → Type 0) where
  module _ (strings : List (List ℕ)) (i : ℕ) (within : i < length strings) (lists : List CrlState)
      (are : AreListsBut MayPass (take i strings) lists) where
    -- the next string is passed over
    pub one_passed : MayPass (get_or strings i []) → AreListsBut MayPass (take (i + 1) strings) lists
    one_passed passes = subst (λ (front : List (List ℕ)). AreListsBut MayPass front lists)
        (sym (take_more strings i [] within))
        (pass_push MayPass IsListGiven (take i strings) lists (get_or strings i []) are passes)

    -- or it is a list
    pub one_given : (m : CrlState) → IsListGiven (get_or strings i []) m →
        AreListsBut MayPass (take (i + 1) strings) (lists ++ m ∷ [])
    one_given m is = subst (λ (front : List (List ℕ)). AreListsBut MayPass front (lists ++ m ∷ []))
        (sym (take_more strings i [] within))
        (keep_push MayPass IsListGiven (take i strings) lists (get_or strings i []) m are is)

    -- as it was read
    pub one_more : (o : Option CrlState) (items : List CrlState) →
        MatchOption o (MayPass (get_or strings i [])) (IsListGiven (get_or strings i [])) →
        MatchOption o (items ≡ lists) (λ l. items ≡ lists ++ l ∷ [])
        → AreListsBut MayPass (take (i + 1) strings) items
    one_more None items passes same = subst (λ (ls : List CrlState). AreListsBut MayPass (take (i + 1) strings) ls)
        (sym same) (one_passed passes)
    one_more (Some m) items is same = subst (λ (ls : List CrlState). AreListsBut MayPass (take (i + 1) strings) ls)
        (sym same) (one_given m is)

-- ---- the same keys

module _ (Is Other : List ℕ → Type 0) (same : (key : List ℕ) → Is key ↔ Other key) where
  foreign_so : (octets : List ℕ) → IsForeign Is octets → IsForeign Other octets
  foreign_so octets (key, names, none) = (key, names, λ is. none ((same key).1 is))

  foreign_back : (octets : List ℕ) → IsForeign Other octets → IsForeign Is octets
  foreign_back octets (key, names, none) = (key, names, λ is. none ((same key).0 is))

  pub naming_so : (strings : List (List ℕ)) (lists : List CrlState) → AreListsNaming Is strings lists →
      AreListsNaming Other strings lists
  naming_so [] lists are = are
  naming_so (s ∷ strings) lists (inl (p, are)) = inl (foreign_so s p, naming_so strings lists are)
  naming_so (s ∷ strings) lists (inr (l, others, e, given, are)) =
      inr (l, others, e, given, naming_so strings others are)

  pub unread_so : (strings : List (List ℕ)) (r : Refusal) → IsUnreadList Is strings r → IsUnreadList Other strings r
  unread_so strings (refusal.List place e) (within, h) =
      (within, rejects e (λ none. (none.0, λ foreign. none.1 (foreign_back (get_or strings place []) foreign))) h)
  unread_so strings refusal.Memory h = tt
  unread_so strings refusal.BadCall h = absurd h
  unread_so strings (refusal.Locator e) h = absurd h
  unread_so strings refusal.OtherKey h = absurd h
  unread_so strings (refusal.NoResources place) h = absurd h
  unread_so strings (refusal.Member e) h = absurd h
  unread_so strings (refusal.OtherName place) h = absurd h
  unread_so strings refusal.UnusedKey h = absurd h

-- ---- a string that is read, or isn't

module _ (IsKey : List ℕ → Type 0) (octets : List ℕ) where
  -- without a head there is no list
  pub no_key : ((key : List ℕ) → NamesKey key octets → ⊥) → AreNoList octets × (IsForeign IsKey octets → ⊥)
  no_key none = (
    (λ l is. none l.fields.extensions.authority_key_identifier (list_names l octets is)),
    λ foreign. none foreign.0 foreign.1,
  )

  -- what names one of the keys isn't foreign
  pub not_foreign : (key : List ℕ) → NamesKey key octets → IsKey key → IsForeign IsKey octets → ⊥
  not_foreign key names is (other, names_other, none) =
      none (subst IsKey (one_key key other octets names names_other) is)

-- ---- all lists

octets_of : (key octets : List ℕ) → NamesKey key octets → AreOctets octets
octets_of key octets (h, (content, head, enc), same) = value_octets enc

list_reads : Reads (certificate_list_format levels).read IsCertificateList
list_reads = alone_reads (certificate_list_format levels) (certificate_list_alone levels)

as_read : (octets : List ℕ) → AreOctets octets → (o : Option (CrlFields × List ℕ)) →
    (certificate_list_format levels).read octets ≡ o →
    ((l : CrlFields) × IsCertificateList l octets) ⊎ AreNoList octets
as_read octets low None e = inr (λ l is.
    let again : (certificate_list_format levels).read octets ≡ some {A = CrlFields × List ℕ} (l, []) =
    subst (λ (b : List ℕ). (certificate_list_format levels).read b ≡ some {A = CrlFields × List ℕ} (l, []))
    (append-nil octets) (list_reads.again l octets [] is) in
    nothing {B = ⊥} (l, []) (sym e ∙ again))
as_read octets low (Some (l, [])) e =
    let b = list_reads.takes octets l [] low e in
    inl (l, subst (λ (text : List ℕ). IsCertificateList l text) (sym (b.parts ∙ append-nil b.text)) b.encoded)
as_read octets low (Some (l, y ∷ rest)) e =
    inr (λ m is. none_encoded (certificate_list_format levels).read IsCertificateList list_reads l m octets octets
    (y ∷ rest) refl (λ nil. absurd (cc nil)) (list_reads.takes octets l (y ∷ rest) low e) is)

-- octets are a list or none
read_list : (octets : List ℕ) → AreOctets octets → ((l : CrlFields) × IsCertificateList l octets) ⊎ AreNoList octets
read_list octets low = as_read octets low ((certificate_list_format levels).read octets) refl

-- the lists that name one of the keys are the same
abbrev pub AreSameNaming : (List ℕ → Type 0) → List CrlState → List CrlState → Type 0
AreSameNaming IsKey lists others =
    (l : CrlState) → IsKey l.list.fields.extensions.authority_key_identifier → Contains lists l ↔ Contains others l

first_or_later : (l m : CrlState) (ls : List CrlState) → Contains (l ∷ ls) m → (l ≡ m) ⊎ Contains ls m
first_or_later l m ls (zero, low, is) = inl is
first_or_later l m ls (suc k, low, is) = inr (k, omega (arith, low), is)

later : (l m : CrlState) (ls : List CrlState) → Contains ls m → Contains (l ∷ ls) m
later l m ls there = Contains-append_right (l ∷ []) ls m there

beside : (l m : CrlState) (ls others : List CrlState) → (Contains ls m → Contains others m) → Contains (l ∷ ls) m →
    Contains (l ∷ others) m
beside l m ls others go there = elim (first_or_later l m ls there) [
  | inl same ↦ (0, omega arith, same)
  | inr after ↦ later l m others (go after)
]

module _ (IsKey : List ℕ → Type 0) where
  -- beside the lists that are read stand the foreign ones
  pub all_lists : (strings : List (List ℕ)) (kept : List CrlState) → AreListsNaming IsKey strings kept →
      (lists : List CrlState) × AreAllLists IsKey strings lists × AreSameNaming IsKey kept lists
  all_lists [] kept are = (kept, are, λ l key. ((λ h. h), (λ h. h)))
  all_lists (s ∷ strings) kept (inl (foreign, are)) =
      let (lists, all, same) = all_lists strings kept are in
      elim (read_list s (octets_of foreign.0 s foreign.1)) [
        | inl (f, is) ↦
            let l : CrlState = record { list = f; is_cached = false } in
            let other : (m : CrlState) → IsKey m.list.fields.extensions.authority_key_identifier → l ≡ m →
            ⊥ = λ m key e.
            not_foreign IsKey s f.fields.extensions.authority_key_identifier (list_names f s is)
            (subst (λ (n : CrlState). IsKey n.list.fields.extensions.authority_key_identifier) (sym e) key)
            foreign in (
              l ∷ lists,
              inr (l, lists, refl, is, all),
              λ m key. (
                (λ there. later l m lists ((same m key).0 there)),
                (λ there. elim (first_or_later l m lists there) [
                  | inl e ↦ absurd (other m key e)
                  | inr after ↦ (same m key).1 after
                ]),
              ),
            )
        | inr none ↦ (lists, inl ((none, foreign), all), same)
      ]
  all_lists (s ∷ strings) kept (inr (l, others, e, given, are)) =
      let (lists, all, same) = all_lists strings others are in (
        l ∷ lists,
        inr (l, lists, refl, given, all),
        λ m key. (
          (λ there. beside l m others lists (same m key).0 (subst (λ (ls : List CrlState). Contains ls m) e there)),
          (λ there. subst (λ (ls : List CrlState). Contains ls m) (sym e)
              (beside l m lists others (same m key).1 there)),
        ),
      )
