-- What is kept of lists for an issuer answers of each certificate below it as all lists do.
use Rattle.std.specs.Prelude.{Bool, true, false, Some, Result, Contains}
use Rattle.std.proofs.Common.{◌≡◌, ◌<◌, ℕ, List, [], ◌∷◌, length, get_or, refl, sym, ap, subst, ◌∙◌, inl, inr, arith}
use Rattle.std.proofs.lemmas.Bool.{false≢true}
use Rattle.rpki_parts.specs.Conditions.{IsFirstFalse, Tests}
use Rattle.rpki_cert.specs.Certificates.{TbsFields, CertFields}
use Rattle.rpki_cert.specs.Verification.{Context, IsSignedBy}
use Rattle.rpki_crl.specs.Lists.{CrlState}
use Rattle.rpki_crl.specs.Revocation.{NamesIssuer, revocation_checks}
use Rattle.rpki_crl.specs.declared.revocation_error.RevocationError.{RevocationError}
use Rattle.rpki_crl.specs.declared.revocation_error.RevocationError.TheVariants.{NoCrl, BadSignature, Stale}
use Rattle.rpki_crl.specs.declared.revocation_error.RevocationError.TheVariants.{WrongIssuer}
use Rattle.rpki_path.specs.AskedLists.{IsFor, IsForBelow, HasBegun, IsEligibleNamed, HaveNone, IsLatest, by_named_lists}
use Rattle.rpki_path.proofs.AskedNamedList.{no_list, other_name, unsigned, not_begun, answered}
use Rattle.rpki_folder.specs.KeyTables.{signer_of, list_places}
use Rattle.rpki_folder.specs.IssuerLists.{ArePicked, HasName, HasSigned, IsOfIssuer, IsCurrent, CanBeAsked, IsBelow}
use Rattle.rpki_folder.specs.IssuerLists.{IssuerFields, AreIssuerLists, IsLatestOf, IsAnswered}
use Rattle.rpki_folder.proofs.PickedLists.{in_none, one_of_all, one_of_picked, picked_through, latest_of_all}
use Rattle.rpki_folder.proofs.PickedLists.{none_of_all}
use Rattle.rpki_folder.proofs.ListPlaces.{lists_at, at_one, list_inside, Names, named_there}

some_one : {X : Type 0} (x y : X) → Some x ≡ Some y → x ≡ y
some_one x y e = cc e

a_list : (lists : List CrlState) → 0 < length lists → (l : CrlState) × Contains lists l
a_list [] some = absurd (omega (arith, some))
a_list (l ∷ lists) some = (l, (0, omega arith, refl))

-- a list that is for a certificate, with the issuer's name if names are asked
by_names : (names : Bool) (issuer : TbsFields) (c : CertFields) (l : CrlState) → IsFor c l →
    HasName names issuer l → IsForBelow names issuer c l
by_names false issuer c l is named = is
by_names true issuer c l is named = (is, named refl)

is_for : (names : Bool) (issuer : TbsFields) (c : CertFields) (l : CrlState) → IsForBelow names issuer c l → IsFor c l
is_for false issuer c l h = h
is_for true issuer c l h = h.0

has_name : (names : Bool) (issuer : TbsFields) (c : CertFields) (l : CrlState) → IsForBelow names issuer c l →
    HasName names issuer l
has_name true issuer c l h asked = h.1
has_name false issuer c l h asked = absurd (false≢true asked)

abbrev key_of : TbsFields → List ℕ
key_of issuer = issuer.extensions.subject_key_identifier

module _ (lists : List CrlState) (issuer : TbsFields) (places : List ℕ)
    (given : places ≡ list_places (key_of issuer) lists) where
  -- each of the places is one of a list
  pub inside : (p : ℕ) → Contains places p → p < length lists
  inside p h = list_inside (key_of issuer) lists p (subst (λ (ps : List ℕ). Contains ps p) given h)

  -- the list there names the key
  pub named_at : (p : ℕ) → Contains places p → (l : CrlState) → l ≡ get_or lists p l →
      Contains lists l × NamesIssuer issuer l.list
  named_at p at l is =
      one_of_all (Names (key_of issuer)) lists (lists_at lists places)
      (subst (λ (ps : List ℕ). ArePicked (Names (key_of issuer)) lists (lists_at lists ps)) (sym given)
      (named_there (key_of issuer) lists))
      l (at_one lists places p l at (inside p at) is)

  -- each list that names it stands there
  pub there_named : (l : CrlState) → Contains lists l → NamesIssuer issuer l.list → Contains (lists_at lists places) l
  there_named l at names =
      one_of_picked (Names (key_of issuer)) lists (lists_at lists places)
      (subst (λ (ps : List ℕ). ArePicked (Names (key_of issuer)) lists (lists_at lists ps)) (sym given)
      (named_there (key_of issuer) lists))
      l at names

-- the lists with the issuer's name, among those that stand at the places of the key
module _ (names : Bool) (lists : List CrlState) (issuer : TbsFields) where
  pub named_there_too : (places : List ℕ) (named : List CrlState) → places ≡ list_places (key_of issuer) lists →
      ArePicked (HasName names issuer) (lists_at lists places) named →
      ArePicked (IsOfIssuer names issuer) lists named
  named_there_too places named given h =
      let there = subst (λ (ps : List ℕ). ArePicked (Names (key_of issuer)) lists (lists_at lists ps)) (sym given)
      (named_there (key_of issuer) lists) in
      picked_through (Names (key_of issuer)) (HasName names issuer) lists (lists_at lists places) named there h

  -- none is, if none of these is
  pub none_named : (named : List CrlState) → ArePicked (IsOfIssuer names issuer) lists named → named ≡ [] →
      HaveNone (IsOfIssuer names issuer) lists
  none_named named are empty l at is =
      in_none l (subst (λ (ls : List CrlState). Contains ls l) empty
      (one_of_picked (IsOfIssuer names issuer) lists named are l at is))

module _ (names : Bool) (x : Context) (lists : List CrlState) (issuer : TbsFields) where
  -- the lists that can be asked, among those of the issuer
  pub eligible_there : (named eligible : List CrlState) → ArePicked (IsOfIssuer names issuer) lists named →
      ArePicked (IsCurrent x.verifies x.now issuer) named eligible →
      ArePicked (CanBeAsked names x.verifies x.now issuer) lists eligible
  eligible_there named eligible are h = picked_through (IsOfIssuer names issuer) (IsCurrent x.verifies x.now issuer)
      lists named eligible are h

  module _ (c : CertFields) (below : IsBelow issuer c) where
    abbrev Fits : CrlState → Type 0
    Fits l = IsEligibleNamed names x.verifies x.now issuer c l

    abbrev Suits : CrlState → Type 0
    Suits l = IsForBelow names issuer c l

    abbrev Signs : CrlState → Type 0
    Signs l = IsSignedBy x.verifies issuer.key l.list.signed_data

    names_for : (l : CrlState) → NamesIssuer issuer l.list → IsFor c l
    names_for l named = below ∙ ap (λ (k : List ℕ). Some k) (sym named)

    for_names : (l : CrlState) → IsFor c l → NamesIssuer issuer l.list
    for_names l is = some_one (signer_of l) (key_of issuer) (sym is ∙ below)

    -- a list of the issuer is for the certificate below it, and the other way round
    suits : (l : CrlState) → IsOfIssuer names issuer l → Suits l
    suits l h = by_names names issuer c l (names_for l h.0) h.1

    of_issuer : (l : CrlState) → Suits l → IsOfIssuer names issuer l
    of_issuer l h = (for_names l (is_for names issuer c l h), has_name names issuer c l h)

    fits : (l : CrlState) → CanBeAsked names x.verifies x.now issuer l → Fits l
    fits l h = (suits l h.0, h.1.0, h.1.1)

    asked : (l : CrlState) → Fits l → CanBeAsked names x.verifies x.now issuer l
    asked l h = (of_issuer l h.0, (h.1, h.2))

    -- ---- where no list is the issuer's

    module _ (none : HaveNone (IsOfIssuer names issuer) lists) where
      none_suits : HaveNone Suits lists
      none_suits l at is = none l at (of_issuer l is)

      -- nor did the issuer's key sign one that names it
      pub none_signed : (HasSigned x.verifies lists issuer → ⊥) →
          IsFirstFalse (by_named_lists names x lists issuer c) revocation_checks NoCrl
      none_signed not = no_list names x lists issuer c none_suits (λ l at is. not (l, at, for_names l is.0, is.1))

      -- it signed one
      pub one_signed : HasSigned x.verifies lists issuer →
          IsFirstFalse (by_named_lists names x lists issuer c) revocation_checks WrongIssuer
      one_signed (l, at, named, signed) = other_name names x lists issuer c none_suits l at (names_for l named) signed

    -- ---- where none of the issuer's lists is eligible

    module _ (none : HaveNone Fits lists) (named : List CrlState)
        (are : ArePicked (IsOfIssuer names issuer) lists named) where
      module _ (l : CrlState) (at : Contains named l) where
        one : Contains lists l × IsOfIssuer names issuer l
        one = one_of_all (IsOfIssuer names issuer) lists named are l at

        -- it isn't signed
        pub one_unsigned : (Signs l → ⊥) →
            IsFirstFalse (by_named_lists names x lists issuer c) revocation_checks BadSignature
        one_unsigned not = unsigned names x lists issuer c none l (one.0, suits l one.1) one.1.0
            (λ each. not (each l one.0 (suits l one.1)))

        -- as where its time has begun
        pub one_begun : HasBegun x.now l.list →
            IsFirstFalse (by_named_lists names x lists issuer c) revocation_checks BadSignature
        one_begun begun = one_unsigned (λ signs. none l one.0 (suits l one.1, signs, begun))

      -- each is signed
      pub all_signed : 0 < length named → ((l : CrlState) → Contains named l → Signs l) →
          IsFirstFalse (by_named_lists names x lists issuer c) revocation_checks Stale
      all_signed some each =
          let l = a_list named some in
          let one = one_of_all (IsOfIssuer names issuer) lists named are l.0 l.1 in
          not_begun names x lists issuer c none l.0 (one.0, suits l.0 one.1) one.1.0
          (λ k at is. each k (one_of_picked (IsOfIssuer names issuer) lists named are k at (of_issuer k is)))

    -- ---- what was kept answers as all lists

    module _ (kept : IssuerFields) (are : AreIssuerLists names x lists issuer kept) where
      latest : (l : CrlState) → IsLatestOf c kept.eligible l → IsLatest Fits c lists l
      latest l h = latest_of_all (CanBeAsked names x.verifies x.now issuer) Fits c lists kept.eligible are.eligible
          asked l (fits l) h

      key : (l : CrlState) → IsLatestOf c kept.eligible l → NamesIssuer issuer l.list
      key l h = (of_issuer l (latest l h).has.0).0

      pub as_all : {T : Type 0} (r : Result T RevocationError) → IsAnswered kept x.now c r →
          Tests (by_named_lists names x lists issuer c) revocation_checks r
      as_all {T} r (inl (empty, is)) =
          let none = none_of_all (CanBeAsked names x.verifies x.now issuer) Fits c lists kept.eligible are.eligible
          asked empty in
          subst (λ (s : Result T RevocationError). Tests (by_named_lists names x lists issuer c) revocation_checks
          s) (sym is) (are.otherwise c below none)
      as_all r (inr (l, h, said)) = answered names x lists issuer c l (latest l h) (key l h) r said
