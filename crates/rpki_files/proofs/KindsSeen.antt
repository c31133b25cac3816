-- Extensions one after the other, each of which may stand there: one more, and whether they give all
-- that must be there in a list.
use Rattle.std.specs.List.{AllByRecursion}
use Rattle.std.specs.Prelude.{Contains, bytes_eq, filter, Some}
use Rattle.std.proofs.Common.{◌≡◌, ◌≢◌, ℕ, zero, suc, Bool, true, false, List, [], ◌∷◌, ◌++◌, map, refl, sym, ap}
use Rattle.std.proofs.Common.{subst, ◌∙◌, append_assoc, arith}
use Rattle.std.proofs.lemmas.Bool.{false≢true}
use Rattle.std.proofs.lemmas.List.{append-nil}
use Rattle.std.proofs.lemmas.List.Elements.{Contains-append_left, Contains-append_right}
use Rattle.std.proofs.lemmas.Slice.Eq.{bytes_eq-Decides}
use Rattle.rpki_ext.specs.ExtensionKinds.{authority_key_identifier, crl_number, list_kinds}
use Rattle.rpki_der.specs.Extensions.{Extension, IsExtension, extension_format}
use Rattle.rpki_ext.specs.Kinds.{Tells, is_of}
use Rattle.rpki_ext.specs.KindTables.{identifiers_of}
use Rattle.rpki_crl.specs.ListExtensions.{GiveListExtensions, ListExtensions, with_any_flag}
use Rattle.rpki_der.specs.Sequences.{AreEncodings, IsAtMostOne}
use Rattle.rpki_der.proofs.Choices.{sequence_reads}
use Rattle.rpki_der.proofs.ExtensionReads.{extension_reads, extension_shrinks}
use Rattle.rpki_der.proofs.Octets.{some, some_is}
use Rattle.rpki_der.specs.Sequences.Reading.{sequence_of}
use Rattle.rpki_files.specs.KnownKinds.{HasContent}
use Rattle.rpki_files.specs.StopPlaces.{AreComplete, AreOfKinds, AreWellPlaced, HasBoth, IsSecond, MayStand, MayStandBehind, extension_kind}
use Rattle.rpki_files.specs.declared.kinds.Kind.{Kind}
use Rattle.rpki_files.specs.declared.kinds.Kind.TheVariants as known
use Rattle.rpki_files.proofs.StopWalks.{encodings_more}

-- ---- one more

behind_more : (is_list : Bool) (kinds : List Kind) (xs : List Extension) (x : Extension) →
    MayStandBehind is_list kinds xs → MayStand is_list (kinds ++ map (extension_kind is_list) xs) x →
    MayStandBehind is_list kinds (xs ++ x ∷ [])
behind_more is_list kinds [] x h may = (subst (λ (k : List Kind). MayStand is_list k x) (append-nil kinds) may, tt)
behind_more is_list kinds (y ∷ ys) x h may =
    let more = kinds ++ extension_kind is_list y ∷ [] in
    let same : kinds ++ (extension_kind is_list y ∷ map (extension_kind is_list) ys) ≡ more ++ map (extension_kind is_list) ys =
    sym (append_assoc kinds (extension_kind is_list y ∷ []) (map (extension_kind is_list) ys)) in
    (h.0, behind_more is_list more ys x h.1 (subst (λ (k : List Kind). MayStand is_list k x) same may))

-- an extension that may stand behind those before it
pub placed_more : (is_list : Bool) (xs : List Extension) (x : Extension) (a b : List ℕ) →
    MayStand is_list (map (extension_kind is_list) xs) x → AreWellPlaced is_list xs a → IsExtension x b →
    AreWellPlaced is_list (xs ++ x ∷ []) (a ++ b)
placed_more is_list xs x a b may are is = (encodings_more IsExtension xs x a b are.0 is, behind_more is_list [] xs x are.1 may)

-- their kinds
pub kinds_more : (is_list : Bool) (xs : List Extension) (x : Extension) →
    map (extension_kind is_list) xs ++ extension_kind is_list x ∷ [] ≡ map (extension_kind is_list) (xs ++ x ∷ [])
kinds_more is_list [] x = refl
kinds_more is_list (y ∷ ys) x = ap (λ (k : List Kind). extension_kind is_list y ∷ k) (kinds_more is_list ys x)

-- octets are one sequence of extensions
pub same_extensions : (octets : List ℕ) (xs ys : List Extension) → AreEncodings IsExtension xs octets →
    AreEncodings IsExtension ys octets → xs ≡ ys
same_extensions octets xs ys a b =
    let reads = sequence_reads extension_format.read IsExtension extension_reads extension_shrinks in
    let one : sequence_of extension_format.read octets ≡ some xs = reads.again xs octets a in
    some_is xs ys (sym one ∙ reads.again ys octets b)

-- ---- one of a kind in a list

-- the first of two, or one of the others
in_rest : (k j : Kind) (kinds : List Kind) → (j ≡ k → ⊥) → Contains (j ∷ kinds) k → Contains kinds k
in_rest k j kinds not (zero, low, is) = absurd (not is)
in_rest k j kinds not (suc n, low, is) = (n, omega arith, is)

module _ (k : Kind) (known_is : k ≢ known.Unknown) (test : Extension → Bool) (there : (x : Extension) →
    test x ≡ true → extension_kind true x ≡ k) (back : (x : Extension) → extension_kind true x ≡ k → test x ≡ true) where
  kept : (x : Extension) (xs ys : List Extension) → test x ≡ true → filter test xs ≡ ys → filter test (x ∷ xs) ≡ x ∷ ys
  kept x xs ys e same = rw e (ap (λ (l : List Extension). x ∷ l) same)

  passed_over : (x : Extension) (xs ys : List Extension) → test x ≡ false → filter test xs ≡ ys → filter test (x ∷ xs) ≡ ys
  passed_over x xs ys e same = rw e same

  none_again : (kinds : List Kind) (xs : List Extension) → Contains kinds k → MayStandBehind true kinds xs → filter test xs ≡ []
  none_again kinds [] has h = refl
  none_again kinds (x ∷ xs) has h =
      by_test (test x) refl
      (none_again (kinds ++ extension_kind true x ∷ []) xs (Contains-append_left kinds (extension_kind true x ∷ []) k has) h.1)
    where
      by_test : (b : Bool) → test x ≡ b → filter test xs ≡ [] → filter test (x ∷ xs) ≡ []
      by_test true e rest =
          let same = there x e in
          absurd (h.0.first (subst (λ (j : Kind). IsSecond kinds j) (sym same) (known_is, has)))
      by_test false e rest = passed_over x xs [] e rest

  one_there : (kinds : List Kind) (xs : List Extension) → Contains (map (extension_kind true) xs) k →
      MayStandBehind true kinds xs → (x : Extension) × (filter test xs ≡ x ∷ []) × HasContent k x.content
  one_there kinds [] (n, low, is) h = absurd (omega arith)
  one_there kinds (x ∷ xs) has h = by_test (test x) refl (λ rest. one_there (kinds ++ extension_kind true x ∷ []) xs rest h.1)
    where
      by_test : (b : Bool) → test x ≡ b →
          (Contains (map (extension_kind true) xs) k →
          (y : Extension) × (filter test xs ≡ y ∷ []) × HasContent k y.content) →
          (y : Extension) × (filter test (x ∷ xs) ≡ y ∷ []) × HasContent k y.content
      by_test true e others =
          let same = there x e in
          let here : Contains (kinds ++ extension_kind true x ∷ []) k = Contains-append_right kinds (extension_kind true x ∷ []) k
          (0, omega arith, same) in (
            x,
            kept x xs [] e (none_again (kinds ++ extension_kind true x ∷ []) xs here h.1),
            subst (λ (j : Kind). HasContent j x.content) same h.0.has_content,
          )
      by_test false e others =
          let not : extension_kind true x ≡ k → ⊥ = λ same. false≢true (sym e ∙ back x same) in
          let rest = others (in_rest k (extension_kind true x) (map (extension_kind true) xs) not has) in
          (rest.0, passed_over x xs (rest.0 ∷ []) e rest.1, rest.2)

  -- one that is found has the kind
  found_there : (xs : List Extension) (x : Extension) → filter test xs ≡ x ∷ [] → Contains (map (extension_kind true) xs) k
  found_there [] x e = absurd cc
  found_there (y ∷ ys) x e = by_test (test y) refl (λ rest. found_there ys x rest)
    where
      by_test : (b : Bool) → test y ≡ b → (filter test ys ≡ x ∷ [] → Contains (map (extension_kind true) ys) k) →
          Contains (map (extension_kind true) (y ∷ ys)) k
      by_test true t others = (0, omega arith, there y t)
      by_test false t others = let rest = others (rw t at e) in (suc rest.0, omega (arith, rest.1), rest.2)

-- ---- the two kinds of a list

aki_known : known.AuthorityKeyIdentifier ≢ known.Unknown
aki_known e = absurd cc

number_known : known.CrlNumber ≢ known.Unknown
number_known e = absurd cc

abbrev aki : List ℕ
aki = authority_key_identifier.identifier

abbrev number : List ℕ
number = crl_number.identifier

module _ (x : Extension) where
  aki_there : is_of (aki ∷ []) x ≡ true → extension_kind true x ≡ known.AuthorityKeyIdentifier
  aki_there is = by_test (bytes_eq x.identifier aki) refl
    where
      by_test : (b : Bool) → bytes_eq x.identifier aki ≡ b → extension_kind true x ≡ known.AuthorityKeyIdentifier
      by_test true e = rw e refl
      by_test false e = let no : false ≡ true = rw e at is in absurd (false≢true no)

  aki_back : extension_kind true x ≡ known.AuthorityKeyIdentifier → is_of (aki ∷ []) x ≡ true
  aki_back is = by_test (bytes_eq x.identifier aki) refl (bytes_eq x.identifier number) refl
    where
      by_test : (b : Bool) → bytes_eq x.identifier aki ≡ b → (n : Bool) → bytes_eq x.identifier number ≡ n → is_of (aki ∷ []) x ≡ true
      by_test true e n f = rw e refl
      by_test false e true f = let other : known.CrlNumber ≡ known.AuthorityKeyIdentifier = rw (e, f) at is in absurd cc
      by_test false e false f = let other : known.NoList ≡ known.AuthorityKeyIdentifier = rw (e, f) at is in absurd cc

  number_there : is_of (number ∷ []) x ≡ true → extension_kind true x ≡ known.CrlNumber
  number_there is = by_test (bytes_eq x.identifier aki) refl (bytes_eq x.identifier number) refl
    where
      by_test : (b : Bool) → bytes_eq x.identifier aki ≡ b → (n : Bool) → bytes_eq x.identifier number ≡ n →
          extension_kind true x ≡ known.CrlNumber
      by_test true e true f =
          let both : bytes_eq number aki ≡ true = subst (λ (id : List ℕ). bytes_eq id aki ≡ true)
          ((bytes_eq-Decides x.identifier number).0 f) e in
          absurd (false≢true both)
      by_test b e false f = let no : false ≡ true = rw f at is in absurd (false≢true no)
      by_test false e true f = rw (e, f) refl

  number_back : extension_kind true x ≡ known.CrlNumber → is_of (number ∷ []) x ≡ true
  number_back is = by_test (bytes_eq x.identifier aki) refl (bytes_eq x.identifier number) refl
    where
      by_test : (b : Bool) → bytes_eq x.identifier aki ≡ b → (n : Bool) → bytes_eq x.identifier number ≡ n → is_of (number ∷ []) x ≡ true
      by_test b e true f = rw f refl
      by_test true e false f = let other : known.AuthorityKeyIdentifier ≡ known.CrlNumber = rw e at is in absurd cc
      by_test false e false f = let other : known.NoList ≡ known.CrlNumber = rw (e, f) at is in absurd cc

  one_of_both : HasContent (extension_kind true x) x.content → is_of (identifiers_of list_kinds) x ≡ true
  one_of_both has = by_test (bytes_eq x.identifier aki) refl (bytes_eq x.identifier number) refl
    where
      by_test : (b : Bool) → bytes_eq x.identifier aki ≡ b → (n : Bool) → bytes_eq x.identifier number ≡ n →
          is_of (identifiers_of list_kinds) x ≡ true
      by_test true e n f = rw e refl
      by_test false e true f = rw (e, f) refl
      by_test false e false f = let none : ⊥ = rw (e, f) at has in absurd none

no_others : (kinds : List Kind) (xs : List Extension) → MayStandBehind true kinds xs →
    AllByRecursion (λ x. is_of (identifiers_of list_kinds) x ≡ true) xs
no_others kinds [] h = tt
no_others kinds (x ∷ xs) h = (one_of_both x h.0.has_content, no_others (kinds ++ extension_kind true x ∷ []) xs h.1)

only_one : {X V : Type 0} (P : X → V → Type 0) (ys : List X) (v : V) → IsAtMostOne P ys (Some v) → (x : X) × (ys ≡ x ∷ [])
only_one P [] v h = absurd cc
only_one P (x ∷ []) v h = (x, refl)
only_one P (x ∷ y ∷ more) v h = absurd h

module _ (kinds : List Kind) (elements : List ℕ) (are : AreOfKinds true kinds elements) where
  -- both kinds give all that must be there
  pub both_suffice : HasBoth kinds → AreComplete true elements
  both_suffice has =
      let (xs, (encoded, behind), same) = are in
      let one = one_there known.AuthorityKeyIdentifier aki_known (is_of (aki ∷ [])) aki_there aki_back [] xs
      (subst (λ (k : List Kind). Contains k known.AuthorityKeyIdentifier) same has.0) behind in
      let two = one_there known.CrlNumber number_known (is_of (number ∷ [])) number_there number_back [] xs
      (subst (λ (k : List Kind). Contains k known.CrlNumber) same has.1) behind in
      let f : ListExtensions = record { authority_key_identifier = one.2.0; crl_number = two.2.0 } in (
        f,
        (
          xs,
          encoded,
          record {
            no_others = no_others [] xs behind;
            authority_key_identifier_is =
                subst (λ (ys : List Extension). IsAtMostOne (Tells (with_any_flag authority_key_identifier)) ys
                (Some one.2.0)) (sym one.1) (one.2.0, (tt, one.2.1), refl);
            crl_number_is = subst (λ (ys : List Extension). IsAtMostOne (Tells (with_any_flag crl_number)) ys
                (Some two.2.0)) (sym two.1) (two.2.0, (tt, two.2.1), refl);
          },
        ),
      )

  -- and where all is there, both are
  pub both_needed : AreComplete true elements → HasBoth kinds
  both_needed (f, (ys, ys_are, give)) =
      let (xs, (encoded, behind), same) = are in
      let given : GiveListExtensions xs f = subst (λ (l : List Extension). GiveListExtensions l f)
      (same_extensions elements ys xs ys_are encoded) give in
      let one = only_one (Tells (with_any_flag authority_key_identifier)) _ f.authority_key_identifier given.authority_key_identifier_is in
      let two = only_one (Tells (with_any_flag crl_number)) _ f.crl_number given.crl_number_is in
      let first = found_there known.AuthorityKeyIdentifier aki_known (is_of (aki ∷ [])) aki_there aki_back xs one.0 one.1 in
      let second = found_there known.CrlNumber number_known (is_of (number ∷ [])) number_there number_back xs two.0 two.1 in (
        subst (λ (k : List Kind). Contains k known.AuthorityKeyIdentifier) (sym same) first,
        subst (λ (k : List Kind). Contains k known.CrlNumber) (sym same) second,
      )
