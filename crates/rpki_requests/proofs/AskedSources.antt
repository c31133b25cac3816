-- Who is asked for revocation by the files that are given as lists: one source alone.
use Rattle.std.specs.Prelude.{true, false, Bool, ◌==◌, Result, Ok, Err, IfErr, IfOk}
use Rattle.std.proofs.Common.{◌≡◌, ◌≢◌, ◌⊎◌, ◌∙◌, ℕ, List, [], ◌∷◌, length, inr, refl, sym, subst, arith}
use Rattle.std.proofs.lemmas.Bool.{false≢true}
use Rattle.std.proofs.lemmas.Bool.Decides.{Decides-eqb}
use Rattle.std.proofs.lemmas.List.{length-map}
use Rattle.rpki_cert.specs.Certificates.{IsCertificate}
use Rattle.rpki_cert.specs.Verification.{Context}
use Rattle.rpki_crl.specs.Lists.{CrlState, IsCertificateList}
use Rattle.rpki_der.specs.Values.{IsUnambiguous}
use Rattle.rpki_files.specs.Files.{FileFields, contents}
use Rattle.rpki_path.specs.AskedLists.{GivenFields, by_named_lists}
use Rattle.rpki_path.specs.Asking.{RevocationChecks, nobody}
use Rattle.rpki_verdicts.specs.PathFiles.{AreListsOf}
use Rattle.rpki_verdicts.proofs.OneVerdict.{same_lists}
use Rattle.rpki_requests.specs.RequestFiles.{IsSoAsked}
use Rattle.rpki_requests.specs.declared.refusals.Refusal.{Refusal}
use Rattle.rpki_requests.specs.declared.refusals.Refusal.TheVariants.{Memory}

module _ (x : Context) where
  -- these are the checks of the source that the lists are
  pub record AreChecksOf (lists : List (List ℕ)) (checks : RevocationChecks) : Type 1 where
    pub so : (Is : RevocationChecks → Type 0) → Is checks → IsSoAsked x lists Is
    pub none : (Is : RevocationChecks → Type 0) → (Is checks → ⊥) → IsSoAsked x lists Is → ⊥

  of_nobody : (lists : List (List ℕ)) → length lists ≡ 0 → AreChecksOf lists nobody
  of_nobody [] empty = record { so = λ Is is. is; none = λ Is none is. none is }
  of_nobody (list ∷ lists) empty = absurd (omega (arith, empty))

  of_read : IsUnambiguous IsCertificate → IsUnambiguous IsCertificateList → (lists : List (List ℕ))
      (read : List CrlState) → (length lists ≡ 0 → ⊥) → AreListsOf lists read
      → AreChecksOf lists (by_named_lists true x read)
  of_read one_certificate one_list [] read some are = absurd (some refl)
  of_read one_certificate one_list (list ∷ lists) read some are =
      record {
        so = λ Is is. (read, are, is);
        none =
            λ Is none is. none (subst (λ (ls : List CrlState). Is (by_named_lists true x ls))
            (same_lists one_certificate one_list (list ∷ lists) is.0 read is.1 are) is.2);
      }

  -- nobody is asked if no file is given as a list
  pub asks_nobody : (files : List FileFields) (is_empty : Bool) → is_empty ≡ (length files == 0) → is_empty ≡ true
      → AreChecksOf (contents files) nobody
  asks_nobody files is_empty is empty =
      of_nobody (contents files)
      (length-map files (λ file. file.octets) ∙ (Decides-eqb (length files) 0).0 (sym is ∙ empty))

  -- else the lists that were read
  pub asks_lists : IsUnambiguous IsCertificate → IsUnambiguous IsCertificateList → (files : List FileFields)
      (is_empty : Bool) → is_empty ≡ (length files == 0) → is_empty ≡ false
      → (read : List CrlState) → AreListsOf (contents files) read
      → (given : GivenFields) → given ≡ record { lists = read; names = true }
      → AreChecksOf (contents files) (by_named_lists given.names x given.lists)
  asks_lists one_certificate one_list files is_empty is filled read are given same =
      let some : length (contents files) ≡ 0 → ⊥ = λ none. false≢true
      (sym filled ∙ is ∙ (Decides-eqb (length files) 0).1 (sym (length-map files (λ file. file.octets)) ∙ none)) in
      subst (λ (g : GivenFields). AreChecksOf (contents files) (by_named_lists g.names x g.lists)) (sym same)
      (of_read one_certificate one_list (contents files) read some are)

  -- ---- an answer that is right by these checks is right by the lists

  module _ {A : Type 0} (lists : List (List ℕ)) (checks : RevocationChecks) (are : AreChecksOf lists checks) where
    pub ok_asked : (Is : A → RevocationChecks → Type 0) (r : Result A Refusal) → IfOk r (λ v. Is v checks)
        → IfOk r (λ v. IsSoAsked x lists (Is v))
    ok_asked Is (Ok v) is = are.so (Is v) is
    ok_asked Is (Err e) is = tt

    pub none_asked : (Is : A → RevocationChecks → Type 0) (r : Result A Refusal)
        → IfErr r (λ why. why ≢ Memory → (v : A) → Is v checks → ⊥)
        → IfErr r (λ why. why ≢ Memory → (v : A) → IsSoAsked x lists (Is v) → ⊥)
    none_asked Is (Ok v) none = tt
    none_asked Is (Err e) none = λ not v. are.none (Is v) (none not v)

    pub why_asked : (Is : Refusal → RevocationChecks → Type 0) (r : Result A Refusal) → IfErr r (λ why. Is why checks)
        → IfErr r (λ why. (why ≡ Memory) ⊎ IsSoAsked x lists (Is why))
    why_asked Is (Ok v) is = tt
    why_asked Is (Err e) is = inr (are.so (Is e) is)

  -- what is so by one source is so by another of which it follows
  pub so_moved : (lists : List (List ℕ)) (Is Other : RevocationChecks → Type 0) →
      ((checks : RevocationChecks) → Is checks → Other checks) → IsSoAsked x lists Is → IsSoAsked x lists Other
  so_moved [] Is Other also is = also nobody is
  so_moved (list ∷ lists) Is Other also is = (is.0, is.1, also (by_named_lists true x is.0) is.2)
