-- What is found of one certificate, verdict by verdict.
use Rattle.std.specs.List.{AllByRecursion}
use Rattle.std.specs.Prelude.{Option, None, Some, Result, Ok, IsOk}
use Rattle.std.proofs.Common.{◌≡◌, ℕ, List, [], ◌∷◌, ◌++◌, sym, subst, ◌∙◌}
use Rattle.std.proofs.lemmas.List.Elements.{Contains-append_left, Contains-push, All-from_recursion}
use Rattle.rpki_cert.specs.Verification.{Context}
use Rattle.rpki_path.specs.Asking.{RevocationChecks}
use Rattle.rpki_path.specs.declared.judging.Judged.{Judged}
use Rattle.rpki_path.specs.declared.path_fault.PathFault.{PathFault}
use Rattle.rpki_folder.specs.Folders.{string_at}
use Rattle.rpki_folder.specs.Searches.{IsSought}
use Rattle.rpki_folder.specs.Walks.{Root, members_at, IsRight, IsRightOf, IsTold, IsLetIn, AreAdmitted, Told, told_at}
use Rattle.rpki_folder.specs.declared.find.FoundPath.{FoundPath}
use Rattle.rpki_folder.proofs.Descent.{all_append}

module _ (place : ℕ) (ts : List Told) where
  -- a verdict that accepts another one, or none
  pub sought_still : (t : Told) → (t.place ≡ place → IsOk t.verdict → ⊥) → (found : Option FoundPath) →
      IsSought place ts found → IsSought place (ts ++ t ∷ []) found
  sought_still t other None h = all_append (λ (u : Told). u.place ≡ place → IsOk u.verdict → ⊥) ts (t ∷ []) h
      (other, tt)
  sought_still t other (Some path) h = let c = Contains-append_left ts (t ∷ []) h.1 (h.0, h.2, h.3) in
      (c.0, h.1, c.1, c.2, h.4)

  -- a verdict that accepts it
  pub sought_now : (above : List ℕ) (p : ℕ) (verdict : Result Judged PathFault) (path : FoundPath) →
      above ≡ path.above.items → p ≡ place → verdict ≡ Ok path.judged →
      IsSought place (ts ++ told_at above p verdict ∷ []) (Some path)
  sought_now above p verdict path is here ok = let c = Contains-push ts (told_at above p verdict) in
      (c.0, told_at above p verdict, c.1, c.2, (is, here, ok))

-- ---- when the walk has ended

module _ (x : Context) (asked : RevocationChecks) (root : Root) (certs : List (List ℕ)) (place : ℕ)
    (ts : List Told) where
  -- what was found is right
  pub found_right : (path : FoundPath) → AllByRecursion (IsRight x asked root certs) ts →
      IsSought place ts (Some path) →
      IsRightOf x asked root (members_at root certs path.above.items) (string_at certs place) (Ok path.judged)
  found_right path right h =
      let t = h.1 in
      let is : IsRight x asked root certs t = subst (λ (u : Told). IsRight x asked root certs u) h.3
      (All-from_recursion (IsRight x asked root certs) ts right h.0 t h.2) in
      subst (λ (v : Result Judged PathFault). IsRightOf x asked root (members_at root certs path.above.items)
      (string_at certs place) v) h.4.2
      (subst (λ (p : ℕ). IsRightOf x asked root (members_at root certs path.above.items) (string_at certs p)
      t.verdict) h.4.1
      (subst (λ (l : List ℕ). IsRightOf x asked root (members_at root certs l) (string_at certs t.place) t.verdict)
      h.4.0 is))

-- what was accepted was let in, by CAs each of which was
pub told_let_in : (admits : List ℕ → ℕ → Type 0) (place : ℕ) (ts : List Told) (above : List ℕ) →
    AllByRecursion (IsLetIn admits []) ts → IsTold ts above place → AreAdmitted admits [] (above ++ place ∷ [])
told_let_in admits place ts above all h =
    let t = h.1 in
    let i : IsLetIn admits [] t = subst (λ (u : Told). IsLetIn admits [] u) h.3
    (All-from_recursion (IsLetIn admits []) ts all h.0 t h.2) in
    let same : i.0 ≡ above = sym i.1 ∙ h.4.0 in
    subst (λ (l : List ℕ). AreAdmitted admits [] (l ++ place ∷ [])) same
    (subst (λ (p : ℕ). AreAdmitted admits [] (i.0 ++ p ∷ [])) h.4.1 i.2)

-- where none was found, none was told
pub none_told : (place : ℕ) (ts : List Told) (above : List ℕ) → IsSought place ts None → IsTold ts above place → ⊥
none_told place ts above none h =
    let t = h.1 in
    let P : Told → Type 0 = λ u. u.place ≡ place → IsOk u.verdict → ⊥ in
    let never : P t = subst P h.3 (All-from_recursion P ts none h.0 t h.2) in
    never h.4.1 h.4.2
