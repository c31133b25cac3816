-- The list that is asked, and its checks.
use Rattle.std.specs.List.{AllByRecursion}
use Rattle.std.specs.Prelude.{Result}
use Rattle.std.proofs.Common.{◌≡◌, ℕ, List, [], ◌∷◌, ◌++◌, None, refl, sym, ap, subst, ◌∙◌, inl}
use Rattle.rpki_der.specs.Sequences.{IsFirstWith}
use Rattle.rpki_parts.specs.Conditions.{IsFirstFalse, Tests}
use Rattle.rpki_cert.specs.Certificates.{TbsFields}
use Rattle.rpki_cert.specs.Verification.{Context}
use Rattle.rpki_cert.proofs.Checks.{tests_map}
use Rattle.rpki_crl.specs.Lists.{CrlState}
use Rattle.rpki_crl.specs.Stores.{Stored, IsUnder, IsEarliest}
use Rattle.rpki_crl.specs.Revocation.{ListCheck, RevocationCheck, IsUnderUri, revocation_checks}
use Rattle.rpki_crl.specs.declared.revocation_error.RevocationError.{RevocationError}
use Rattle.rpki_crl.specs.declared.revocation_error.RevocationError.TheVariants.{NoCrl, WrongKeyId, BadSignature}
use Rattle.rpki_crl.specs.declared.revocation_error.RevocationError.TheVariants.{Stale, Revoked, WrongIssuer}

-- ---- the first with P is one

module _ {X : Type 0} (P : X → Type 0) where
  has_none : (before : List X) (x : X) (after : List X) → P x → AllByRecursion (λ y. P y → ⊥) (before ++ x ∷ after) → ⊥
  has_none [] x after p none = none.0 p
  has_none (y ∷ before) x after p none = has_none before x after p none.1

  one_first : (bs cs : List X) (x y : X) (ds es : List X) → bs ++ x ∷ ds ≡ cs ++ y ∷ es → P x → P y →
      AllByRecursion (λ z. P z → ⊥) bs → AllByRecursion (λ z. P z → ⊥) cs → x ≡ y
  one_first [] [] x y ds es e p q none other = cc e
  one_first [] (c ∷ cs) x y ds es e p q none other = let same : x ≡ c = cc e in absurd (other.0 (subst P same p))
  one_first (b ∷ bs) [] x y ds es e p q none other = let same : y ≡ b = cc e in absurd (none.0 (subst P same q))
  one_first (b ∷ bs) (c ∷ cs) x y ds es e p q none other = let same : bs ++ x ∷ ds ≡ cs ++ y ∷ es = cc e in
      one_first bs cs x y ds es same p q none.1 other.1

  -- the first element with a property is one
  pub first_is_one : (xs : List X) (x y : X) → IsFirstWith P x xs → IsFirstWith P y xs → x ≡ y
  first_is_one xs x y f g = one_first f.before g.before x y f.after g.after (sym f.is ∙ g.is) f.has g.has f.none_before g.none_before

  -- where no element has a property, none is the first with it
  pub none_is_first : (xs : List X) (x : X) → AllByRecursion (λ y. P y → ⊥) xs → IsFirstWith P x xs → ⊥
  none_is_first xs x none f = has_none f.before x f.after f.has (subst (λ (ys : List X). AllByRecursion (λ y. P y → ⊥) ys) f.is none)

-- ---- the list under a URI is one

module _ (pairs : List Stored) (uri : List ℕ) where
  -- the earliest list under a URI is one
  pub one_earliest : (c d : CrlState) → IsUnderUri pairs uri c → IsUnderUri pairs uri d → c ≡ d
  one_earliest c d p q = p.2 ∙ ap (λ (s : Stored). s.1) (first_is_one (IsUnder uri) pairs p.0 q.0 p.1 q.1) ∙ sym q.2

  -- where no list is the earliest under a URI, there is none
  pub no_earliest : IsEarliest uri pairs None → (c : CrlState) → IsUnderUri pairs uri c → ⊥
  no_earliest none c p = none_is_first (IsUnder uri) pairs p.0 none p.1

-- ---- its checks are those of the list

module _ (x : Context) (issuer : TbsFields) (serial : ℕ) (IsAsked : CrlState → Type 0) where
  module _ (crl : CrlState) (is : IsAsked crl) (one : (d : CrlState) → IsAsked d → d ≡ crl) where
    check_of : (e : RevocationError) → ListCheck x issuer serial crl.list e → RevocationCheck x issuer serial IsAsked e
    check_of NoCrl l = (crl, is)
    check_of WrongKeyId l = λ d at. subst (λ (c : CrlState). ListCheck x issuer serial c.list WrongKeyId) (sym (one d at)) l
    check_of BadSignature l = λ d at. subst (λ (c : CrlState). ListCheck x issuer serial c.list BadSignature) (sym (one d at)) l
    check_of Stale l = λ d at. subst (λ (c : CrlState). ListCheck x issuer serial c.list Stale) (sym (one d at)) l
    check_of Revoked l = λ d at. subst (λ (c : CrlState). ListCheck x issuer serial c.list Revoked) (sym (one d at)) l
    check_of WrongIssuer l = λ d at. tt

    list_of : (e : RevocationError) → RevocationCheck x issuer serial IsAsked e → ListCheck x issuer serial crl.list e
    list_of NoCrl l = tt
    list_of WrongKeyId l = l crl is
    list_of BadSignature l = l crl is
    list_of Stale l = l crl is
    list_of Revoked l = l crl is
    list_of WrongIssuer l = tt

    -- what is tested of the list is what is tested
    pub tests_of : (r : Result (Unit {0}) RevocationError) →
        Tests (ListCheck x issuer serial crl.list) revocation_checks r →
        Tests (RevocationCheck x issuer serial IsAsked) revocation_checks r
    tests_of r = tests_map (ListCheck x issuer serial crl.list) (RevocationCheck x issuer serial IsAsked)
        revocation_checks r (λ e. (check_of e, list_of e))

  -- without one the first check is false
  pub no_list : ((d : CrlState) → IsAsked d → ⊥) → IsFirstFalse (RevocationCheck x issuer serial IsAsked) revocation_checks NoCrl
  no_list none = inl (refl, λ l. none l.0 l.1)
