-- The latest list, looked for one list after the other.
use Rattle.std.specs.Prelude.{Option, Some, None, IfSome, Contains}
use Rattle.std.proofs.Common.{◌≡◌, ◌+◌, ◌<◌, ℕ, length, take, get_or, List, [], ◌∷◌, ◌++◌, sym, ap, subst, ◌∙◌, inl}
use Rattle.std.proofs.Common.{inr}
use Rattle.std.proofs.lemmas.List.{take_more}
use Rattle.std.proofs.lemmas.List.Elements.{Contains-append_left, Contains-push, Contains-push_cases}
use Rattle.rpki_cert.specs.Certificates.{CertFields}
use Rattle.rpki_crl.specs.Lists.{CrlState}
use Rattle.rpki_path.specs.AskedLists.{Supersedes, HaveNone, IsLatest}
use Rattle.rpki_path.specs.AskedLists.Steps.{IsLatestIfAny}
use Rattle.rpki_path.proofs.ListOrder.{through, not_itself}

-- ---- one element more was gone over

pub gone_over : {X : Type 0} (xs : List X) (i : ℕ) (x : X) → i < length xs → x ≡ get_or xs i x →
    take (i + 1) xs ≡ take i xs ++ x ∷ []
gone_over xs i x low there = take_more xs i x low ∙ ap (λ (y : _). take i xs ++ y ∷ []) (sym there)

-- what each of those before has, and the last one, each has
pub each_more : {X : Type 0} (P : X → Type 0) (seen : List X) (x : X) → ((y : X) → Contains seen y → P y) → P x →
    (y : X) → Contains (seen ++ x ∷ []) y → P y
each_more P seen x each p y at =
    elim (Contains-push_cases seen x y at) [ inl before ↦ each y before | inr last ↦ subst P last p ]

module _ (P : CrlState → Type 0) (c : CertFields) where
  -- ---- one list more was gone over

  none_next : (seen : List CrlState) (x : CrlState) → HaveNone P seen → P x → IsLatest P c (seen ++ x ∷ []) x
  none_next seen x none p = record {
    inside = Contains-push seen x;
    has = p;
    stays = each_more (λ other. P other → Supersedes c other x → ⊥) seen x (λ other at q. absurd (none other at q))
        (λ q goes. not_itself c x goes);
  }

  some_next : (seen : List CrlState) (l x : CrlState) → IsLatest P c seen l → P x → Supersedes c x l →
      IsLatest P c (seen ++ x ∷ []) x
  some_next seen l x h p goes = record {
    inside = Contains-push seen x;
    has = p;
    stays = each_more (λ other. P other → Supersedes c other x → ⊥) seen x
        (λ other at q more. h.stays other at q (through c other x l more goes)) (λ q more. not_itself c x more);
  }

  some_same : (seen : List CrlState) (l x : CrlState) → IsLatest P c seen l → (P x → Supersedes c x l → ⊥) →
      IsLatest P c (seen ++ x ∷ []) l
  some_same seen l x h not = record {
    inside = Contains-append_left seen (x ∷ []) l h.inside;
    has = h.has;
    stays = each_more (λ other. P other → Supersedes c other l → ⊥) seen x h.stays not;
  }

  -- it has P, and goes before the one that is kept, if one is
  pub kept_next : (seen : List CrlState) (kept : Option CrlState) (x : CrlState) → IsLatestIfAny P c seen kept →
      P x → IfSome kept (Supersedes c x) → IsLatestIfAny P c (seen ++ x ∷ []) (Some x)
  kept_next seen None x h p goes = none_next seen x h p
  kept_next seen (Some l) x h p goes = some_next seen l x h p goes

  -- it isn't so
  pub kept_same : (seen : List CrlState) (kept : Option CrlState) (x : CrlState) → IsLatestIfAny P c seen kept →
      (P x × IfSome kept (Supersedes c x) → ⊥) → IsLatestIfAny P c (seen ++ x ∷ []) kept
  kept_same seen None x h not = each_more (λ l. P l → ⊥) seen x h (λ p. not (p, tt))
  kept_same seen (Some l) x h not = some_same seen l x h (λ p goes. not (p, goes))
