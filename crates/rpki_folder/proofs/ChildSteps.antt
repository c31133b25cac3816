-- The children of an issuer, one place after the other, and what is told of them.
use Rattle.std.specs.Prelude.{None, Some, Contains, Result}
use Rattle.std.proofs.Common.{◌≡◌, ◌⊎◌, ◌+◌, ◌<◌, ℕ, List, [], ◌∷◌, ◌++◌, length, take, get_or, sym, subst, inl, inr}
use Rattle.std.proofs.lemmas.List.{take_more, map-append}
use Rattle.std.proofs.lemmas.List.Elements.{Contains-push_cases, Contains-append_left, Contains-push}
use Rattle.rpki_parts.specs.Signatures.{Verifies}
use Rattle.rpki_cert.specs.Certificates.{CertFields}
use Rattle.rpki_cert.specs.Verification.{Context, ResourceFields}
use Rattle.rpki_path.specs.Asking.{RevocationChecks}
use Rattle.rpki_path.specs.declared.judging.Judged.{Judged}
use Rattle.rpki_path.specs.declared.path_fault.PathFault.{PathFault}
use Rattle.rpki_folder.specs.declared.walk.Ca.{Ca}
use Rattle.rpki_folder.specs.Folders.{string_at, IsOnce}
use Rattle.rpki_folder.specs.Walks.{Told, told_at, IsChildOf}
use Rattle.rpki_folder.specs.Walks.Steps.{IsOutcome, AreChildrenAmong, places_of, HasVerdict, AreJudged}
use Rattle.rpki_folder.proofs.OnceLists.{once_push, once_apart}
use Rattle.rpki_folder.proofs.PickedLists.{in_none}
use Rattle.rpki_folder.proofs.Shares.{ca_at}

-- ---- which of the places are children

module _ (verifies : Verifies) (lets_in : ℕ → Type 0) (issuer : CertFields) (certs : List (List ℕ)) where
  abbrev Among : List ℕ → List ℕ → Type 0
  Among places children = AreChildrenAmong verifies lets_in issuer certs places children

  pub none_among : Among [] []
  none_among = record {
    from = λ p at. at;
    only = λ p at. absurd (in_none p at);
    all = λ p at let_in child. at;
    once = tt;
  }

  -- one place more, which isn't one, or isn't let in
  other_pushed : (places children : List ℕ) (place : ℕ) → Among places children →
      (lets_in place → IsChildOf verifies issuer certs place → ⊥) → Among (places ++ place ∷ []) children
  other_pushed places children place a never = record {
    from = λ p at. Contains-append_left places (place ∷ []) p (a.from p at);
    only = a.only;
    all = λ p at let_in child. elim (Contains-push_cases places place p at) [
      | inl before ↦ a.all p before let_in child
      | inr is ↦ absurd (never (subst lets_in (sym is) let_in)
          (subst (λ (q : ℕ). IsChildOf verifies issuer certs q) (sym is) child))
    ];
    once = a.once;
  }

  -- one that is
  child_pushed : (places children : List ℕ) (place : ℕ) → Among places children → (Contains places place → ⊥) →
      lets_in place → IsChildOf verifies issuer certs place →
      Among (places ++ place ∷ []) (children ++ place ∷ [])
  child_pushed places children place a never let_in child = record {
    from = λ p at. elim (Contains-push_cases children place p at) [
      | inl before ↦ Contains-append_left places (place ∷ []) p (a.from p before)
      | inr is ↦ subst (λ (q : ℕ). Contains (places ++ place ∷ []) q) is (Contains-push places place)
    ];
    only = λ p at. elim (Contains-push_cases children place p at) [
      | inl before ↦ a.only p before
      | inr is ↦ subst (λ (q : ℕ). lets_in q × IsChildOf verifies issuer certs q) is (let_in, child)
    ];
    all = λ p at in_there one. elim (Contains-push_cases places place p at) [
      | inl before ↦ Contains-append_left children (place ∷ []) p (a.all p before in_there one)
      | inr is ↦ subst (λ (q : ℕ). Contains (children ++ place ∷ []) q) is (Contains-push children place)
    ];
    once = once_push children place a.once (λ at. never (a.from place at));
  }

  module _ (all : List ℕ) (i : ℕ) (low : i < length all) (children : List ℕ) (a : Among (take i all) children) where
    abbrev here : ℕ
    here = get_or all i 0

    pub other_among : (lets_in here → IsChildOf verifies issuer certs here → ⊥) → Among (take (i + 1) all) children
    other_among never = subst (λ (l : List ℕ). Among l children) (sym (take_more all i 0 low))
        (other_pushed (take i all) children here a never)

    pub child_among : IsOnce all → lets_in here → IsChildOf verifies issuer certs here →
        Among (take (i + 1) all) (children ++ here ∷ [])
    child_among once let_in child = subst (λ (l : List ℕ). Among l (children ++ here ∷ []))
        (sym (take_more all i 0 low))
        (child_pushed (take i all) children here a (once_apart all i 0 once low) let_in child)

    -- as it was tested
    pub added_among : (new : List ℕ) → IsOnce all →
        ((new ≡ children ++ here ∷ []) × lets_in here × IsChildOf verifies issuer certs here) ⊎
        ((new ≡ children) × (lets_in here → IsChildOf verifies issuer certs here → ⊥)) →
        Among (take (i + 1) all) new
    added_among new once (inl (is, let_in, child)) = subst (λ (l : List ℕ). Among (take (i + 1) all) l) (sym is)
        (child_among once let_in child)
    added_among new once (inr (is, never)) = subst (λ (l : List ℕ). Among (take (i + 1) all) l) (sym is)
        (other_among never)

-- ---- what is told of the children

module _ (x : Context) (asked : RevocationChecks) (issuer : ResourceFields) (certs : List (List ℕ))
    (above : List ℕ) where
  abbrev Judges : List ℕ → List Ca → List Told → Type 0
  Judges places cas ts = AreJudged x asked issuer certs above places cas ts

  pub none_judged : Judges [] [] []
  none_judged = record {
    all = λ p at. absurd (in_none p at);
    only = λ ca at. absurd (in_none ca at);
    once = tt;
  }

  -- a verdict stays, with more CAs and more verdicts
  verdict_stays : (cas more : List Ca) (ts us : List Told) (place : ℕ) →
      HasVerdict x asked issuer certs above cas ts place →
      HasVerdict x asked issuer certs above (cas ++ more) (ts ++ us) place
  verdict_stays cas more ts us place v = (
    v.0,
    v.1,
    v.2,
    Contains-append_left ts us (told_at above place v.0) v.3,
    (λ holder is. subst (λ (l : List ℕ). Contains l place) (sym (map-append (λ (ca : Ca). ca.place) cas more))
        (Contains-append_left (places_of cas) (places_of more) place (v.4 holder is))),
  )

  some_is : (a b : ResourceFields) → Some a ≡ Some b → a ≡ b
  some_is a b e = cc e

  module _ (places : List ℕ) (cas : List Ca) (ts : List Told) (j : Judges places cas ts) (place : ℕ)
      (verdict : Result Judged PathFault) where
    abbrev more : List Told
    more = ts ++ told_at above place verdict ∷ []

    -- one that isn't an accepted CA
    pub judged_other : IsOutcome x asked issuer (string_at certs place) verdict None →
        Judges (places ++ place ∷ []) cas more
    judged_other o = record {
      all = λ p at. elim (Contains-push_cases places place p at) [
        | inl before ↦
            let v = j.all p before in
            (v.0, v.1, v.2, Contains-append_left ts (told_at above place verdict ∷ []) (told_at above p v.0) v.3, v.4)
        | inr is ↦ subst (λ (q : ℕ). HasVerdict x asked issuer certs above cas more q) is
            (verdict, None, o, Contains-push ts (told_at above place verdict), (λ holder e. absurd (cc e)))
      ];
      only = λ ca at. let h = j.only ca at in (Contains-append_left places (place ∷ []) ca.place h.0, h.1);
      once = j.once;
    }

    -- one that is
    pub judged_ca : (Contains places place → ⊥) → (holder : ResourceFields) →
        IsOutcome x asked issuer (string_at certs place) verdict (Some holder) →
        Judges (places ++ place ∷ []) (cas ++ record { place = place; holder = holder } ∷ []) more
    judged_ca never holder o =
        let one : Ca = record { place = place; holder = holder } in
        let pushed : places_of (cas ++ one ∷ []) ≡ places_of cas ++ place ∷ [] =
        map-append (λ (ca : Ca). ca.place) cas (one ∷ []) in
        record {
          all = λ p at. elim (Contains-push_cases places place p at) [
            | inl before ↦ verdict_stays cas (one ∷ []) ts (told_at above place verdict ∷ []) p (j.all p before)
            | inr is ↦ subst (λ (q : ℕ). HasVerdict x asked issuer certs above (cas ++ one ∷ []) more q) is (
              verdict,
              Some holder,
              o,
              Contains-push ts (told_at above place verdict),
              (λ other e. subst (λ (l : List ℕ). Contains l place) (sym pushed) (Contains-push (places_of cas) place)),
            )
          ];
          only = λ ca at. elim (Contains-push_cases cas one ca at) [
            | inl before ↦ let h = j.only ca before in (Contains-append_left places (place ∷ []) ca.place h.0, h.1)
            | inr is ↦ subst (λ (k : Ca). Contains (places ++ place ∷ []) k.place ×
                ((v : Result Judged PathFault) × IsOutcome x asked issuer (string_at certs k.place) v
                (Some k.holder))) is (Contains-push places place, (verdict, o))
          ];
          once = subst (λ (l : List ℕ). IsOnce l) (sym pushed) (once_push (places_of cas) place j.once
              (λ at. let ca = ca_at cas place at in
              never (subst (λ (q : ℕ). Contains places q) ca.2 (j.only ca.0 ca.1).0)));
        }
