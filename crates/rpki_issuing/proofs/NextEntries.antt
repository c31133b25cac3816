-- Which entries the next list has.
use Rattle.std.specs.Prelude.{Bool, true, false, not, ◌||◌, nat_eq, cond, Contains}
use Rattle.std.specs.List.{AllByRecursion, filter, list_any}
use Rattle.std.proofs.Common.{◌≡◌, ◌⊎◌, ◌<◌, ℕ, zero, suc, List, [], ◌∷◌, ◌++◌, length, get_or, map, sym, ap, subst}
use Rattle.std.proofs.Common.{◌∙◌, inl, inr, arith}
use Rattle.std.proofs.lemmas.Bool.{cases_Bool, eq-eqb, eqb-true, false≢true}
use Rattle.std.proofs.lemmas.List.{map-append, map-id}
use Rattle.std.proofs.lemmas.List.Elements.{Contains-append_left, Contains-push, Contains-push_cases}
use Rattle.std.specs.Iterator.{Drains}
use Rattle.std.specs.declared.vec.IntoIter.{IntoIter}
use Rattle.std.specs.Vec.Iter.{into_iter_items, into_iter_len, into_iter_steps}
use Rattle.std.proofs.lemmas.Iterator.{items_from_drains}
use Rattle.std.proofs.lemmas.Iterator.Adapters.{YieldsList-from_vec}
use Rattle.rpki_der.specs.Times.{Moment}
use Rattle.rpki_parts.specs.ValidAt.{IsNotAfter}
use Rattle.rpki_crl.specs.Lists.{ListFields}
use Rattle.rpki_crl.specs.RevokedEntries.{Entry, Revoked, IsRevoked}
use Rattle.rpki_crl.specs.RevokedEntries.Views.{entry_of}
use Rattle.rpki_crl.specs.declared.entry.CrlEntry.{CrlEntry}
use Rattle.rpki_issuing.specs.NextLists.{IsKept, HasAtMostTwentyOctets, HasNextEntries, IsNext, NextCheck, next_checks}
use Rattle.rpki_issuing.specs.NextLists.Steps.{keeps}

-- ---- elements of lists

none : {X : Type 0} (x : X) → Contains [] x → ⊥
none x h = absurd (omega (arith, h.1))

cases : {X : Type 0} (y : X) (ys : List X) (x : X) → Contains (y ∷ ys) x → (y ≡ x) ⊎ Contains ys x
cases y ys x (zero, low, is) = inl is
cases y ys x (suc k, low, is) = inr (k, omega arith, is)

here : {X : Type 0} (y : X) (ys : List X) (x : X) → y ≡ x → Contains (y ∷ ys) x
here y ys x is = (0, omega arith, is)

there : {X : Type 0} (y : X) (ys : List X) (x : X) → Contains ys x → Contains (y ∷ ys) x
there y ys x h = (suc h.0, omega (arith, h.1), h.2)

-- the image of an element is one of the images
pub mapped : {X Y : Type 0} (f : X → Y) (xs : List X) (x : X) → Contains xs x → Contains (map f xs) (f x)
mapped f [] x h = absurd (none x h)
mapped f (y ∷ ys) x h = elim (cases y ys x h) [
  | inl same ↦ here (f y) (map f ys) (f x) (ap f same)
  | inr rest ↦ there (f y) (map f ys) (f x) (mapped f ys x rest)
]

-- a filter keeps those that pass, and no others
filter_to : {X : Type 0} (p : X → Bool) (xs : List X) (x : X) → Contains (filter p xs) x → Contains xs x × (p x ≡ true)
filter_to p [] x h = absurd (none x h)
filter_to p (y ∷ ys) x h = elim (cases_Bool (p y)) [
  | inl on ↦ elim (cases y (filter p ys) x
      (subst (λ (b : Bool). Contains (cond b (y ∷ filter p ys) (filter p ys)) x) on h)) [
        | inl same ↦ (here y ys x same, ap p (sym same) ∙ on)
        | inr rest ↦ let found = filter_to p ys x rest in (there y ys x found.0, found.1)
      ]
  | inr off ↦ let found =
      filter_to p ys x (subst (λ (b : Bool). Contains (cond b (y ∷ filter p ys) (filter p ys)) x) off h) in
      (there y ys x found.0, found.1)
]

filter_from : {X : Type 0} (p : X → Bool) (xs : List X) (x : X) → Contains xs x → p x ≡ true → Contains (filter p xs) x
filter_from p [] x h pass = absurd (none x h)
filter_from p (y ∷ ys) x h pass = elim (cases_Bool (p y)) [
  | inl on ↦ subst (λ (b : Bool). Contains (cond b (y ∷ filter p ys) (filter p ys)) x) (sym on) (elim (cases y ys x h) [
    | inl same ↦ here y (filter p ys) x same
    | inr rest ↦ there y (filter p ys) x (filter_from p ys x rest pass)
  ])
  | inr off ↦ subst (λ (b : Bool). Contains (cond b (y ∷ filter p ys) (filter p ys)) x) (sym off)
      (elim (cases y ys x h) [
        | inl same ↦ absurd (false≢true (sym off ∙ ap p same ∙ pass))
        | inr rest ↦ filter_from p ys x rest pass
      ])
]

-- ---- numbers that are revoked

abbrev serials : Entry → ℕ
serials e = e.serial

-- one entry more
pub revoked_cases : (es : List Entry) (x : Entry) (n : ℕ) → IsRevoked n (es ++ x ∷ []) → IsRevoked n es ⊎ (x.serial ≡ n)
revoked_cases es x n h = Contains-push_cases (map serials es) x.serial n
    (subst (λ (ns : List ℕ). Contains ns n) (map-append serials es (x ∷ [])) h)

-- the entry at a place is one that revokes
pub entry_at : (xs : List CrlEntry) (i : ℕ) (x : CrlEntry) → i < length xs → x ≡ get_or xs i x →
    IsRevoked (entry_of x).serial (map entry_of xs)
entry_at [] i x low is = absurd (omega arith)
entry_at (y ∷ ys) zero x low is = here (entry_of y).serial (map serials (map entry_of ys)) (entry_of x).serial
    (ap (λ (z : CrlEntry). (entry_of z).serial) (sym is))
entry_at (y ∷ ys) (suc i) x low is = there (entry_of y).serial (map serials (map entry_of ys)) (entry_of x).serial
    (entry_at ys i x (omega arith) is)

-- ---- numbers that are gone

among : (gone : List ℕ) (n : ℕ) → list_any (λ m. nat_eq m n) gone ≡ true → Contains gone n
among [] n found = absurd (false≢true found)
among (m ∷ ms) n found = elim (cases_Bool (nat_eq m n)) [
  | inl same ↦ here m ms n (eqb-true m n same)
  | inr other ↦ there m ms n
      (among ms n (subst (λ (b : Bool). (b || list_any (λ k. nat_eq k n) ms) ≡ true) other found))
]

not_among : (gone : List ℕ) (n : ℕ) → list_any (λ m. nat_eq m n) gone ≡ false → Contains gone n → ⊥
not_among [] n off h = none n h
not_among (m ∷ ms) n off h = elim (cases_Bool (nat_eq m n)) [
  | inl same ↦ false≢true (sym (subst (λ (b : Bool). (b || list_any (λ k. nat_eq k n) ms) ≡ false) same off))
  | inr other ↦ elim (cases m ms n h) [
    | inl is ↦ false≢true (sym other ∙ eq-eqb m n is)
    | inr rest ↦ not_among ms n (subst (λ (b : Bool). (b || list_any (λ k. nat_eq k n) ms) ≡ false) other off) rest
  ]
]

-- whether an entry stays
keeps_to : (gone : List ℕ) (e : Entry) → keeps gone e ≡ true → Contains gone e.serial → ⊥
keeps_to gone e stays = elim (cases_Bool (list_any (λ m. nat_eq m e.serial) gone)) [
  | inl found ↦ λ h. false≢true (subst (λ (b : Bool). not b ≡ true) found stays)
  | inr off ↦ not_among gone e.serial off
]

keeps_from : (gone : List ℕ) (e : Entry) → (Contains gone e.serial → ⊥) → keeps gone e ≡ true
keeps_from gone e left = elim (cases_Bool (list_any (λ m. nat_eq m e.serial) gone)) [
  | inl found ↦ absurd (left (among gone e.serial found))
  | inr off ↦ ap not off
]

-- ---- entries of the next list

module _ (old : ListFields Revoked) (gone : List ℕ) where
  -- before any is added
  pub kept_alone : (es : List Entry) → es ≡ filter (keeps gone) old.revoked.entries → HasNextEntries old [] gone es
  kept_alone es is = record {
    kept = λ e h. subst (λ (fs : List Entry). Contains fs e) (sym is)
        (filter_from (keeps gone) old.revoked.entries e h.stood (keeps_from gone e h.not_gone));
    revoked = λ e h. absurd (none e h);
    only = λ e h. let found = filter_to (keeps gone) old.revoked.entries e
        (subst (λ (fs : List Entry). Contains fs e) is h) in
        inl (record { stood = found.0; not_gone = keeps_to gone e found.1 });
  }

  module _ (added es : List Entry) (x : Entry) (so_far : HasNextEntries old added gone es) where
    -- one that is revoked already
    pub one_passed : IsRevoked x.serial es → HasNextEntries old (added ++ x ∷ []) gone es
    one_passed on = record {
      kept = so_far.kept;
      revoked = λ e h. go e (Contains-push_cases added x e h);
      only = λ e h. more e (so_far.only e h);
    }
      where
        go : (e : Entry) → Contains added e ⊎ (x ≡ e) → IsRevoked e.serial es
        go e (inl before) = so_far.revoked e before
        go e (inr same) = subst (λ (y : Entry). IsRevoked y.serial es) same on

        more : (e : Entry) → IsKept old gone e ⊎ Contains added e → IsKept old gone e ⊎ Contains (added ++ x ∷ []) e
        more e (inl h) = inl h
        more e (inr h) = inr (Contains-append_left added (x ∷ []) e h)

    -- one more
    pub one_more : HasNextEntries old (added ++ x ∷ []) gone (es ++ x ∷ [])
    one_more = record {
      kept = λ e h. Contains-append_left es (x ∷ []) e (so_far.kept e h);
      revoked = λ e h. go e (Contains-push_cases added x e h);
      only = λ e h. more e (Contains-push_cases es x e h);
    }
      where
        pushed : (e : Entry) → Contains (es ++ x ∷ []) e → IsRevoked e.serial (es ++ x ∷ [])
        pushed e h = mapped serials (es ++ x ∷ []) e h

        go : (e : Entry) → Contains added e ⊎ (x ≡ e) → IsRevoked e.serial (es ++ x ∷ [])
        go e (inl before) = subst (λ (ns : List ℕ). Contains ns e.serial) (sym (map-append serials es (x ∷ [])))
            (Contains-append_left (map serials es) (x.serial ∷ []) e.serial (so_far.revoked e before))
        go e (inr same) = pushed e (subst (λ (y : Entry). Contains (es ++ x ∷ []) y) same (Contains-push es x))

        more : (e : Entry) → Contains es e ⊎ (x ≡ e) → IsKept old gone e ⊎ Contains (added ++ x ∷ []) e
        more e (inr same) = inr (subst (λ (y : Entry). Contains (added ++ x ∷ []) y) same (Contains-push added x))
        more e (inl before) = further (so_far.only e before)
          where
            further : IsKept old gone e ⊎ Contains added e → IsKept old gone e ⊎ Contains (added ++ x ∷ []) e
            further (inl h) = inl h
            further (inr h) = inr (Contains-append_left added (x ∷ []) e h)

-- ---- the next list

-- the entries that are given by a vector are its own
pub given_by : {Z : Type 0} (s : IntoIter CrlEntry Z) (all items : List CrlEntry) (es : List Entry) →
    into_iter_items s ≡ all → into_iter_len s ≡ length all
    → Drains (into_iter_steps {X = CrlEntry} {Z = Z}) s items → es ≡ map entry_of items → es ≡ map entry_of all
given_by {Z} s all items es left len drains is =
    let given = items_from_drains items (drains.1.0, drains.1.1, λ _. (drains.0, drains.1.2))
    (YieldsList-from_vec all left len) in
    is ∙ ap (map entry_of) (sym (map-id items) ∙ given)

-- what is made of these entries, with a number and moments that were checked
pub next_made : (old : ListFields Revoked) (added : List Entry) (gone : List ℕ) (es : List Entry) (number : ℕ)
    (this_update next_update : Moment) (t : ListFields Revoked)
    → t ≡ record {
      algorithm = old.algorithm;
      issuer = old.issuer;
      this_update = this_update;
      next_update =
          next_update;
      revoked = t.revoked;
      extensions =
          record { authority_key_identifier = old.extensions.authority_key_identifier; crl_number = number };
    }
    → t.revoked.entries ≡ es → HasNextEntries old added gone es →
    AllByRecursion (NextCheck old number this_update next_update) next_checks → IsNext old added gone t
next_made old added gone es number this_update next_update t is same has checks = record {
  number_is_greater = subst (λ (n : ℕ). old.extensions.crl_number < n) (sym numbers) checks.0;
  number_is_short = subst HasAtMostTwentyOctets (sym numbers) checks.1.0;
  updates_are_in_order = subst (λ (f : ListFields Revoked). IsNotAfter f.this_update f.next_update) (sym is)
      checks.1.1.0;
  entries = subst (λ (fs : List Entry). HasNextEntries old added gone fs) (sym same) has;
  algorithm_is = ap (λ (f : ListFields Revoked). f.algorithm) is;
  issuer_is = ap (λ (f : ListFields Revoked). f.issuer) is;
  identifier_is = ap (λ (f : ListFields Revoked). f.extensions.authority_key_identifier) is;
}
  where
    numbers : t.extensions.crl_number ≡ number
    numbers = ap (λ (f : ListFields Revoked). f.extensions.crl_number) is
