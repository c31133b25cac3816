-- Texts cut at slashes.
use Rattle.std.proofs.Common.{◌≡◌, ◌≢◌, inl, inr, ℕ, suc, ◌+◌, Bool, true, false, not, cond, List, [], ◌∷◌, ◌++◌}
use Rattle.std.proofs.Common.{length, take, drop, refl, sym, ap, ◌∙◌, subst, ◌==◌, ◌↔◌, append_assoc, arith}
use Rattle.std.proofs.lemmas.Bool.{eqb-true, eqb-false, ne_eqb, cases_Bool}
use Rattle.std.proofs.lemmas.Bool.Decides.{same_from_decides}
use Rattle.std.proofs.lemmas.Slice.Eq.{bytes_eq-Decides}
use Rattle.std.specs.Str.{str_eq_ignore_ascii_case, str_to_ascii_lowercase}
use Rattle.std.specs.List.{position_or_len, slice_split, onto_first}
use Rattle.rpki_parts.specs.Uris.{slash, HasNoSlash, IsEmptyOrBeginsWithSlash, IsEmptyOrEndsWithSlash, IsTrimmed}
use Rattle.rpki_parts.specs.Uris.Tests.{is_slash, is_empty, before_slash, from_slash, trimmed, through_slash}

slash_is : (x : ℕ) → is_slash x ≡ true → x ≡ slash
slash_is x e = eqb-true x slash e

other_is : (x : ℕ) → is_slash x ≡ false → x ≢ slash
other_is x e = eqb-false x slash e

not_slash : (x : ℕ) → x ≢ slash → is_slash x ≡ false
not_slash x h = ne_eqb x slash h

-- a text is empty where its length is 0
pub empty_is : (t : List ℕ) → (length t == 0) ≡ is_empty t
empty_is [] = refl
empty_is (x ∷ t) = ne_eqb (suc (length t)) 0 (λ e. absurd (omega arith))

-- what `eq_ignore_ascii_case` answers, as a test
pub folded : (r : Bool) (a b : List ℕ) → ((r ≡ true) ↔ (str_to_ascii_lowercase a ≡ str_to_ascii_lowercase b)) →
    r ≡ str_eq_ignore_ascii_case a b
folded r a b h = same_from_decides r (str_eq_ignore_ascii_case a b) h
    (bytes_eq-Decides (str_to_ascii_lowercase a) (str_to_ascii_lowercase b))

-- ---- the first slash

cut_step : (b : Bool) (x : ℕ) (t p q : List ℕ) → t ≡ p ++ q → x ∷ t ≡ cond b [] (x ∷ p) ++ cond b (x ∷ t) q
cut_step true x t p q e = refl
cut_step false x t p q e = ap (λ (l : List ℕ). x ∷ l) e

-- a text is what stands before its first slash and what stands from there on
pub cut_is : (t : List ℕ) → t ≡ before_slash t ++ from_slash t
cut_is [] = refl
cut_is (x ∷ t) = cut_step (is_slash x) x t (before_slash t) (from_slash t) (cut_is t)

before_step : (b : Bool) (x : ℕ) (t : List ℕ) → (b ≡ false → x ≢ slash) → HasNoSlash t → HasNoSlash (cond b [] (x ∷ t))
before_step true x t h g = tt
before_step false x t h g = (h refl, g)

-- what stands before the first slash has none
pub before_has_none : (t : List ℕ) → HasNoSlash (before_slash t)
before_has_none [] = tt
before_has_none (x ∷ t) = before_step (is_slash x) x (before_slash t) (other_is x) (before_has_none t)

from_step : (b : Bool) (x : ℕ) (t r : List ℕ) → (b ≡ true → x ≡ slash) → IsEmptyOrBeginsWithSlash r →
    IsEmptyOrBeginsWithSlash (cond b (x ∷ t) r)
from_step true x t r h g = inr (t, ap (λ (y : ℕ). y ∷ t) (h refl))
from_step false x t r h g = g

-- what stands from the first slash on is empty or begins with it
pub from_begins : (t : List ℕ) → IsEmptyOrBeginsWithSlash (from_slash t)
from_begins [] = inl refl
from_begins (x ∷ t) = from_step (is_slash x) x t (from_slash t) (slash_is x) (from_begins t)

-- only one cut has a front without slash and a rest that begins with one, or is empty
pub before_again : (a r : List ℕ) → HasNoSlash a → IsEmptyOrBeginsWithSlash r → before_slash (a ++ r) ≡ a
before_again [] r h (inl e) = rw e refl
before_again [] r h (inr m) = rw m.1 refl
before_again (x ∷ a) r h o =
    let e = not_slash x h.0 in
    rw e (ap (λ (l : List ℕ). x ∷ l) (before_again a r h.1 o))

-- behind a part without slash, the rest from a slash on is found
pub from_again : (a r : List ℕ) → HasNoSlash a → IsEmptyOrBeginsWithSlash r → from_slash (a ++ r) ≡ r
from_again [] r h (inl e) = rw e refl
from_again [] r h (inr m) = rw m.1 refl
from_again (x ∷ a) r h o =
    let e = not_slash x h.0 in
    rw e (from_again a r h.1 o)

one_more : (n : ℕ) → 1 + n ≡ suc n
one_more n = omega arith

take_step : (b : Bool) (x n : ℕ) (t p : List ℕ) → p ≡ take n t → cond b [] (x ∷ p) ≡ take (cond (not b) (1 + n) 0) (x ∷ t)
take_step true x n t p e = refl
take_step false x n t p e = rw (one_more n, e) refl

-- what stands before the first slash is the octets up to its position
pub before_is_take : (t : List ℕ) → before_slash t ≡ take (position_or_len is_slash t) t
before_is_take [] = refl
before_is_take (x ∷ t) = take_step (is_slash x) x (position_or_len is_slash t) t (before_slash t) (before_is_take t)

drop_step : (b : Bool) (x n : ℕ) (t p : List ℕ) → p ≡ drop n t → cond b (x ∷ t) p ≡ drop (cond (not b) (1 + n) 0) (x ∷ t)
drop_step true x n t p e = refl
drop_step false x n t p e = rw (one_more n, e) refl

-- what stands from the first slash on is the octets from its position
pub from_is_drop : (t : List ℕ) → from_slash t ≡ drop (position_or_len is_slash t) t
from_is_drop [] = refl
from_is_drop (x ∷ t) = drop_step (is_slash x) x (position_or_len is_slash t) t (from_slash t) (from_is_drop t)

-- ---- one slash at the end

not_nothing : (f : List ℕ) (x : ℕ) (t : List ℕ) → [] ≢ f ++ x ∷ t
not_nothing [] x t e = absurd cc
not_nothing (y ∷ f) x t e = absurd cc

tails : (x y : ℕ) (s t : List ℕ) → x ∷ s ≡ y ∷ t → s ≡ t
tails x y s t e = cc

-- a text with a slash added is trimmed to the text
pub trimmed-push : (t : List ℕ) → trimmed (t ++ slash ∷ []) ≡ t
trimmed-push [] = refl
trimmed-push (x ∷ []) = refl
trimmed-push (x ∷ y ∷ t) = ap (λ (l : List ℕ). x ∷ l) (trimmed-push (y ∷ t))

-- a text that doesn't end with a slash is trimmed to itself
pub trimmed_same : (t : List ℕ) → ((front : List ℕ) → t ≢ front ++ slash ∷ []) → trimmed t ≡ t
trimmed_same [] h = refl
trimmed_same (x ∷ []) h = let e = not_slash x (λ e. h [] (ap (λ (y : ℕ). y ∷ []) e)) in rw e refl
trimmed_same (x ∷ y ∷ t) h = ap (λ (l : List ℕ). x ∷ l) (trimmed_same (y ∷ t) (λ front e. h (x ∷ front) (ap (λ (l : List ℕ). x ∷ l) e)))

-- a trimmed text is what the function gives
pub trimmed_again : (t u : List ℕ) → IsTrimmed t u → trimmed t ≡ u
trimmed_again t u (inl e) = rw e (trimmed-push u)
trimmed_again t u (inr h) = trimmed_same t h.1 ∙ h.0

not_one : (x : ℕ) → x ≢ slash → (front : List ℕ) → x ∷ [] ≢ front ++ slash ∷ []
not_one x h [] e = h cc
not_one x h (y ∷ front) e = not_nothing front slash [] (tails x y [] (front ++ slash ∷ []) e)

not_later : (x y : ℕ) (t : List ℕ) → ((front : List ℕ) → y ∷ t ≢ front ++ slash ∷ []) → (front : List ℕ) → x ∷ y ∷ t ≢ front ++ slash ∷ []
not_later x y t h [] e = absurd cc
not_later x y t h (z ∷ front) e = h front (tails x z (y ∷ t) (front ++ slash ∷ []) e)

trimmed_one : (b : Bool) (x : ℕ) → (b ≡ true → x ≡ slash) → (b ≡ false → x ≢ slash) → IsTrimmed (x ∷ []) (cond b [] (x ∷ []))
trimmed_one true x h g = inl (ap (λ (y : ℕ). y ∷ []) (h refl))
trimmed_one false x h g = inr (refl, not_one x (g refl))

trimmed_more : (x y : ℕ) (t u : List ℕ) → IsTrimmed (y ∷ t) u → IsTrimmed (x ∷ y ∷ t) (x ∷ u)
trimmed_more x y t u (inl e) = inl (ap (λ (l : List ℕ). x ∷ l) e)
trimmed_more x y t u (inr h) = inr (ap (λ (l : List ℕ). x ∷ l) h.0, not_later x y t h.1)

-- what the function gives is the trimmed text
pub trimmed_is : (t : List ℕ) → IsTrimmed t (trimmed t)
trimmed_is [] = inr (refl, λ front. not_nothing front slash [])
trimmed_is (x ∷ []) = trimmed_one (is_slash x) x (slash_is x) (other_is x)
trimmed_is (x ∷ y ∷ t) = trimmed_more x y t (trimmed (y ∷ t)) (trimmed_is (y ∷ t))

-- a text is trimmed at its end alone
pub trimmed-append : (a : List ℕ) (x : ℕ) (b : List ℕ) → trimmed (a ++ x ∷ b) ≡ a ++ trimmed (x ∷ b)
trimmed-append [] x b = refl
trimmed-append (y ∷ []) x b = refl
trimmed-append (y ∷ z ∷ a) x b = ap (λ (l : List ℕ). y ∷ l) (trimmed-append (z ∷ a) x b)

-- ---- the last slash

filled : (a : List ℕ) (x : ℕ) (b : List ℕ) → is_empty (a ++ x ∷ b) ≡ false
filled [] x b = refl
filled (y ∷ a) x b = refl

-- a text without slash has nothing through its last one
pub through-none : (n : List ℕ) → HasNoSlash n → through_slash n ≡ []
through-none [] h = refl
through-none (x ∷ n) h =
    let e = not_slash x h.0 in
    let none = through-none n h.1 in
    rw (none, e) refl

-- a text is kept through its last slash
pub through-kept : (x n : List ℕ) → HasNoSlash n → through_slash (x ++ slash ∷ n) ≡ x ++ slash ∷ []
through-kept [] n h = let none = through-none n h in rw none refl
through-kept (y ∷ x) n h =
    let kept = through-kept x n h in
    rw (kept, filled x slash []) refl

through_first : (l : List ℕ) → cond (is_empty l) (slash ∷ []) (slash ∷ l) ≡ slash ∷ l
through_first [] = refl
through_first (x ∷ l) = refl

-- a front that ends with a slash is kept whole
pub through-front : (f t : List ℕ) → through_slash (f ++ slash ∷ t) ≡ f ++ slash ∷ through_slash t
through-front [] t = through_first (through_slash t)
through-front (x ∷ f) t =
    let rest = through-front f t in
    rw (rest, filled f slash (through_slash t)) refl

-- an octet that is no slash at the end changes nothing
pub through-other : (t : List ℕ) (x : ℕ) → x ≢ slash → through_slash (t ++ x ∷ []) ≡ through_slash t
through-other [] x h = let e = not_slash x h in rw e refl
through-other (y ∷ t) x h = let rest = through-other t x h in rw rest refl

-- a text, cut behind its last slash
pub record IsKept (kept t : List ℕ) : Type 0 where
  pub name : List ℕ
  pub split : t ≡ kept ++ name
  pub name_is : HasNoSlash name
  pub kept_is : IsEmptyOrEndsWithSlash kept

kept_none : (b : Bool) (x : ℕ) (t : List ℕ) → (b ≡ true → x ≡ slash) → (b ≡ false → x ≢ slash) → HasNoSlash t →
    IsKept (cond b (x ∷ []) []) (x ∷ t)
kept_none true x t h g n = record { name = t; split = refl; name_is = n; kept_is = inr ([], ap (λ (y : ℕ). y ∷ []) (h refl)) }
kept_none false x t h g n = record { name = x ∷ t; split = refl; name_is = (g refl, n); kept_is = inl refl }

kept_more : (x : ℕ) (t k : List ℕ) (last : List ℕ) → IsKept k t → IsEmptyOrEndsWithSlash k →
    (k ≡ [] → HasNoSlash t → IsKept last (x ∷ t)) → IsKept (cond (is_empty k) last (x ∷ k)) (x ∷ t)
kept_more x t [] last k o none = none refl (subst HasNoSlash (sym k.split) k.name_is)
kept_more x t (y ∷ ys) last k (inl e) none = absurd cc
kept_more x t (y ∷ ys) last k (inr m) none =
    record {
      name = k.name;
      split = ap (λ (l : List ℕ). x ∷ l) k.split;
      name_is = k.name_is;
      kept_is =
          inr (x ∷ m.0, ap (λ (l : List ℕ). x ∷ l) m.1);
    }

-- what the function keeps is the text through its last slash
pub through_is : (t : List ℕ) → IsKept (through_slash t) t
through_is [] = record { name = []; split = refl; name_is = tt; kept_is = inl refl }
through_is (x ∷ t) =
    let k = through_is t in
    kept_more x t (through_slash t) (cond (is_slash x) (x ∷ []) []) k k.kept_is
    (λ _ none. kept_none (is_slash x) x t (slash_is x) (other_is x) none)

-- a text that ends with its last slash is kept before a name
pub through_again : (kept name : List ℕ) → HasNoSlash name → IsEmptyOrEndsWithSlash kept → through_slash (kept ++ name) ≡ kept
through_again kept name h (inl e) = rw e (through-none name h)
through_again kept name h (inr m) = rw (m.1, append_assoc m.0 (slash ∷ []) name) (through-kept m.0 name h)

-- ---- segments

segments_exist : (t : List ℕ) → (first : List ℕ) × (more : List (List ℕ)) × (slice_split is_slash t ≡ first ∷ more)
segments_exist [] = ([], [], refl)
segments_exist (x ∷ t) =
    let r = segments_exist t in
    elim (cases_Bool (is_slash x)) [
      | inl e ↦ ([], slice_split is_slash t, rw e refl)
      | inr e ↦ (x ∷ r.0, r.1, rw (e, r.2) refl)
    ]

onto-append : (x : ℕ) (a b : List (List ℕ)) (first : List ℕ) (more : List (List ℕ)) → a ≡ first ∷ more →
    onto_first x (a ++ b) ≡ onto_first x a ++ b
onto-append x a b first more e = rw e refl

-- texts joined by a slash have the segments of both
pub segments-append : (a b : List ℕ) → slice_split is_slash (a ++ slash ∷ b) ≡ slice_split is_slash a ++ slice_split is_slash b
segments-append [] b = refl
segments-append (x ∷ a) b =
    let rest = segments-append a b in
    let r = segments_exist a in
    elim (cases_Bool (is_slash x)) [
      | inl e ↦ rw (e, rest) refl
      | inr e ↦ rw (e, rest) (onto-append x (slice_split is_slash a) (slice_split is_slash b) r.0 r.1 r.2)
    ]
