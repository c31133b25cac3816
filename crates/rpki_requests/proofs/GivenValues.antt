-- The values that an option is given.
use Rattle.std.specs.Prelude.{Bool, true, false, cond, count_by, filter, map, Result, Ok, Err, IfOk}
use Rattle.std.specs.declared.vec.Vec.{Vec}
use Rattle.std.proofs.Common.{◌≡◌, ℕ, List, [], ◌∷◌, Bor, length, refl, ap, sym, subst, ◌∙◌}
use Rattle.std.proofs.lemmas.List.{length-map}
use Rattle.std.proofs.lemmas.List.Sums.{length-filter}
use Rattle.std.proofs.lemmas.Simd.{map-map}
use Rattle.rpki_requests.specs.declared.words.Demand.{Demand}
use Rattle.rpki_requests.specs.declared.words.Errand.{Errand}
use Rattle.rpki_requests.specs.declared.words.Given.{Given}
use Rattle.rpki_requests.specs.declared.words.Setting.{Setting}
use Rattle.rpki_requests.specs.declared.words.Misuse.{Misuse}
use Rattle.rpki_requests.specs.RequestMisuses.{IsWrongCount}
use Rattle.rpki_requests.specs.RequestWords.{OptionFields, Meets, demand, is_same, given_values}
use Rattle.rpki_requests.specs.RequestWords.Views.{given_fields}

one_more : (b : Bool) (x : Given) (fields : List OptionFields) (given : List Given) →
    map (λ g. g.value) fields ≡ map (λ g. g.value.now) given →
    map (λ g. g.value) (cond b (given_fields x ∷ fields) fields) ≡
    map (λ g. g.value.now) (cond b (x ∷ given) given)
one_more true x fields given same = ap (λ (l : List (List ℕ)). x.value.now ∷ l) same
one_more false x fields given same = same

-- they are the values of those that have its name
pub values_are : (setting : Setting) (given : List Given) →
    given_values setting (map given_fields given) ≡
    map (λ g. g.value.now) (filter (λ g. is_same g.setting setting) given)
values_are setting [] = refl
values_are setting (x ∷ xs) =
    one_more (is_same x.setting setting) x (filter (λ g. is_same g.setting setting) (map given_fields xs))
    (filter (λ g. is_same g.setting setting) xs) (values_are setting xs)

-- as many as have it
pub times_are : (setting : Setting) (given : List Given) → length (given_values setting (map given_fields given)) ≡
    count_by (λ g. is_same g.setting setting) given
times_are setting given =
    ap length (values_are setting given) ∙ length-map (filter (λ g. is_same g.setting setting) given) (λ g. g.value.now)
    ∙ length-filter (λ g. is_same g.setting setting) given

-- as a vector keeps them
pub values_kept : {E Z : Type 0} (r : Result (Vec (Bor (List ℕ)) Z) E) (setting : Setting)
    (given list : List Given) → list ≡ given →
    IfOk r (λ v. v.items ≡ map (λ g. g.value) (filter (λ g. is_same g.setting setting) list)) →
    IfOk r (λ v. map (λ value. value.now) v.items ≡ given_values setting (map given_fields given))
values_kept (Ok v) setting given list same are =
    ap (λ (l : List (Bor (List ℕ))). map (λ value. value.now) l) are ∙ map-map (λ (value : Bor (List ℕ)). value.now)
    (λ (g : Given). g.value) (filter (λ g. is_same g.setting setting) list)
    ∙ sym (values_are setting list) ∙ ap (λ (l : List Given). given_values setting (map given_fields l)) same
values_kept (Err e) setting given list same are = tt

module _ (setting : Setting) (errand : Errand) (given list : List Given) (often : Demand) (n : ℕ)
    (often_is : often ≡ demand setting errand) (n_is : n ≡ count_by (λ g. is_same g.setting setting) list)
    (same : list ≡ given) where
  times_is : n ≡ length (given_values setting (map given_fields given))
  times_is = n_is ∙ sym (times_are setting list) ∙
      ap (λ (l : List Given). length (given_values setting (map given_fields l))) same

  -- so many meet what is demanded, or don't
  pub met : Meets often n → Meets (demand setting errand) (length (given_values setting (map given_fields given)))
  met meets = subst (λ (m : ℕ). Meets (demand setting errand) m) times_is
      (subst (λ (d : Demand). Meets d n) often_is meets)

  -- what is told of so many is told of those that stand there
  pub counted : (misuse : Misuse) → IsWrongCount misuse setting often n →
      IsWrongCount misuse setting (demand setting errand) (length (given_values setting (map given_fields given)))
  counted misuse wrong = subst (λ (m : ℕ). IsWrongCount misuse setting (demand setting errand) m) times_is
      (subst (λ (d : Demand). IsWrongCount misuse setting d n) often_is wrong)

  pub unmet : (Meets often n → ⊥) →
      Meets (demand setting errand) (length (given_values setting (map given_fields given))) → ⊥
  unmet not meets = not
      (subst (λ (d : Demand). Meets d n) (sym often_is)
      (subst (λ (m : ℕ). Meets (demand setting errand) m) (sym times_is) meets))
