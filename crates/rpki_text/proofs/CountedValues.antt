-- How many values with one identifier octet pass a test.
use Rattle.std.specs.List.{count_by}
use Rattle.std.proofs.Common.{◌≡◌, ◌+◌, ℕ, Bool, cond, List, Some, None, ap, ◌∙◌}
use Rattle.std.proofs.lemmas.List.Sums.{sum_by-cons}
use Rattle.rpki_der.specs.Values.Reading.{value_at}
use Rattle.rpki_parts.specs.NameTexts.Reading.{values_in}
use Rattle.rpki_parts.proofs.NameTexts.{no_values, one_value}
use Rattle.rpki_text.proofs.Gathered.{value_shrinks}

module _ (p : List ℕ → Bool) (tag : ℕ) where
  abbrev pub passing : List ℕ → ℕ
  passing octets = count_by p (values_in (value_at tag) octets)

  -- with one more
  pub one_counted : (octets content rest : List ℕ) → value_at tag octets ≡ Some (content, rest) →
      passing octets ≡ cond (p content) 1 0 + passing rest
  one_counted octets content rest read =
      ap (count_by p) (one_value (value_at tag) (value_shrinks tag) octets content rest read)
      ∙ sum_by-cons (λ x. cond (p x) 1 0) content (values_in (value_at tag) rest)

  -- at the end
  pub none_counted : (octets : List ℕ) → value_at tag octets ≡ None → passing octets ≡ 0
  none_counted octets none = ap (count_by p) (no_values (value_at tag) (value_shrinks tag) octets none)
