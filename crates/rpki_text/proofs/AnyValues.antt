-- Whether one of the values with one identifier octet passes a test.
use Rattle.std.specs.List.{list_any}
use Rattle.std.proofs.Common.{◌≡◌, ◌||◌, ℕ, Bool, false, List, Some, None, ap}
use Rattle.rpki_der.specs.Values.Reading.{value_at}
use Rattle.rpki_parts.specs.NameTexts.Reading.{values_in}
use Rattle.rpki_parts.proofs.NameTexts.{no_values, one_value}
use Rattle.rpki_text.proofs.Gathered.{value_shrinks}

module _ (p : List ℕ → Bool) (tag : ℕ) where
  abbrev pub any_passes : List ℕ → Bool
  any_passes octets = list_any p (values_in (value_at tag) octets)

  -- with one more
  pub one_tested : (octets content rest : List ℕ) → value_at tag octets ≡ Some (content, rest) →
      any_passes octets ≡ (p content || any_passes rest)
  one_tested octets content rest read = ap (list_any p) (one_value (value_at tag) (value_shrinks tag) octets content rest read)

  -- at the end
  pub none_tested : (octets : List ℕ) → value_at tag octets ≡ None → any_passes octets ≡ false
  none_tested octets none = ap (list_any p) (no_values (value_at tag) (value_shrinks tag) octets none)
