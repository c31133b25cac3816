-- A table of the serials of entries answers as the entries do.
use Rattle.std.specs.Prelude.{IsTrue, ◌↔◌, Contains}
use Rattle.std.specs.List.Sorted.{IsPermutation}
use Rattle.std.proofs.Common.{◌≡◌, ℕ, ◌≤◌, Bool, List, Option, Some, length, ap, subst, ◌∙◌, arith}
use Rattle.std.proofs.lemmas.List.{length-map}
use Rattle.std.proofs.lemmas.List.Sorted.{Contains-permutation, IsPermutation-sym, length_permutation}
use Rattle.rpki_crl.specs.RevokedEntries.{Entry, IsRevoked}
use Rattle.rpki_crl.specs.SerialSearches.{IsSearch, IsTableSearch}
use Rattle.rpki_crl.specs.SerialTables.{AreAscending, digits, serials_of, IsCacheOf}

module _ (entries : List Entry) (cache : Option (List ℕ)) (table : List ℕ) (holds : IsCacheOf entries cache)
    (there : cache ≡ Some table) where
  shuffled : IsPermutation (serials_of entries) table
  shuffled = subst (λ (c : Option (List ℕ)). IsCacheOf entries c) there holds

  -- what the table tells of a serial is what the entries tell
  pub found_in_table : (serial : ℕ) (found : Bool) → IsTrue found ↔ Contains table serial → IsTrue found ↔ IsRevoked serial entries
  found_in_table serial found same = (
    λ yes. Contains-permutation table (serials_of entries) serial (IsPermutation-sym _ _ shuffled) (same.0 yes),
    λ among. same.1 (Contains-permutation (serials_of entries) table serial shuffled among),
  )

  -- few looks into the table are few for the entries
  pub few_in_table : (count : ℕ) → count ≤ digits (length table) → count ≤ digits (length entries)
  few_in_table count few =
      let same : length table ≡ length entries = length_permutation (serials_of entries) table shuffled ∙
      length-map entries (λ e. e.serial) in
      omega (arith, few, ap digits same)

  -- a search of the table is one of the entries' serials
  pub search_in_table : (serial looks : ℕ) → AreAscending table → IsSearch table serial looks → IsTableSearch entries serial looks
  search_in_table serial looks ascending search = record { table = table; has_all = shuffled; ascending = ascending; search = search }
