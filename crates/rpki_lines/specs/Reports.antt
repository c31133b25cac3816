-- What is printed of a path that was accepted.
use Rattle.std.specs.Prelude.{ℕ, List, [], ◌∷◌, ◌++◌, codes, decimal}
use Rattle.std.specs.List.{concat}
use Rattle.rpki_blocks.specs.Sets.{IsChain}
use Rattle.rpki_cert.specs.Verification.{ResourceFields}
use Rattle.rpki_lines.specs.PrintedSets.{v4_end, v6_end, ranges, name_and_words}
use Rattle.rpki_lines.specs.Program.{output_of, stand_in}

-- the text that is printed of a valid path whose last member holds these resources
abbrev pub accepted_text : ResourceFields → List ℕ
accepted_text r =
    stand_in ++ concat (output_of (codes "accepted" ∷ []) ∷ output_of (name_and_words (codes "v4") (ranges v4_end r.v4) ∷ [])
    ∷ output_of (name_and_words (codes "v6") (ranges v6_end r.v6) ∷ []) ∷
    output_of (name_and_words (codes "as") (ranges decimal r.as_numbers) ∷ []) ∷ [])

-- each set is in its one form
pub record HasSortedSets (r : ResourceFields) : Type 0 where
  pub v4_sorted : IsChain r.v4
  pub v6_sorted : IsChain r.v6
  pub as_sorted : IsChain r.as_numbers
