-- What the steps give by which paths are put in order.
use Rattle.std.specs.declared.cmp.Ordering.{Ordering}
use Rattle.std.specs.Prelude.{ℕ, List, reverse}
use Rattle.rpki_files.specs.Files.{FileFields}
use Rattle.rpki_verdicts.specs.ShownPaths.{NameIssuersAbove, Rank, octets_along, rank_order}
use Rattle.rpki_verdicts.specs.declared.shown_paths.RankedPath.{RankedPath}
use Rattle.rpki_verdicts.specs.declared.unordered.Tree.{Tree}

-- the number is that of the path's named certificates
abbrev pub IsRanked : List FileFields → Tree → ℕ → RankedPath → Type 0
IsRanked certs tree place r =
    NameIssuersAbove certs tree.firsts tree.anchor place (reverse r.path.now.above.items) r.named

-- its rank
abbrev pub rank_of : List FileFields → RankedPath → Rank
rank_of certs r = record { named = r.named; cas = octets_along certs r.path.now.above.items }

-- how two of them stand
abbrev pub ranked_order : List FileFields → RankedPath → RankedPath → Ordering
ranked_order certs r s = rank_order (rank_of certs r) (rank_of certs s)
