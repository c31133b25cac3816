-- Lists of paths with the same ranks show paths of one rank.
use Rattle.std.specs.declared.cmp.Ordering.TheVariants.{Less}
use Rattle.std.proofs.Common.{◌≡◌, ℕ, List, subst}
use Rattle.rpki_files.specs.Files.{FileFields}
use Rattle.rpki_verdicts.specs.ShownPaths.{HaveRank, IsRank, IsShownPath, Precedes, Rank, ShowByRanks, rank_order}
use Rattle.rpki_verdicts.proofs.PathRanks.{one_rank}
use Rattle.rpki_folder.specs.declared.find.FoundPath.{FoundPath}
use Rattle.rpki_verdicts.specs.declared.unordered.Tree.{Tree}

-- a kept path doesn't go before the one that is shown of paths with the same ranks
not_before : (certs files : List FileFields) (tree other : Tree) (place at : ℕ) (paths ways : List FoundPath) (path way : FoundPath)
    → ((rank : Rank) → HaveRank certs tree place paths rank → HaveRank files other at ways rank)
    → IsShownPath certs tree place paths path → IsShownPath files other at ways way
    → (r s : Rank) → IsRank certs tree place path r → IsRank files other at way s → rank_order r s ≡ Less → ⊥
not_before certs files tree other place at paths ways path way same shown again r s a b less =
    let there = same r (shown.kept.0, path, shown.kept.1, shown.kept.2, a) in
    let none = subst (λ (p : FoundPath). Precedes files other at p way → ⊥) there.3 (again.first there.0 there.1 there.2) in
    none (record { rank = r; other_rank = s; rank_is = there.4; other_is = b; before = less })

pub show_by_ranks : ShowByRanks
show_by_ranks certs files tree other place at paths ways path way same shown again r s a b =
    one_rank r s (not_before certs files tree other place at paths ways path way (λ rank. (same rank).0) shown again r s a b)
    (not_before files certs other tree at place ways paths way path (λ rank. (same rank).1) again shown s r b a)
