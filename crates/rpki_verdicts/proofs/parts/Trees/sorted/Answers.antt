use Rattle.std.specs.Ordering.{is_lt}
use Rattle.std.proofs.Common.{◌≡◌, rules}
use Rattle.std.proofs.lemmas.Fn.{always_returns_same}
use Rattle.std.proofs.lemmas.List.Sorted.{ranks_by}
use Rattle.rpki_verdicts.specs.ShownPaths.{placed_of}
use Rattle.rpki_verdicts.specs.ShownPaths.Steps.{rank_of, ranked_order}
use Rattle.rpki_verdicts.proofs.PathRanks.{rank_total}
use Rattle.rpki_verdicts.proofs.parts.Trees.sorted.Goals as goal

pub returns-clause-sorted : goal.returns-clause-sorted
returns-clause-sorted c =
    let certs = placed_of c.args.self.now in
    c.in_ok-sort_by.ensures.sorted (λ r s. is_lt (ranked_order certs r s)) (ranks_by rank_total (rank_of certs))
    (always_returns_same _ (λ a r. is_lt r ≡ is_lt (ranked_order certs a.0.now a.1.0.now)) _ (λ a r q k. search rules))
