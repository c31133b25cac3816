use Rattle.std.proofs.Common.{◌≡◌, ℕ, ◌≤◌, ltb, length, cond, Option, Some, None, unwrap_or, refl, rules, tests, arith}
use Rattle.std.proofs.lemmas.Bool.{cond_both, ltb-false}
use Rattle.std.proofs.lemmas.Iterator.{YieldsList-from_slice}
use Rattle.std.proofs.lemmas.Iterator.Search.{position_from_yields_List}
use Rattle.std.proofs.lemmas.List.Sums.{prefix_len-le-length}
use Rattle.std.specs.List.{position_or_len}
use Rattle.rpki_parts.specs.Uris.Tests.{is_slash}
use Rattle.rpki_parts.proofs.uri.first_slash.Goals as goal

-- a place that was found is one within the list
place : (n len : ℕ) (r : Option ℕ) → n ≤ len → r ≡ cond (ltb n len) (Some n) None → unwrap_or r len ≡ n
place n len r within e =
    rw e (cond_both (ltb n len) (Some n) None (λ o. unwrap_or o len ≡ n) (λ _. refl)
    (λ no. omega (arith, ltb-false n len no)))

pub returns-clause-place : goal.returns-clause-place
returns-clause-place c =
    let text = c.args.text.now in
    let found = position_from_yields_List is_slash _ _ c.position-slash.result c.position-slash.ensures.ran
    (YieldsList-from_slice text c.iter.ensures.rest) (λ x b q k. search (rules, tests)) in
    rw c.unwrap_or.ensures (place (position_or_len is_slash text) (length text) c.position-slash.result (prefix_len-le-length _ text) found)
