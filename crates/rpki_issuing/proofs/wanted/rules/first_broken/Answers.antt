use Rattle.std.proofs.Common.{rules, ◌≢◌, ◌≤◌, ◌∙◌, inl, inr, refl, sym}
use Rattle.std.proofs.lemmas.Bool.{false≢true}
use Rattle.rpki_issuing.proofs.wanted.rules.first_broken.Goals as goal

pub returns-then-not-branch : goal.returns-then-not-branch
returns-then-not-branch c =
    let positive : c.args.tbs.now.serial ≢ 0 = search rules in
    let late : 1950 ≤ c.args.tbs.now.validity.not_before.year = search rules in
    inr (
      positive,
      inr (
        late,
        inl (refl, λ own. false≢true (sym c.if-not-branch.true ∙ c.in_ok-has_own_key.ensures.1 own)),
      ),
    )
