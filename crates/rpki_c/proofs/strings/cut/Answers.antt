use Rattle.std.proofs.Common.{◌+◌, ◌∷◌, ◌++◌, [], List, ℕ, refl, sym, ap, ◌∙◌, subst, arith}
use Rattle.rpki_c.proofs.Cutting.{AreCutSoFar, too_short, cut_more, cut_all}
use Rattle.rpki_c.proofs.strings.cut.Goals as goal

-- the octets end before a string
pub returns-in_default-clause-some : goal.returns-in_default-clause-some
returns-in_default-clause-some c =
    let longer = too_short _ _ _ _ _ c.loop-length.invariant c.loop-length-test.true c.in_default.ensures.cases in
    (λ e. cc, λ e. absurd (omega (arith, e, longer)))

pub loop-length-preserved : goal.loop-length-preserved
loop-length-preserved c =
    let more = cut_more _ _ _ _ _ _ _ c.loop-length.invariant c.loop-length-test.true c.in-Some.ensures.cases in
    let items = c.in_ok-push.ensures.items ∙ ap (λ s. c.loop-length.strings.items ++ s ∷ []) c.in_ok-string.ensures in
    subst (λ (s : List (List ℕ)). AreCutSoFar c.args.octets.now c.args.lengths.now (c.loop-length.length-index + 1)
    s c.in-Some.after.now) (sym items) more

-- the octets go on behind the strings
pub returns-then-not-is_empty-clause-some : goal.returns-then-not-is_empty-clause-some
returns-then-not-is_empty-clause-some c =
    let all = cut_all _ _ _ _ _ c.loop-length.invariant c.loop-length-test.false in
    (λ e. cc, λ e. absurd (grind (arith, all, e, c.if-not-is_empty.ensures)))

pub returns-clause-some : goal.returns-clause-some
returns-clause-some c =
    let all = cut_all _ _ _ _ _ c.loop-length.invariant c.loop-length-test.false in
    (λ e. grind (arith, all, c.if-not-is_empty.ensures), λ e. refl)
