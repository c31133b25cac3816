use Rattle.std.proofs.Common.{◌≡◌, ◌≢◌, ℕ, ◌+◌, ◌-◌, ◌<◌, ◌≤◌, List, [], ◌∷◌, ◌++◌, length, get_or, take, refl, sym, ◌∙◌, subst, arith}
use Rattle.std.proofs.lemmas.List.{take_more}
use Rattle.rpki_parts.specs.Uris.{slash}
use Rattle.rpki_parts.specs.Uris.Tests.{through_slash}
use Rattle.rpki_parts.proofs.Slashes.{through-kept, through-other}
use Rattle.rpki_parts.proofs.uri.through_slash.Goals.{then-loop-end-test+else-text-end-ne47, else-loop-end-test}
use Rattle.rpki_parts.proofs.uri.through_slash.Goals as goal

-- the last octet of a front
last : (text : List ℕ) (n : ℕ) → 0 < n → n ≤ length text → take n text ≡ take (n - 1) text ++ get_or text (n - 1) 0 ∷ []
last text n positive within =
    let back : (n - 1) + 1 ≡ n = omega arith in
    subst (λ (m : ℕ). take m text ≡ take (n - 1) text ++ get_or text (n - 1) 0 ∷ []) back (take_more text (n - 1) 0 (omega arith))

shorter : (text : List ℕ) (n : ℕ) → 0 < n → n ≤ length text → get_or text (n - 1) 0 ≢ slash →
    through_slash (take n text) ≡ through_slash (take (n - 1) text)
shorter text n positive within other = rw (last text n positive within) (through-other (take (n - 1) text) (get_or text (n - 1) 0) other)

ends : (text : List ℕ) (n : ℕ) → 0 < n → n ≤ length text → get_or text (n - 1) 0 ≡ slash → take n text ≡ through_slash (take n text)
ends text n positive within here = rw (last text n positive within, here) (sym (through-kept (take (n - 1) text) [] tt))

nothing : (text : List ℕ) (n : ℕ) → n ≡ 0 → take n text ≡ through_slash (take n text)
nothing text n e = rw e refl

pub loop-end-preserved : goal.loop-end-preserved
loop-end-preserved c =
    let text = c.args.text.now in (
      omega arith,
      sym (shorter text c.loop-end.end c.loop-end-test.true c.loop-end.invariant.0
          c.if-text-end-ne47.true) ∙ c.loop-end.invariant.1,
    )

pub returns : goal.returns
returns c =
    let text = c.args.text.now in
    elim c.loop-end-test.branch [
      | then-loop-end-test+else-text-end-ne47 w ↦ ends text c.loop-end.end w.loop-end-test.true c.loop-end.invariant.0
          w.if-text-end-ne47.false ∙ c.loop-end.invariant.1
      | else-loop-end-test w ↦ nothing text c.loop-end.end (omega arith) ∙ c.loop-end.invariant.1
    ]
