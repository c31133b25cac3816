use Rattle.std.proofs.Common.{inr, ℕ, List, subst, ◌∙◌}
use Rattle.rpki_cert.specs.Verification.{context}
use Rattle.rpki_keys.specs.RsaSignatures.{IsSignedByRsa}
use Rattle.rpki_c.specs.FolderTelling.{AnswersBelow}
use Rattle.rpki_c.proofs.walking.walk_given.Goals as goal

pub returns : goal.returns
returns c =
    let t = c.args.terms in
    let strings = c.in_ok-sorted.ensures.strings ∙ c.deref.ensures.value in
    let answer = subst (λ (l : List (List ℕ)). AnswersBelow (context IsSignedByRsa t.at t.strict) t c.in_ok-tal.tal l
    c.walk_sorted.result) strings c.walk_sorted.ensures in
    inr (
      c.in_ok-strings.strings.items,
      c.in_ok-strings.ensures.cut,
      inr (c.in_ok-tal.tal, c.in_ok-tal.ensures.ok, answer),
    )
