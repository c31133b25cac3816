use Rattle.rpki_parts.proofs.Texts.{joined, not_joined}
use Rattle.rpki_parts.proofs.stand_in.StandInVerifier.verify.Goals as goal

pub returns-in-Some : goal.returns-in-Some
returns-in-Some c =
    let f = c.in-Some.ensures.cases in
    rw (← c.bits.ensures.same, c.eq.ensures, f.1) (joined c.args.signature.now c.bits.result.now c.args.message.now f.0)

pub returns-in-None : goal.returns-in-None
returns-in-None c = (
  (λ e. absurd cc),
  rw (← c.bits.ensures.same)
      (λ j. absurd (not_joined c.args.signature.now c.bits.result.now c.args.message.now c.in-None.ensures.cases
      j)),
)
