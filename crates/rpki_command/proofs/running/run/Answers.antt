use Rattle.std.proofs.Common.{◌∙◌, [], sym, refl, inl, inr}
use Rattle.std.proofs.lemmas.Bool.{true≢false}
use Rattle.std.proofs.lemmas.Result.{IfOk-weaker}
use Rattle.rpki_command.proofs.WrittenTexts.{makes_none}
use Rattle.rpki_command.proofs.running.run.Goals as goal

-- a run is that of a request
pub returns-then-is_request-clause-ended : goal.returns-then-is_request-clause-ended
returns-then-is_request-clause-ended g c =
    IfOk-weaker c.run_request.result
    _ _ (λ e its. (its.0, inl (c.is_request.ensures.0 c.if-is_request.true, its.1), its.2, its.3, its.4))
    c.run_request.ensures.ended

-- or that of a command line, which makes no file
pub returns-clause-ended : goal.returns-clause-ended
returns-clause-ended g c =
    IfOk-weaker c.run_line.result _ _
    (λ e its. (
      record { text = its.0; said = its.1; files = [] },
      inr ((λ begins. true≢false (sym (c.is_request.ensures.1 begins) ∙ c.if-is_request.false)), its.2, refl),
      its.3,
      its.4,
      makes_none (g.M.FileMaker.made c.args.files.now),
    ))
    c.run_line.ensures.ended
