use Rattle.std.proofs.Common.{◌∙◌, inl, sym}
use Rattle.std.proofs.lemmas.Result.{IfOk-weaker}
use Rattle.rpki_text.specs.CommandLines.Views.{word_octets}
use Rattle.rpki_answers.specs.declared.outcomes.Outcome.{Outcome}
use Rattle.rpki_lines.specs.Watching.{device}
use Rattle.rpki_command.specs.Runs.{RunEndsAs}
use Rattle.rpki_command.proofs.EndedRuns.{told_misuse, told_rejection, told_success, told_unread}
use Rattle.rpki_command.proofs.command.Goals as goal

pub returns-in-Ok-clause-wrong_use : goal.returns-in-Ok-clause-wrong_use
returns-in-Ok-clause-wrong_use g c =
    let reads = g.S.FileSource.reads c.args.system.now in
    let lists = g.S.FileSource.lists c.args.system.now in
    let tells = g.S.MomentSource.tells c.args.system.now in
    let Ends : Outcome → Type 0 = λ outcome. RunEndsAs reads lists tells (word_octets c.args.words.now) outcome
    (g.E.Write.contents (device c.args.err.now.watched)) (g.E.Write.contents (device c.run.new.err.watched))
    (g.M.FileMaker.made c.args.files.now) (g.M.FileMaker.made c.run.new.files) in
    λ told. told_misuse Ends c.run.result c.settled-ended.result
    (IfOk-weaker c.run.result _ _ (λ e its. (its.0, its.1, its.3, its.4)) c.run.ensures.ended)
    c.settled-ended.ensures.outcome (sym c.status_of-status.ensures ∙ sym c.from.ensures ∙ told)

pub returns-in-Ok-clause-success : goal.returns-in-Ok-clause-success
returns-in-Ok-clause-success g c =
    let reads = g.S.FileSource.reads c.args.system.now in
    let lists = g.S.FileSource.lists c.args.system.now in
    let tells = g.S.MomentSource.tells c.args.system.now in
    let Ends : Outcome → Type 0 = λ outcome. RunEndsAs reads lists tells (word_octets c.args.words.now) outcome
    (g.E.Write.contents (device c.args.err.now.watched)) (g.E.Write.contents (device c.run.new.err.watched))
    (g.M.FileMaker.made c.args.files.now) (g.M.FileMaker.made c.run.new.files) in
    λ told. told_success Ends c.run.result c.settled-ended.result
    (IfOk-weaker c.run.result _ _ (λ e its. (its.0, its.1, its.3, its.4)) c.run.ensures.ended)
    c.settled-ended.ensures.outcome (sym c.status_of-status.ensures ∙ sym c.from.ensures ∙ told)

pub returns-in-Ok-clause-rejection : goal.returns-in-Ok-clause-rejection
returns-in-Ok-clause-rejection g c =
    let reads = g.S.FileSource.reads c.args.system.now in
    let lists = g.S.FileSource.lists c.args.system.now in
    let tells = g.S.MomentSource.tells c.args.system.now in
    let Ends : Outcome → Type 0 = λ outcome. RunEndsAs reads lists tells (word_octets c.args.words.now) outcome
    (g.E.Write.contents (device c.args.err.now.watched)) (g.E.Write.contents (device c.run.new.err.watched))
    (g.M.FileMaker.made c.args.files.now) (g.M.FileMaker.made c.run.new.files) in
    λ told. told_rejection Ends c.run.result c.settled-ended.result
    (IfOk-weaker c.run.result _ _ (λ e its. (its.0, its.1, its.3, its.4)) c.run.ensures.ended)
    c.settled-ended.ensures.outcome (sym c.status_of-status.ensures ∙ sym c.from.ensures ∙ told)

pub returns-in-Ok-clause-failure : goal.returns-in-Ok-clause-failure
returns-in-Ok-clause-failure g c =
    let reads = g.S.FileSource.reads c.args.system.now in
    let lists = g.S.FileSource.lists c.args.system.now in
    let tells = g.S.MomentSource.tells c.args.system.now in
    let Ends : Outcome → Type 0 = λ outcome. RunEndsAs reads lists tells (word_octets c.args.words.now) outcome
    (g.E.Write.contents (device c.args.err.now.watched)) (g.E.Write.contents (device c.run.new.err.watched))
    (g.M.FileMaker.made c.args.files.now) (g.M.FileMaker.made c.run.new.files) in
    λ told. inl (told_unread Ends c.run.result c.settled-ended.result
    (IfOk-weaker c.run.result _ _ (λ e its. (its.0, its.1, its.3, its.4)) c.run.ensures.ended)
    c.settled-ended.ensures.outcome c.in-Ok._outcome c.in-Ok.is
    (sym c.status_of-status.ensures ∙ sym c.from.ensures ∙ told))
