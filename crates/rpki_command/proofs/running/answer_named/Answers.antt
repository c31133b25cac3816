use Rattle.std.specs.Io.KnownBytes.{Appends}
use Rattle.std.specs.Prelude.{OnOk}
use Rattle.rpki_text.specs.CommandLines.Views.{fields_of}
use Rattle.rpki_command.specs.Runs.{IsAnswerIn, IsAnswerOf}
use Rattle.rpki_command.proofs.EndedRuns.{of_sought, so_answered, some_names}
use Rattle.rpki_command.proofs.running.answer_named.Goals as goal

pub returns-clause-answer : goal.returns-clause-answer
returns-clause-answer g c =
    let reads = g.F.FileSource.reads c.args.files.now in
    let lists = g.F.FileSource.lists c.args.files.now in
    let r = fields_of c.args.request in
    let folders = c.args.request.folders in
    so_answered (λ e text said. IsAnswerIn reads lists r c.args.now e.outcome text said)
    (λ e text said. IsAnswerOf reads lists r c.args.now e.outcome text said)
    (λ e text. OnOk e.written (Appends (g.O.Write.contents c.args.out.now) (g.O.Write.contents c.answer_in.new.out) text))
    (λ said. Appends (g.E.Write.contents c.args.err.now) (g.E.Write.contents c.answer_in.new.err) said) c.answer_in.result
    (λ e text said h. of_sought reads lists r c.args.now e.outcome text said r.folders
    (some_names (λ name. name.now) folders c.is_empty.result c.is_empty.ensures folders.ok.0
    c.if-is_empty.false) h)
    c.answer_in.ensures.answer
