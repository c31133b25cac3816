use Rattle.rpki_document.proofs.Built.{ended_some}
use Rattle.std.proofs.Common.{refl}
use Rattle.rpki_answers.specs.Verdicts.{AreNoted, noted_nodes}
use Rattle.rpki_answers.proofs.verdict_document.files.add_noted.Goals as goal

pub returns : goal.returns
returns c =
    let file = c.args.member.now in
    let notes = c.in_ok-notes.notes.items in
    ended_some c.add_notes.result (AreNoted file) (noted_nodes file.name notes) c.args.parts.now.items
    c.add_notes.new.parts.items (notes, c.in_ok-notes.ensures, refl)
    (rw (c.name.ensures, c.deref.ensures.value) at c.add_notes.ensures)
