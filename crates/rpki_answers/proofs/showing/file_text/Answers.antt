use Rattle.rpki_document.specs.Building.{nodes_of}
use Rattle.rpki_answers.proofs.ShownFiles.{subject_shown}
use Rattle.rpki_answers.proofs.showing.file_text.Goals as goal

pub returns-clause-shows : goal.returns-clause-shows
returns-clause-shows c =
    rw c.can_be_shown-shows.ensures
    (subject_shown c.args.options.now.strict c.args.object.now.octets c.in_ok-subject.subject
    c.in_ok-subject.ensures)

pub returns-clause-text : goal.returns-clause-text
returns-clause-text c = (nodes_of c.in_ok-parts.parts.items, c.in_ok-parts.ensures, c.in_ok-text.ensures)
