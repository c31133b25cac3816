use Rattle.std.proofs.Common.{append_assoc}
use Rattle.rpki_document.proofs.Built.{ended_with}
use Rattle.rpki_answers.proofs.showing.documents.add_place.Goals as goal

pub returns : goal.returns
returns c =
    ended_with c.add_found.result _ _ _ c.add_found.ensures
    (rw (c.in_ok-add_told.ensures, c.in_ok-add_where.ensures) (simp append_assoc))
