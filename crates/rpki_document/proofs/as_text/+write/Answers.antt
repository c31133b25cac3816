use Rattle.std.proofs.Common.{◌∙◌, ap}
use Rattle.rpki_document.specs.Views.{part_view}
use Rattle.rpki_document.proofs.Joined.{view-Aside, written_aside, written_inside}
use Rattle.rpki_document.proofs.as_text.+write.Goals as goal

pub write_part-returns-in-Inside : goal.write_part-returns-in-Inside
write_part-returns-in-Inside t c =
    written_inside c.write_parts.result _ _ c.args.it.now c.in-Inside.parts c.in-Inside.is c.write_parts.ensures

pub write_part-returns-in-Aside : goal.write_part-returns-in-Aside
write_part-returns-in-Aside t c = written_aside _ c.args.it.now _ (ap part_view c.in-Aside.is ∙ view-Aside _)
