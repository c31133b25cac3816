use Rattle.std.proofs.Common.{◌∙◌, ap, sym}
use Rattle.rpki_document.specs.Documents.{list_of, node_members, object_of}
use Rattle.rpki_document.specs.Views.{part_view}
use Rattle.rpki_document.proofs.Joined.{members_of_parts, put_aside, put_value}
use Rattle.rpki_document.proofs.Joined.{view-Aside, view-Inside, view-Each}
use Rattle.rpki_document.proofs.as_json.+values.Goals as goal

pub put_part-returns-in_ok-value-in-Inside : goal.put_part-returns-in_ok-value-in-Inside
put_part-returns-in_ok-value-in-Inside t c =
    put_value c.gather.result _ _ _ c.args.it.now _ _ (ap node_members (ap part_view c.in-Inside.is ∙ view-Inside _ _))
    (c.in_ok-value-in-Inside.ensures ∙ ap object_of (sym (members_of_parts _))) c.gather.ensures

pub put_part-returns-in_ok-value-in-Each : goal.put_part-returns-in_ok-value-in-Each
put_part-returns-in_ok-value-in-Each t c =
    put_value c.gather-in-Each.result _ _ _ c.args.it.now _ _ (ap node_members (ap part_view c.in-Each.is ∙ view-Each _ _))
    (c.in_ok-value-in-Each.ensures ∙ ap list_of (sym (members_of_parts _))) c.gather-in-Each.ensures

pub put_part-returns-in-Aside : goal.put_part-returns-in-Aside
put_part-returns-in-Aside t c =
    put_aside c.put_parts.result _ _ c.args.it.now c.in-Aside.parts.items (ap part_view c.in-Aside.is ∙ view-Aside _) c.put_parts.ensures
