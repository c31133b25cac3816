use Rattle.std.proofs.Common.{[], ◌∷◌}
use Rattle.rpki_document.proofs.Built.{then_ended}
use Rattle.rpki_answers.specs.ShownFiles.{behind_nodes}
use Rattle.rpki_answers.specs.ShownLists.{list_nodes}
use Rattle.rpki_answers.specs.ToldValues.{signature_line}
use Rattle.rpki_answers.proofs.showing.documents.add_whole_list.Goals as goal

pub returns : goal.returns
returns c =
    let o = c.args.options.now in
    let listed = c.add_list.new.parts.items in
    let signed = c.add_signature.new.parts.items in
    let new = c.add_behind.new.parts.items in
    let behind = behind_nodes c.args.left in
    then_ended c.add_behind.result c.args.parts.now.items listed new
    (list_nodes c.args.list.now.list.fields o.at o.all) (signature_line ∷ behind)
    (rw c.as_cert_list.ensures at c.in_ok-add_list.ensures)
    (then_ended c.add_behind.result listed signed new (signature_line ∷ []) behind c.in_ok-add_signature.ensures c.add_behind.ensures)
