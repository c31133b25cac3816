use Rattle.std.proofs.Common.{refl}
use Rattle.std.proofs.lemmas.Result.{IfOk-weaker}
use Rattle.rpki_document.proofs.Built.{ended_some}
use Rattle.rpki_answers.specs.declared.showing.subjects.Subject.TheVariants.{List, Unread}
use Rattle.rpki_answers.specs.ShownFiles.{IsSaidOfFile, no_tal_nodes, tal_nodes, unread_nodes, whole_list_nodes}
use Rattle.rpki_answers.proofs.showing.documents.add_said.Goals as goal

pub add_whole_certificate-requires : goal.add_whole_certificate-requires
add_whole_certificate-requires c = rw c.in-Certificate.is at c.requires

pub returns-in-Certificate : goal.returns-in-Certificate
returns-in-Certificate c = rw c.in-Certificate.is c.add_whole_certificate.ensures

pub returns-in-List : goal.returns-in-List
returns-in-List c =
    let o = c.args.options.now in
    let list = c.in-List.list in
    rw c.in-List.is (ended_some c.add_whole_list.result (IsSaidOfFile o c.args.object.now (List list c.in-List.left))
    (whole_list_nodes o list.now.list.fields c.in-List.left) c.args.parts.now.items c.add_whole_list.new.parts.items refl
    c.add_whole_list.ensures)

pub add_to_be_signed-requires : goal.add_to_be_signed-requires
add_to_be_signed-requires c = (rw c.in-ToBeSigned.is at c.requires).1.begins

pub returns-in-ToBeSigned : goal.returns-in-ToBeSigned
returns-in-ToBeSigned c = rw c.in-ToBeSigned.is c.add_to_be_signed.ensures

pub returns-in-Locator : goal.returns-in-Locator
returns-in-Locator c =
    let tal = c.in-Locator.tal.tal in
    rw c.in-Locator.is (IfOk-weaker c.add_tal.result _ _ (λ _ said. (
      tal_nodes c.args.object.now.name tal said.0,
      (said.0, said.1, refl),
      said.2,
    )) (rw c.name.ensures at c.add_tal.ensures))

pub returns-in-NotALocator : goal.returns-in-NotALocator
returns-in-NotALocator c =
    rw c.in-NotALocator.is (IfOk-weaker c.add_no_tal.result _ _ (λ _ said. (
      no_tal_nodes c.in-NotALocator.error said.0,
      (said.0, said.1, refl),
      said.2,
    )) c.add_no_tal.ensures)

pub returns-in-Unread : goal.returns-in-Unread
returns-in-Unread c =
    let o = c.args.options.now in
    let it = c.in-Unread.it in
    rw c.in-Unread.is (ended_some c.add_unread.result (IsSaidOfFile o c.args.object.now (Unread it)) (unread_nodes o.all it)
    c.args.parts.now.items c.add_unread.new.parts.items refl c.add_unread.ensures)
