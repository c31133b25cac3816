use Rattle.std.proofs.Common.{inl, inr, refl}
use Rattle.std.proofs.lemmas.Result.{IfOk-weaker}
use Rattle.rpki_document.proofs.Built.{ended_some}
use Rattle.rpki_answers.specs.ShownFiles.{IsShownUnsigned}
use Rattle.rpki_answers.specs.ShownLists.{list_nodes}
use Rattle.rpki_answers.proofs.showing.documents.add_to_be_signed.Goals as goal

pub add_certificate-requires : goal.add_certificate-requires
add_certificate-requires c =
    let begins = (rw c.in-Certificate.is at c.content.ensures).0 in
    (begins.0, begins.1)

pub returns-in-Certificate : goal.returns-in-Certificate
returns-in-Certificate c =
    let begins = (rw c.in-Certificate.is at c.content.ensures).0 in
    IfOk-weaker c.add_certificate.result _ _ (λ _ said. (
      said.0,
      inl (c.in-Certificate.cert, (begins.0, begins.1), said.1),
      said.2,
    )) c.add_certificate.ensures

pub returns-in-List : goal.returns-in-List
returns-in-List c =
    let o = c.args.options.now in
    let list = c.in-List.list.list in
    let begins = (rw c.in-List.is at c.content.ensures).0 in
    ended_some c.add_list.result (IsShownUnsigned o c.args.whole.now.octets) (list_nodes list.fields o.at o.all)
    c.args.parts.now.items c.add_list.new.parts.items (inr (list, (begins.0, begins.1), refl))
    (rw c.as_cert_list.ensures at c.add_list.ensures)
