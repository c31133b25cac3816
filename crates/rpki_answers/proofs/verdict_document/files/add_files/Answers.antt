use Rattle.std.specs.Prelude.{codes, OnOk}
use Rattle.std.proofs.Common.{[], ◌∷◌, ◌++◌, append_assoc, refl, subst}
use Rattle.rpki_document.proofs.Built.{ended_some, ended_with}
use Rattle.rpki_document.specs.Building.{AddsSome}
use Rattle.rpki_document.specs.Documents.{document_of, each}
use Rattle.rpki_verdicts.specs.PathFiles.{QuestionFields}
use Rattle.rpki_answers.specs.Verdicts.{AreFiles, not_locators}
use Rattle.rpki_answers.proofs.verdict_document.files.add_files.Goals as goal

pub returns : goal.returns
returns c =
    let last = c.add_each-5.result in
    let certificates = c.in_ok-add_certificates.ensures in
    let noted = c.in_ok-add_of_each.ensures in
    let members = c.in_ok-add_of_each-2.ensures in
    let lists = c.in_ok-add_of_each-3.ensures in
    let others = c.in_ok-add_of_each-4.ensures in
    subst (λ (f : QuestionFields). OnOk last (AddsSome (AreFiles f) c.args.parts.now.items c.add_each-5.new.parts.items))
    c.question.view_is
    (ended_some last _ (
    each (codes "certificates") (document_of certificates.0)
    ∷ each (codes "notes") (document_of noted.0)
    ∷ each (codes "bytes_after_end") (document_of (members.0 ++ lists.0))
    ∷ each (codes "not_crls") (document_of others.0)
    ∷ each (codes "not_tals") (document_of (not_locators c.question.inside.locators.now)) ∷ [])
    c.args.parts.now.items c.add_each-5.new.parts.items
    (record {
      certificates = certificates.0;
      certificates_are = certificates.1;
      noted = noted.0;
      noted_are = noted.1;
      of_members = members.0;
      of_members_are = members.1;
      of_lists = lists.0;
      of_lists_are = lists.1;
      others = others.0;
      others_are = others.1;
      nodes_are = refl;
    })
    (ended_with last _ _ _ c.add_each-5.ensures
    (rw (
      c.in_ok-add_not_locators.ensures,
      c.new-others-2.ensures.items,
      c.in_ok-add_each-4.ensures,
      others.2,
      c.new-others.ensures.items,
      c.in_ok-add_each-3.ensures,
      lists.2,
      members.2,
      c.new-left.ensures.items,
      c.in_ok-add_each-2.ensures,
      noted.2,
      c.new-noted.ensures.items,
      c.in_ok-add_each.ensures,
      certificates.2,
      c.new-certificates.ensures.items,
    )
    (simp append_assoc))))
