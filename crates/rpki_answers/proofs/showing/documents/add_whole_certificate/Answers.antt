use Rattle.std.proofs.Common.{[], ◌∷◌, ◌++◌, refl}
use Rattle.std.proofs.lemmas.Result.{IfOk-weaker}
use Rattle.rpki_document.proofs.Built.{then_added}
use Rattle.rpki_answers.specs.ShownFiles.{behind_nodes}
use Rattle.rpki_answers.specs.ToldValues.{signature_line}
use Rattle.rpki_answers.proofs.showing.documents.add_whole_certificate.Goals as goal

pub add_certificate-requires : goal.add_certificate-requires
add_certificate-requires c = (c.requires.0, c.requires.1)

pub returns : goal.returns
returns c =
    let its = c.in_ok-add_certificate.ensures in
    let shown = c.add_certificate.new.parts.items in
    let signed = c.add_signature.new.parts.items in
    let new = c.add_behind.new.parts.items in
    let behind = behind_nodes c.args.left in
    IfOk-weaker c.add_behind.result _ _ (λ _ last. (
      its.0 ++ signature_line ∷ behind,
      (its.0, its.1, refl),
      then_added c.args.parts.now.items shown new its.0 (signature_line ∷ behind) its.2
          (then_added shown signed new (signature_line ∷ []) behind c.in_ok-add_signature.ensures last),
    )) c.add_behind.ensures
