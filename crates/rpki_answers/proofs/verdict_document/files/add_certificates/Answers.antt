use Rattle.rpki_document.proofs.Built.{none_added}
use Rattle.std.proofs.Common.{◌<◌, ◌≤◌, [], arith, length, refl}
use Rattle.rpki_answers.specs.Verdicts.{AreCertificates}
use Rattle.rpki_answers.proofs.AddedNodes.{certificate_added, certificates_added}
use Rattle.rpki_answers.proofs.verdict_document.files.add_certificates.Goals as goal

pub loop-index-init : goal.loop-index-init
loop-index-init c = none_added (AreCertificates c.args.strict 0 []) c.args.parts.now.items refl

pub loop-index-preserved : goal.loop-index-preserved
loop-index-preserved c =
    let l = c.loop-index in
    let low : l.index < length c.args.members.now = omega arith in
    certificate_added c.args.strict c.args.members.now l.index c.index-members-index.result c.args.parts.now.items
    l.parts.items c.add_certificate.new.parts.items low c.index-members-index.is l.invariant c.in_ok-add_certificate.ensures

pub returns : goal.returns
returns c =
    let l = c.loop-index in
    let high : length c.args.members.now ≤ l.index = omega arith in
    certificates_added c.args.strict c.args.members.now l.index c.args.parts.now.items l.parts.items high l.invariant
