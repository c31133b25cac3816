use Rattle.std.proofs.Common.{ℕ, List, refl, sym, subst}
use Rattle.rpki_cert.specs.SaidKinds.{BeginsWithSaid}
use Rattle.rpki_files.specs.Files.{contents}
use Rattle.rpki_folder.specs.Folders.{HasSubjectKey}
use Rattle.rpki_folder.proofs.IssuersAmong.{of_others}
use Rattle.rpki_verdicts.specs.TreeParts.{files_of}
use Rattle.rpki_verdicts.specs.UnseenCertificates.{status}
use Rattle.rpki_verdicts.proofs.FilesAt.{begins_none, octets_there}
use Rattle.rpki_verdicts.proofs.issuers.add_issuer.Goals as goal

pub returns : goal.returns
returns c = λ among.
    let files = files_of c.args.trees.now in
    let there = octets_there files c.args.place c.args.file.now c.requires in
    c.in_ok-add.ensures (contents files) (status c.args.trees.now)
    (subst (λ (o : List ℕ). BeginsWithSaid c.in-Certificate.said o) (sym there) c.in-Certificate.ensures.0) (sym c.status.ensures) among

pub returns-in_default : goal.returns-in_default
returns-in_default c = λ among key.
    let files = files_of c.args.trees.now in
    let there = octets_there files c.args.place c.args.file.now c.requires in
    of_others (contents files) (status c.args.trees.now) c.args.place key _
    (λ h.
    let is = subst (λ (o : List ℕ). HasSubjectKey key o) there h in
    begins_none c.args.file.now.octets c.front.result c.front.ensures c.in_default.not-Certificate (is.cert, is.begins))
    (among key)
