use Rattle.std.specs.Prelude.{None}
use Rattle.std.proofs.Common.{ℕ, List, length, refl, sym, subst}
use Rattle.std.proofs.lemmas.List.{length-map}
use Rattle.rpki_files.specs.Files.{FileFields, contents}
use Rattle.rpki_folder.specs.UnseenCertificates.{AreIssuersAmong}
use Rattle.rpki_verdicts.proofs.FilesAt.{begins_none}
use Rattle.rpki_verdicts.specs.TreeParts.{files_of}
use Rattle.rpki_verdicts.specs.UnseenCertificates.{status}
use Rattle.rpki_verdicts.proofs.parts.Trees.unseen.Goals as goal

pub returns : goal.returns
returns c =
    let trees = c.args.self.now in
    let files = files_of trees in
    c.why_unseen.ensures (contents files) (status trees) c.args.file.now.octets c.in-Certificate.ensures.0
    (subst (λ (n : ℕ). AreIssuersAmong (contents files) (status trees) n c.args.issuers.now.by_key)
    (sym (length-map files (λ (f : FileFields). f.octets))) c.requires.by_key)

pub returns-in_default : goal.returns-in_default
returns-in_default c = (
  None,
  (λ key names. absurd
      (begins_none c.args.file.now.octets c.front.result c.front.ensures c.in_default.not-Certificate
      (names.cert, names.begins))),
  refl,
)
