use Rattle.rpki_files.specs.Files.{contents}
use Rattle.rpki_folder.specs.UnseenCertificates.{AreIssuersAmong}
use Rattle.rpki_verdicts.specs.TreeParts.{files_of}
use Rattle.rpki_verdicts.specs.UnseenCertificates.{status}
use Rattle.rpki_verdicts.proofs.issuers.issuers_of.Given as goal

-- those so far
abbrev pub invariant-loop-place : goal.invariant-loop-place
invariant-loop-place l = AreIssuersAmong (contents (files_of l.trees)) (status l.trees) l.place l.by_key
