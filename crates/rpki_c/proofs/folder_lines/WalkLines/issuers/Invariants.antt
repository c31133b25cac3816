use Rattle.rpki_folder.specs.UnseenCertificates.{AreIssuersAmong}
use Rattle.rpki_c.specs.FolderFates.{cert_status, seen}
use Rattle.rpki_c.proofs.folder_lines.WalkLines.issuers.Given as goal

-- those so far
abbrev pub invariant-loop-at : goal.invariant-loop-at
invariant-loop-at l = AreIssuersAmong l.self.sorted.now.folder.certs (cert_status (seen l.self)) l.at l.issuers
