use Rattle.std.proofs.Common.{refl}
use Rattle.rpki_folder.specs.Folders.{string_at}
use Rattle.rpki_c.specs.FolderFates.{cert_status, moved, origin_of, seen}
use Rattle.rpki_c.proofs.folder_lines.WalkLines.unseen.Goals as goal

pub returns : goal.returns
returns c =
    let w = c.args.self.now in
    let certs = w.sorted.now.folder.certs in
    let why = c.why_unseen-why.result in (
      moved (origin_of w.sorted.now) why,
      (
        why,
        c.why_unseen-why.ensures certs (cert_status (seen w)) (string_at certs c.args.at) c.said.ensures
            c.requires.issuers,
        refl,
      ),
      c.unseen.ensures,
    )
