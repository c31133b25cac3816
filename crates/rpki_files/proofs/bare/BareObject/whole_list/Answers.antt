use Rattle.std.proofs.Common.{subst}
use Rattle.rpki_files.specs.Contents.{IsContent}
use Rattle.rpki_files.specs.Files.{FileFields}
use Rattle.rpki_files.proofs.bare.BareObject.whole_list.Goals as goal

pub returns : goal.returns
returns c =
    c.into_whole_list.ensures c.args.self.now.octets
    (subst (λ (file : FileFields). IsContent file.octets c.in_ok-content.content) c.self.view_is
    c.in_ok-content.ensures)
