use Rattle.std.proofs.Common.{subst}
use Rattle.rpki_files.specs.Contents.{IsContent}
use Rattle.rpki_files.specs.Files.{FileFields}
use Rattle.rpki_files.proofs.files.Object.content.Goals as goal

pub returns : goal.returns
returns c = subst (λ (file : FileFields). IsContent file.octets c.self.inside.content) c.self.view_is c.self.invariant.0
