use Rattle.std.proofs.Common.{subst}
use Rattle.rpki_files.specs.Contents.{IsFront}
use Rattle.rpki_files.specs.Files.{FileFields}
use Rattle.rpki_files.proofs.bare.BareObject.front.Goals as goal

pub returns : goal.returns
returns c = subst (λ (file : FileFields). IsFront file.octets c.self.inside.front) c.self.view_is c.self.invariant.0
