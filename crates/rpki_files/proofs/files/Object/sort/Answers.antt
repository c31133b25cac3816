use Rattle.std.proofs.Common.{subst}
use Rattle.rpki_files.specs.FileSorts.{IsToldSort}
use Rattle.rpki_files.specs.Files.{FileFields}
use Rattle.rpki_files.proofs.files.Object.sort.Goals as goal

pub returns : goal.returns
returns c = subst (λ (file : FileFields). IsToldSort file.octets c.self.inside.sort) c.self.view_is c.self.invariant.1
