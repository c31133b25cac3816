use Rattle.std.proofs.Common.{take}
use Rattle.rpki_folder.specs.FirstPlaces.{AreFirstsIn}
use Rattle.rpki_folder.proofs.firsts.Firsts.of.Given as goal

abbrev pub invariant-loop-file : goal.invariant-loop-file
invariant-loop-file l = AreFirstsIn (take l.file-index l.folder.certs) l.firsts
