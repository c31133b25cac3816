use Rattle.std.proofs.Common.{◌≡◌, take}
use Rattle.rpki_files.specs.Files.{contents}
use Rattle.rpki_requests.proofs.fulfilling.octets_of.Given as goal

abbrev pub invariant-loop-file : goal.invariant-loop-file
invariant-loop-file l = l.all.items ≡ take l.file-index (contents l.files)
