use Rattle.std.specs.List.{AllZip}
use Rattle.std.proofs.Common.{List, take}
use Rattle.rpki_files.specs.Files.{FileFields}
use Rattle.rpki_verdicts.specs.ShownPaths.{AreNamedFiles, IsNamedIn}
use Rattle.rpki_verdicts.proofs.named_paths.names_of.Given as goal

-- those of the files so far
abbrev pub invariant-loop-file : goal.invariant-loop-file
invariant-loop-file l = (all : List FileFields) → AreNamedFiles all l.files →
    AllZip (λ file named. IsNamedIn all file.now.octets named) (take l.file-index l.certs) l.names.items
