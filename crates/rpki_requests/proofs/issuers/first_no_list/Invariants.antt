use Rattle.std.specs.Prelude.{All}
use Rattle.std.proofs.Common.{take}
use Rattle.rpki_files.specs.Contents.{IsList}
use Rattle.rpki_files.specs.Files.{contents}
use Rattle.rpki_requests.proofs.issuers.first_no_list.Given as goal

-- the files so far are lists
abbrev pub invariant-loop-place : goal.invariant-loop-place
invariant-loop-place l = All IsList (take l.place (contents l.lists))
