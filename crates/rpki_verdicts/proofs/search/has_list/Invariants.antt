use Rattle.std.proofs.Common.{◌<◌, ℕ, slice_index_or}
use Rattle.rpki_files.specs.Contents.{IsList}
use Rattle.rpki_files.specs.Files.{FileFields}
use Rattle.rpki_verdicts.proofs.search.has_list.Given as goal

-- none of those so far is a list
abbrev pub invariant-loop-file : goal.invariant-loop-file
invariant-loop-file l = (k : ℕ) (d : FileFields) → k < l.file-index → IsList (slice_index_or l.files k d).octets → ⊥
