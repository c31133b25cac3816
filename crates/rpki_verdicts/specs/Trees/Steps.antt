-- What the steps give by which a tree is grown.
use Rattle.std.specs.Prelude.{◌≡◌, List, Some, slice_get}
use Rattle.rpki_files.specs.Files.{FileFields}
use Rattle.rpki_folder.specs.declared.anchors.WrongCandidate.{WrongCandidate}
use Rattle.rpki_verdicts.specs.Trees.{IsAnchorReason}
use Rattle.rpki_verdicts.specs.declared.unordered.WrongAnchor.{WrongAnchor}

-- what is told of a candidate: its place, the file there, and what is wrong with that
pub record IsCandidateTold (certs : List FileFields) (candidate : WrongCandidate) (w : WrongAnchor)
    : Type 0 where
  pub place_is : w.place ≡ candidate.place
  pub stands : slice_get certs candidate.place ≡ Some w.file.now
  pub reason_is : IsAnchorReason w.file.now.octets candidate.error w.fault
