use Rattle.rpki_files.specs.Files.{FileFields}
use Rattle.rpki_requests.specs.RequestFiles.{IsRevokedFile}
use Rattle.rpki_requests.proofs.PlaceByPlace.{AreOnlySoFar}
use Rattle.rpki_requests.proofs.lists.serials_of.Given as goal

-- of the files so far these are the only ones
abbrev pub invariant-loop-place : goal.invariant-loop-place
invariant-loop-place l = AreOnlySoFar (IsRevokedFile l.issuer) (λ (f : FileFields). f.octets) l.files l.place
    l.serials.items
