use Rattle.std.specs.Prelude.{Contains}
use Rattle.std.proofs.Common.{ℕ, take}
use Rattle.rpki_cert.specs.Certificates.{CertFields}
use Rattle.rpki_path.specs.Repeats.{AreOneEntity}
use Rattle.rpki_folder.specs.Walks.{StandsAt}
use Rattle.rpki_folder.proofs.walk.Walk.is_one_of.Given as goal

abbrev pub invariant-loop-place : goal.invariant-loop-place
invariant-loop-place g l = (p : ℕ) → Contains (take l.place-index l.places) p → (d : CertFields) →
    StandsAt l.self.folder.now.certs p d → AreOneEntity l.self.names d l.cert → ⊥
