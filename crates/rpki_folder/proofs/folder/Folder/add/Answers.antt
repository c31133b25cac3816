use Rattle.std.proofs.Common.{ℕ, List, subst}
use Rattle.rpki_ext.specs.Kinds.{Means}
use Rattle.rpki_cert.specs.Certificates.{CertFields, IsCertificate}
use Rattle.rpki_folder.proofs.FolderSteps.{rejected}
use Rattle.rpki_folder.proofs.folder.Folder.add.Goals as goal

pub add_other-requires : goal.add_other-requires
add_other-requires c =
    subst (λ (o : List ℕ). (d : CertFields) → Means IsCertificate d o → ⊥) c.in_ok-clone.ensures.cases
    (rejected ((d : CertFields) → Means IsCertificate d c.in_ok-clone.field-0 → ⊥) c.in-Err.fault c.in-Err.ensures
    c.in_ok-rejects-in-Err.ensures)
