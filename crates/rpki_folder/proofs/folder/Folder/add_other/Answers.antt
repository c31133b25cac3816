use Rattle.std.proofs.Common.{refl}
use Rattle.rpki_crl.specs.Lists.{CrlFields, IsCertificateList}
use Rattle.rpki_folder.proofs.FolderSteps.{rejected}
use Rattle.rpki_folder.proofs.folder.Folder.add_other.Goals as goal

pub returns-in_ok-rejects-in-Err-clause-ok : goal.returns-in_ok-rejects-in-Err-clause-ok
returns-in_ok-rejects-in-Err-clause-ok c = (
  refl,
  c.requires,
  rejected ((l : CrlFields) → IsCertificateList l c.args.octets → ⊥) c.in-Err.fault
      c.in-Err.ensures c.in_ok-rejects-in-Err.ensures,
)
