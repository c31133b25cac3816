use Rattle.std.proofs.Common.{◌≢◌, List, ℕ, sym, subst, ◌∙◌}
use Rattle.std.proofs.lemmas.Bool.{false≢true}
use Rattle.rpki_der.specs.declared.error.DecodeError.TheVariants.{Memory}
use Rattle.rpki_ext.specs.Kinds.{Means}
use Rattle.rpki_cert.specs.Certificates.{CertFields, IsCertificate}
use Rattle.rpki_folder.proofs.FolderSteps.{rejected}
use Rattle.rpki_folder.proofs.filed.Filed.cert.Goals as goal

-- octets that begin with a certificate aren't rejected
pub unreachable-requires : goal.unreachable-requires
unreachable-requires c =
    let begins = c.self.invariant in
    let apart : c.in-Err.fault ≢ Memory = λ is. false≢true (sym c.if-not-is_memory.true ∙ c.is_memory.ensures.1 is) in
    let none = subst (λ (o : List ℕ). (d : CertFields) → Means IsCertificate d o → ⊥) c.in_ok-clone.ensures.cases
    (rejected ((d : CertFields) → Means IsCertificate d c.in_ok-clone.field-0 → ⊥) c.in-Err.fault c.in-Err.ensures
    apart) in
    none begins.0 begins.1
