use Rattle.std.proofs.Common.{◌≡◌, ◌∙◌, ℕ, List, rules, sym, subst}
use Rattle.std.proofs.lemmas.Bool.{false≢true}
use Rattle.rpki_cert.specs.Certificates.{CertFields, IsCertificate}
use Rattle.rpki_der.specs.Place.{Rejects}
use Rattle.rpki_ext.specs.Kinds.{Means}
use Rattle.rpki_issuing.proofs.CertifiedKeys.{certified, uncertified}
use Rattle.rpki_issuing.proofs.wanted.rules.certifies.Goals as goal

pub returns-in-Ok : goal.returns-in-Ok
returns-in-Ok c =
    let same : c.in_ok-clone.field-0 ≡ c.args.octets.now = search rules in
    certified c.args.key.now c.unambiguous.ensures.certificate c.in-Ok.cert c.args.octets.now c.has_key-is_own.result
    (subst (λ (o : List ℕ). Means IsCertificate c.in-Ok.cert o) same c.in-Ok.ensures) c.has_key-is_own.ensures

pub returns-else-is_memory : goal.returns-else-is_memory
returns-else-is_memory c =
    let same : c.in_ok-clone.field-0 ≡ c.args.octets.now = search rules in
    uncertified c.args.key.now c.in-Err.error
    (λ is. false≢true (sym c.if-is_memory.false ∙ c.is_memory-is_memory.ensures.1 is)) c.args.octets.now
    (subst (λ (o : List ℕ). Rejects c.in-Err.error ((d : CertFields) → Means IsCertificate d o → ⊥)) same
    c.in-Err.ensures)
