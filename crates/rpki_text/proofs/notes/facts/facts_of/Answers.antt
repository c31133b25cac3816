use Rattle.std.specs.Prelude.{ℕ, List}
use Rattle.rpki_cert.specs.Certificates.{CertFields, IsCertificate}
use Rattle.rpki_der.specs.Encoding.{Means}
use Rattle.rpki_text.proofs.notes.facts.facts_of.Goals as goal

never : (octets : List ℕ) → ((c : CertFields) → Means IsCertificate c octets → ⊥) → (c : CertFields) → Means IsCertificate c octets → ⊥
never octets none = none

pub returns-in-None : goal.returns-in-None
returns-in-None c cert m = absurd (never c.args.object.now.octets (rw c.in-None.is at c.certificate.ensures) cert m)
