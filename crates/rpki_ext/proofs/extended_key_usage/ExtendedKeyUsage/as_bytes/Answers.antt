use Rattle.rpki_ext.proofs.CertificateExtensions.{kept_purposes}
use Rattle.rpki_ext.proofs.extended_key_usage.ExtendedKeyUsage.as_bytes.Goals as goal

pub returns-clause-purposes : goal.returns-clause-purposes
returns-clause-purposes c = rw (← c.self.view_is) (kept_purposes _ c.cursor-octets.ensures.octets c.self.invariant)
