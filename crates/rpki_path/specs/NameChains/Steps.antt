-- What one step down a path tells of names.
use Rattle.std.specs.Prelude.{◌≡◌, ◌⊎◌, ℕ, List}
use Rattle.rpki_ext.specs.Kinds.{Means}
use Rattle.rpki_cert.specs.Certificates.{CertFields, IsCertificate}
use Rattle.rpki_path.specs.Paths.{last, certificate_at, Candidate}
use Rattle.rpki_path.specs.Paths.Steps.{IsUnread}
use Rattle.rpki_path.specs.NameChains.{IsSelfNamed, BeginChained, IsFoundBelow, BeginsTwoNamed}
use Rattle.rpki_path.specs.declared.path_fault.PathFault.TheVariants.{Memory}
use Rattle.rpki_path.specs.declared.names.Stop.{Stop}
use Rattle.rpki_path.specs.declared.names.Stop.TheVariants.{Unchained, Unread}
use Rattle.rpki_path.specs.declared.names.Stopped.{Stopped}

-- the strings begin with a path whose names chain, and this is the subject of its last member
pub record BeginChainedTo (anchor : List ℕ) (below : List Candidate)
    (subject : List ℕ) : Type 0 where
  pub chained : BeginChained anchor below
  pub subject_is : subject ≡ (certificate_at chained.path (last chained.path)).fields.subject

-- the octets begin with a trust anchor of this one name
pub record BeginsSelfNamed (octets subject : List ℕ) : Type 0 where
  pub cert : CertFields
  pub begins : Means IsCertificate cert octets
  pub self_named : IsSelfNamed cert
  pub subject_is : subject ≡ cert.fields.subject

-- the octets begin with a certificate of this subject, whose issuer is the name above
pub record BeginsNamed (above octets subject : List ℕ) : Type 0 where
  pub cert : CertFields
  pub begins : Means IsCertificate cert octets
  pub issuer_is : cert.fields.issuer ≡ above
  pub subject_is : subject ≡ cert.fields.subject

-- why a walk stops at a certificate, below one of this subject
abbrev pub IsNameStop : List ℕ → CertFields → Stop → Type 0
IsNameStop above c Unchained = c.fields.issuer ≡ above → ⊥
IsNameStop above c (Unread fault) = fault ≡ Memory

-- why it stops at a trust anchor
abbrev pub IsStopAtAnchor : List ℕ → Stop → Type 0
IsStopAtAnchor octets Unchained = BeginsTwoNamed octets
IsStopAtAnchor octets (Unread fault) = IsUnread octets fault

-- why it stops at a string, below a certificate of this subject
abbrev pub IsStopBelow : List ℕ → List ℕ → Stop → Type 0
IsStopBelow above octets Unchained =
    (c : CertFields) × Means IsCertificate c octets × (c.fields.issuer ≡ above → ⊥)
IsStopBelow above octets (Unread fault) = IsUnread octets fault

-- where it stops in a path, and why
abbrev pub IsStopped : List ℕ → List Candidate → Stopped → Type 0
IsStopped anchor below s =
    ((s.place ≡ 0) × IsStopAtAnchor anchor s.why)
    ⊎ IsFoundBelow (λ above octets. IsStopBelow above.fields.subject octets s.why) anchor below
    s.place
