-- What a caller names by a number (own).
use Rattle.std.specs.Prelude.{ℕ, List, [], Option, Some, None}
use Rattle.rpki_blocks.specs.Resources.{Resources, blocks}
use Rattle.rpki_blocks.specs.Sets.{Block}
use Rattle.rpki_ext.specs.CertificateExtensions.{ExtensionFields}
use Rattle.rpki_parts.specs.NameTexts.{name_text}
use Rattle.rpki_cert.specs.Certificates.{TbsFields}
use Rattle.rpki_c.specs.declared.certificates.Family.{Family}
use Rattle.rpki_c.specs.declared.certificates.Family.TheVariants.{V4, V6}
use Rattle.rpki_c.specs.declared.certificates.CertUri.{CertUri}
use Rattle.rpki_c.specs.declared.certificates.CertUri.TheVariants.{CaIssuer, Crl, Repository, Manifest}
use Rattle.rpki_c.specs.declared.certificates.CertUri.TheVariants.{SignedObject, Notify}
use Rattle.rpki_c.specs.declared.certificates.CertName.{CertName}
use Rattle.rpki_c.specs.declared.certificates.CertName.TheVariants.{Issuer, Subject, IssuerText, SubjectText}

-- ---- addresses

abbrev pub family_number : Family → ℕ
family_number V4 = 4
family_number V6 = 6

abbrev pub family_field : Family → ExtensionFields → Resources
family_field V4 x = x.v4_resources
family_field V6 x = x.v6_resources

-- the blocks that are listed; what is inherited or missing lists none
abbrev pub listed_blocks : Resources → List Block
listed_blocks (blocks bs) = bs
listed_blocks _ = []

-- ---- URIs

abbrev pub uri_number : CertUri → ℕ
uri_number CaIssuer = 0
uri_number Crl = 1
uri_number Repository = 2
uri_number Manifest = 3
uri_number SignedObject = 4
uri_number Notify = 5

abbrev pub uri_field : CertUri → ExtensionFields → Option (List ℕ)
uri_field CaIssuer x = x.ca_issuer
uri_field Crl x = x.crl_uri
uri_field Repository x = x.access.ca_repository
uri_field Manifest x = x.access.rpki_manifest
uri_field SignedObject x = x.access.signed_object
uri_field Notify x = x.access.rpki_notify

-- the octets of a URI, and none where there isn't one
abbrev pub octets_if_any : Option (List ℕ) → List ℕ
octets_if_any None = []
octets_if_any (Some uri) = uri

-- ---- names

abbrev pub name_number : CertName → ℕ
name_number Issuer = 0
name_number Subject = 1
name_number IssuerText = 2
name_number SubjectText = 3

-- the name in DER, or its text (RFC 4514, but in the order of the name)
abbrev pub name_field : CertName → TbsFields → List ℕ
name_field Issuer f = f.issuer
name_field Subject f = f.subject
name_field IssuerText f = name_text f.issuer
name_field SubjectText f = name_text f.subject
