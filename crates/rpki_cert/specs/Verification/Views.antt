-- What contracts see of a certificate that was verified.
use Rattle.std.specs.Prelude.{ℕ, if◌then◌else◌, List}
use Rattle.rpki_blocks.specs.Sets.{Block}
use Rattle.rpki_blocks.specs.Resources.{Resources, missing, inherit, blocks}
use Rattle.rpki_cert.specs.Certificates.{CertFields}
use Rattle.rpki_cert.specs.Verification.{ResourceFields}
use Rattle.rpki_cert.specs.declared.resolved.Resolved.{Resolved}
use Rattle.rpki_cert.specs.declared.resource_cert.Sets.{Sets}

-- the set that is listed, or this one where none is
abbrev pub listed_or : List Block → Resources → List Block
listed_or own missing = own
listed_or own inherit = own
listed_or own (blocks set) = set

-- the numbers of one kind: those that the certificate lists, or those of a set of its own
abbrev pub set_of : {B : Type 0} → Resolved B → Resources → List Block
set_of r listed = if r.is_listed then listed_or r.own listed else r.own

-- a certificate, the sets that are kept beside it, and the name of its trust anchor locator
abbrev pub resource_fields : CertFields → Sets → List ℕ → ResourceFields
resource_fields c sets tal = record {
  cert = c;
  v4 = set_of sets.v4 c.fields.extensions.v4_resources;
  v6 = set_of sets.v6 c.fields.extensions.v6_resources;
  as_numbers = set_of sets.as_numbers c.fields.extensions.as_resources;
  tal = tal;
}
