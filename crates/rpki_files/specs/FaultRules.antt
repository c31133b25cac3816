-- What each fault means, and the section of the standard that it breaks: what its line says, and
-- what is said of one that has several meanings.
use Prim.Native.String.{String}
use Rattle.std.specs.Prelude.{◌≡◌, ◌↔◌, ◌==◌, ℕ, List, Bool, true, false, if◌then◌else◌, IsTrue, codes}
use Rattle.rpki_der.specs.declared.error.DecodeError.{DecodeError}
use Rattle.rpki_der.specs.declared.error.DecodeError.TheVariants as decoding
use Rattle.rpki_der.specs.declared.error.Field.{Field}
use Rattle.rpki_der.specs.declared.error.Field.TheVariants.{AsResources, IpResources}
use Rattle.rpki_ext.specs.declared.inspection.InspectionError.{InspectionError}
use Rattle.rpki_ext.specs.declared.inspection.InspectionError.TheVariants as inspection
use Rattle.rpki_parts.specs.declared.key.PublicKeyFormat.{PublicKeyFormat}
use Rattle.rpki_parts.specs.declared.key.PublicKeyFormat.TheVariants.{Rsa, EcdsaP256}
use Rattle.rpki_crl.specs.declared.revocation_error.RevocationError.{RevocationError}
use Rattle.rpki_keys.specs.declared.tal.tal_error.TalError.{TalError}
use Rattle.rpki_cert.specs.declared.verification_error.VerificationError.{VerificationError}
use Rattle.rpki_files.specs.FaultTable.{FaultFields, field_number, inspection_fault, locator_fault, part_numbered}
use Rattle.rpki_files.specs.FaultTable.{reading_fault, revocation_fault, fault_named, section_in, verification_fault}
use Rattle.rpki_files.specs.declared.faults.FaultKind.TheVariants as kind
use Rattle.rpki_files.specs.PolicyPresence.{HasPolicies, HasPurposes}
use Rattle.rpki_files.specs.declared.rules.Rule.{Rule}

-- a sentence, and the section that asks it
pub record RuleFields : Type 0 where
  pub says : List ℕ
  pub section : List ℕ

-- this sentence and this section
abbrev pub rule : String → String → RuleFields
rule says section = record { says = codes says; section = codes section }

-- what a contract sees of a rule
abbrev pub rule_of : Rule → RuleFields
rule_of r = record { says = r.says.now; section = r.section.now }

-- what a fault's line says
abbrev pub fault_rule : FaultFields → RuleFields
fault_rule it = record { says = it.says; section = it.section }

-- where memory ran out
abbrev pub no_memory : RuleFields
no_memory = fault_rule (fault_named kind.General (codes "Memory"))

-- ---- faults of certificates

-- of one of any kind, of a CA, an end entity or a router
abbrev pub inspection_rule : InspectionError → RuleFields
inspection_rule e = fault_rule (inspection_fault e)

-- a key of another algorithm, where Extended Key Usage is there: only a router's certificate has it,
-- whose key is on the curve P-256
abbrev pub purposes_rule : RuleFields
purposes_rule =
    rule "it has Extended Key Usage, as only a router's certificate, but no key on the curve P-256"
    "RFC 6487 4.8.5"

-- of one that has Extended Key Usage, or hasn't
abbrev pub profile_rule : InspectionError → Bool → RuleFields
profile_rule inspection.KeyAlgorithm true = purposes_rule
profile_rule e purposes = inspection_rule e

-- of these octets, which begin with a certificate
abbrev pub IsProfileRule : InspectionError → List ℕ → RuleFields → Type 0
IsProfileRule e octets r =
    (purposes : Bool) × (IsTrue purposes ↔ HasPurposes octets) × (r ≡ profile_rule e purposes)

-- of a trust anchor, or below an issuer
abbrev pub verification_rule : VerificationError → RuleFields
verification_rule e = fault_rule (verification_fault e)

-- of the list that is asked
abbrev pub revocation_rule : RevocationError → RuleFields
revocation_rule e = fault_rule (revocation_fault e)

-- ---- a key that can't be used

-- of a last member's key of this algorithm
abbrev pub key_rule : PublicKeyFormat → RuleFields
key_rule Rsa = rule "its key isn't RSA of 2048 bits with the exponent 65537" "RFC 7935 3"
key_rule EcdsaP256 = rule "its key isn't an uncompressed point on the curve P-256"
    "RFC 8608 3.1, own rule"

-- ---- a trust anchor that is no locator's

-- a trust anchor whose key no locator has that is given
abbrev pub other_key : RuleFields
other_key = fault_rule (fault_named kind.Path (codes "OtherKey"))

-- a trust anchor that lists no number
abbrev pub no_resources : RuleFields
no_resources = fault_rule (fault_named kind.Path (codes "NoResources"))

-- of a file that is given as a locator, and is none
abbrev pub tal_rule : TalError → RuleFields
tal_rule e = fault_rule (locator_fault e)

-- ---- names that don't chain

-- of the member at this place; the trust anchor stands at 0
abbrev pub name_rule : ℕ → RuleFields
name_rule place =
    if place == 0 then rule "the trust anchor's issuer isn't its subject" "RFC 8630 2.3"
    else fault_rule (fault_named kind.Path (codes "OtherName"))

-- ---- faults of reading

-- the section of a certificate's extension, and of a list's number
abbrev pub field_section : Field → List ℕ
field_section field = section_in (part_numbered (field_number field))

-- of an extension
abbrev pub field_rule : Field → FaultFields → RuleFields
field_rule field it = record { says = it.says; section = field_section field }

-- resources under identifiers of another policy, where there is no policy, which is the same fault
abbrev pub no_policies : RuleFields
no_policies = rule "Certificate Policies are missing" "RFC 6487 4.8.9"

-- IP or AS resources twice, where their two identifiers count as one extension, which is the same fault
abbrev pub double_resources : RuleFields
double_resources =
    rule "IP or AS resources appear twice, or under both identifiers" "RFC 5280 4.2, own rule"

-- of octets that should begin with a certificate, and have Certificate Policies or don't
abbrev pub reading_rule : DecodeError → Bool → RuleFields
reading_rule (decoding.Missing field) policies =
    field_rule field (reading_fault (decoding.Missing field))
reading_rule (decoding.Critical field) policies =
    field_rule field (reading_fault (decoding.Critical field))
reading_rule (decoding.NotCritical field) policies =
    field_rule field (reading_fault (decoding.NotCritical field))
reading_rule (decoding.WrongResources field) false = no_policies
reading_rule (decoding.Duplicate IpResources) policies = double_resources
reading_rule (decoding.Duplicate AsResources) policies = double_resources
reading_rule e policies = fault_rule (reading_fault e)

-- octets that don't begin with a list
abbrev pub no_list : RuleFields
no_list = rule "it doesn't begin with a CRL of the profile" "RFC 6487 5, own rules"

-- of octets that should begin with a list
abbrev pub list_rule : DecodeError → RuleFields
list_rule (decoding.Missing field) = rule "an extension that must be there is missing" "RFC 6487 5"
list_rule (decoding.Duplicate field) = rule "an extension appears twice" "RFC 5280 4.2"
list_rule (decoding.InvalidExtension oid) = rule "a CRL has no extensions but Authority Key Identifier and CRL Number" "RFC 6487 5"
list_rule decoding.Memory = no_memory
list_rule e = no_list

-- of these octets, which should begin with a certificate
abbrev pub IsReadingRule : DecodeError → List ℕ → RuleFields → Type 0
IsReadingRule e octets r = (policies : Bool) × (IsTrue policies ↔ HasPolicies octets) × (r ≡ reading_rule e policies)

-- of these octets, which look like a list, or don't
abbrev pub IsFileRule : Bool → DecodeError → List ℕ → RuleFields → Type 0
IsFileRule true e octets r = r ≡ list_rule e
IsFileRule false e octets r = IsReadingRule e octets r
