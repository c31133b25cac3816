-- Why a path is rejected: the step at which a fault comes, its name, and what it means (own).
use Rattle.std.specs.Prelude.{◌≡◌, ℕ, List, codes}
use Rattle.rpki_der.specs.ErrorNames.{decode_error_name}
use Rattle.rpki_path.specs.FaultNames.{path_fault_name}
use Rattle.rpki_ext.specs.Inspection.{inspection_error_name}
use Rattle.rpki_path.specs.declared.path_fault.PathFault.{PathFault}
use Rattle.rpki_path.specs.declared.path_fault.PathFault.TheVariants as path
use Rattle.rpki_parts.specs.declared.key.PublicKeyFormat.{PublicKeyFormat}
use Rattle.rpki_crl.specs.Revocation.{revocation_error_name}
use Rattle.rpki_keys.specs.declared.tal.tal_error.TalError.{TalError}
use Rattle.rpki_keys.specs.TalErrors.{tal_error_name}
use Rattle.rpki_cert.specs.Verification.{verification_error_name}
use Rattle.rpki_files.specs.FaultRules.{RuleFields, IsProfileRule, IsReadingRule, key_rule, name_rule, no_memory}
use Rattle.rpki_files.specs.FaultRules.{no_resources, other_key, revocation_rule, tal_rule, verification_rule}

-- the step at which a fault comes, its name, and its rule
pub record ReasonFields : Type 0 where
  pub step : List ℕ
  pub name : List ℕ
  pub rule : RuleFields

-- of these
abbrev pub reason : List ℕ → List ℕ → RuleFields → ReasonFields
reason step name its_rule = record { step = step; name = name; rule = its_rule }

-- of a fault of the member with these octets
abbrev pub IsPathReason : PathFault → List ℕ → ReasonFields → Type 0
IsPathReason (path.Decode e) octets r =
    (its_rule : RuleFields) × IsReadingRule e octets its_rule
    × (r ≡ reason (codes "reading") (decode_error_name e) its_rule)
IsPathReason (path.Inspect e) octets r =
    (its_rule : RuleFields) × IsProfileRule e octets its_rule
    × (r ≡ reason (codes "profile") (inspection_error_name e) its_rule)
IsPathReason (path.Verify e) octets r = r ≡ reason (codes "verification") (verification_error_name e) (verification_rule e)
IsPathReason (path.Revocation e) octets r = r ≡ reason (codes "revocation") (revocation_error_name e) (revocation_rule e)
IsPathReason path.Memory octets r = r ≡ reason (codes "memory") (path_fault_name path.Memory) no_memory

-- the name that it has
abbrev pub error_name : PathFault → List ℕ
error_name (path.Decode e) = decode_error_name e
error_name (path.Inspect e) = inspection_error_name e
error_name (path.Verify e) = verification_error_name e
error_name (path.Revocation e) = revocation_error_name e
error_name path.Memory = path_fault_name path.Memory

-- of a trust anchor whose key no locator has that is given
abbrev pub locator_reason : ReasonFields
locator_reason = reason (codes "tal") (codes "OtherKey") other_key

-- of a trust anchor that has a locator's key, and lists no number
abbrev pub resources_reason : ReasonFields
resources_reason = reason (codes "tal") (codes "NoResources") no_resources

-- of a file that is given as a locator, and is none
abbrev pub tal_reason : TalError → ReasonFields
tal_reason e = reason (codes "tal") (tal_error_name e) (tal_rule e)

-- of the member at this place, where the path is valid but its names don't chain
abbrev pub name_reason : ℕ → ReasonFields
name_reason place = reason (codes "names") (codes "OtherName") (name_rule place)

-- of the last member's key, where the path is valid but that key can't be used
abbrev pub key_reason : PublicKeyFormat → ReasonFields
key_reason format = reason (codes "key") (codes "BadKey") (key_rule format)
