-- What the command answers of the files of a path.
use Rattle.std.specs.Prelude.{◌≡◌, ◌≢◌, ◌↔◌, ◌⊎◌, ◌+◌, ◌<◌, ℕ, Bool, IsTrue, List, [], ◌∷◌, length, Option, Some, None, slice_get}
use Rattle.rpki_path.specs.Asking.{RevocationChecks, nobody}
use Rattle.rpki_path.specs.AskedLists.{by_named_lists}
use Rattle.rpki_path.specs.GivenPaths.{PathStrings}
use Rattle.rpki_path.specs.declared.judging.Judged.{Judged}
use Rattle.rpki_path.specs.Judging.{IsAcceptedWith, IsFaultOf, last_key}
use Rattle.rpki_keys.specs.KeyForms.{IsUsableKey}
use Rattle.rpki_crl.specs.Lists.{CrlState}
use Rattle.rpki_keys.specs.LocatorFaults.{IsTalFault}
use Rattle.rpki_path.specs.declared.path_fault.PathError.{PathError}
use Rattle.rpki_path.specs.declared.path_fault.PathFault.{PathFault}
use Rattle.rpki_path.specs.declared.path_fault.PathFault.TheVariants.{Memory}
use Rattle.rpki_blocks.specs.Sets.{Has}
use Rattle.rpki_keys.specs.declared.tal.tal_error.TalError.{TalError}
use Rattle.rpki_cert.specs.Verification.{Context, ResourceFields}
use Rattle.rpki_path.specs.LocatedPaths.{BeginsWithNoNumber}
use Rattle.rpki_path.specs.NameChains.{BeginChained, IsUnchained, strings_below}
use Rattle.rpki_files.specs.Contents.{BeginsWithCertificate}
use Rattle.rpki_files.specs.FaultRules.{rule_of}
use Rattle.rpki_verdicts.specs.Reasons.{ReasonFields, reason, IsPathReason, key_reason, locator_reason, name_reason}
use Rattle.rpki_verdicts.specs.Reasons.{resources_reason, tal_reason}
use Rattle.rpki_files.specs.LocatorFiles.{AreLocator}
use Rattle.rpki_verdicts.specs.GivenLocators.{HasNumbersIf, IsLocated}
use Rattle.rpki_verdicts.specs.PathFiles.{Demands, IsGivenBy, AreListsOf}
use Rattle.rpki_verdicts.specs.declared.path.Fault.{Fault}
use Rattle.rpki_verdicts.specs.declared.path.Verdict.{Verdict}
use Rattle.rpki_verdicts.specs.declared.path.Verdict.TheVariants.{Accepted, Rejected}
pub mod Steps

-- ---- a path that is accepted

-- where it is asked for, each issuer is the subject above, and that of the trust anchor its own
abbrev pub AreChained : Bool → PathStrings → Type 0
AreChained names g = IsTrue names → BeginChained g.anchor (strings_below g)

-- the trust anchor is that of a locator (RFC 8630 3), and lists a number if one is given (RFC 8630
-- 2.3); the path is valid, with what its last member holds; names chain (RFC 6487 7.2); and the last
-- key is one that the RPKI uses (RFC 7935 3, RFC 8608 3.1), as those above it are by the signatures
-- that they verify
pub record IsUsablePath (x : Context) (asked : RevocationChecks) (d : Demands)
    (g : PathStrings) (j : Judged) : Type 0 where
  pub located : IsLocated x.strict d.locators g.anchor
  pub numbers : HasNumbersIf d.locators g.anchor
  pub accepted : IsAcceptedWith x asked g j
  pub chained : AreChained d.names g
  pub usable : IsUsableKey (last_key j)

-- there is no answer of which that is so
abbrev pub IsNotUsable : Context → RevocationChecks → Demands → PathStrings → Type 0
IsNotUsable x asked d g = (j : Judged) → IsUsablePath x asked d g j → ⊥

-- ---- why a path is rejected

-- the step, the name and the rule of a fault
abbrev pub reason_of : Fault → ReasonFields
reason_of fault = reason fault.step.now fault.name.now (rule_of fault.rule)

-- those of the error, of the octets of the file at the fault's place
pub record IsReasonAt (files : List (List ℕ)) (error : PathFault) (fault : Fault) : Type 0 where
  pub octets : List ℕ
  pub octets_are : slice_get files fault.index ≡ Some octets
  pub reason_is : IsPathReason error octets (reason_of fault)

-- the file at the fault's place is the first that is no locator, and why
pub record IsNoLocator (strict : Bool) (files : List (List ℕ)) (fault : Fault) : Type 0 where
  pub octets : List ℕ
  pub octets_are : slice_get files fault.index ≡ Some octets
  pub no_locator : AreLocator strict octets → ⊥
  pub earlier : (k : ℕ) (before : List ℕ) → k < fault.index → slice_get files k ≡ Some before → AreLocator strict before
  pub error : TalError
  pub error_is : IsTalFault strict error octets
  pub reason_is : reason_of fault ≡ tal_reason error

-- the trust anchor's octets begin with a certificate, whose key no locator has that is given
pub record HasOtherKey (x : Context) (d : Demands) (g : PathStrings) (fault : Fault) : Type 0 where
  pub begins : BeginsWithCertificate g.anchor
  pub other : IsLocated x.strict d.locators g.anchor → ⊥
  pub place_is : fault.index ≡ 0
  pub reason_is : reason_of fault ≡ locator_reason

-- a locator is given, and the trust anchor's octets begin with a certificate that lists no number
pub record HasNoNumbers (d : Demands) (g : PathStrings) (fault : Fault) : Type 0 where
  pub given : d.locators ≢ []
  pub begins : BeginsWithNoNumber g.anchor
  pub place_is : fault.index ≡ 0
  pub reason_is : reason_of fault ≡ resources_reason

-- the member at the fault's place is wrong, for its reason, and those above it are a valid path
pub record IsWrong (x : Context) (asked : RevocationChecks) (files : List (List ℕ))
    (g : PathStrings) (fault : Fault) : Type 0 where
  pub error : PathError
  pub place_is : error.index ≡ fault.index
  pub no_memory : error.fault ≢ Memory
  pub fault_is : IsFaultOf x asked g error
  pub reason_is : IsReasonAt files error.fault fault

-- names have to chain, and those of the member at the fault's place, the first such, don't
pub record IsOtherName (g : PathStrings) (names : Bool) (fault : Fault) : Type 0 where
  pub names_asked : IsTrue names
  pub unchained : IsUnchained g.anchor (strings_below g) fault.index
  pub reason_is : reason_of fault ≡ name_reason fault.index

-- the path is valid, but its names don't chain
pub record HasUnchainedNames (x : Context) (asked : RevocationChecks) (d : Demands)
    (g : PathStrings) (fault : Fault) : Type 0 where
  pub judged : Judged
  pub accepted : IsAcceptedWith x asked g judged
  pub other : IsOtherName g d.names fault

-- the path is valid, and names chain, but the key of its last member can't be used
pub record EndsInBadKey (x : Context) (asked : RevocationChecks) (d : Demands)
    (files : List (List ℕ)) (g : PathStrings) (fault : Fault) : Type 0 where
  pub judged : Judged
  pub accepted : IsAcceptedWith x asked g judged
  pub chained : AreChained d.names g
  pub unusable : IsUsableKey (last_key judged) → ⊥
  pub place_is : fault.index + 1 ≡ length files
  pub reason_is : reason_of fault ≡ key_reason (last_key judged).format

-- ---- the verdict

-- why it is rejected, in the order in which it is asked: of the trust anchor's locator and numbers,
-- of the path, of names, and of the last key; what is asked before the fault holds
abbrev pub IsFaultIn : Context → RevocationChecks → Demands → List (List ℕ) → PathStrings
    → Fault → Type 0
IsFaultIn x asked d files g fault =
    (HasOtherKey x d g fault ⊎ HasNoNumbers d g fault)
    ⊎ (IsWrong x asked files g fault
    ⊎ (HasUnchainedNames x asked d g fault ⊎ EndsInBadKey x asked d files g fault))

-- the verdict on the path of these files: what its last member holds, or where and why it is wrong
abbrev pub IsVerdictOn : Context → RevocationChecks → Demands → List (List ℕ) → PathStrings
    → Verdict → Type 0
IsVerdictOn x asked d files g (Accepted j) = IsUsablePath x asked d g j
IsVerdictOn x asked d files g (Rejected fault) =
    IsNotUsable x asked d g × IsFaultIn x asked d files g fault

-- the verdict on the path that the files are
abbrev pub IsPathVerdict : Context → RevocationChecks → Demands → List (List ℕ) → Verdict → Type 0
IsPathVerdict x asked d files verdict =
    (g : PathStrings) × IsGivenBy files g × IsVerdictOn x asked d files g verdict

-- the verdict on the path that the files are, by the files that were given as lists: where none
-- was, nobody is asked for revocation
abbrev pub IsVerdictBy : Context → Demands → List (List ℕ) → List (List ℕ) → Verdict → Type 0
IsVerdictBy x d files [] verdict = IsPathVerdict x nobody d files verdict
IsVerdictBy x d files (list ∷ lists) verdict =
    (read : List CrlState) × AreListsOf (list ∷ lists) read
    × IsPathVerdict x (by_named_lists d.names x read) d files verdict

-- ---- one acceptance

-- both have one certificate, and hold the same numbers
pub record HoldSame (r s : ResourceFields) : Type 0 where
  pub cert_is : r.cert ≡ s.cert
  pub v4_same : (n : ℕ) → Has r.v4 n ↔ Has s.v4 n
  pub v6_same : (n : ℕ) → Has r.v6 n ↔ Has s.v6 n
  pub as_same : (n : ℕ) → Has r.as_numbers n ↔ Has s.as_numbers n

-- both are of the same members
abbrev pub AreSame : Judged → Judged → Type 0
AreSame j i = HoldSame j.holder i.holder × (j.router ≡ i.router)

-- the path is accepted
abbrev pub IsAcceptance : Option Verdict → Type 0
IsAcceptance (Some (Accepted j)) = Unit {0}
IsAcceptance _ = ⊥
