-- What the line program says to its input (own).
use Rattle.std.specs.Prelude.{◌≡◌, ℕ, ◌+◌, ◌^◌, ◌≤◌, ◌⊎◌, Bool, Option, Some, None, List, [], ◌∷◌, ◌++◌, length, map}
use Rattle.std.specs.Prelude.{Contains, codes, decimal}
use Rattle.std.specs.List.{concat, AllZip}
use Rattle.std.specs.Io.KnownBytes.{Appends, Consumes, IsAtEnd}
use Rattle.rpki_der.specs.Times.{Moment}
use Rattle.rpki_parts.specs.Signatures.{IsStandInSignature}
use Rattle.rpki_ext.specs.Inspection.{inspection_error_name}
use Rattle.rpki_cert.specs.Verification.{Context, context, verification_error_name}
use Rattle.rpki_crl.specs.RevokedEntries.{Revoked, IsRevoked, IsRevokedCertificates}
use Rattle.rpki_path.specs.Asking.{nobody}
use Rattle.rpki_path.specs.declared.path_fault.PathError.{PathError}
use Rattle.rpki_path.specs.declared.path_fault.PathFault.{PathFault}
use Rattle.rpki_path.specs.declared.path_fault.PathFault.TheVariants.{Decode, Inspect, Verify, Revocation, Memory}
use Rattle.rpki_lines.specs.declared.running.Status.{Status}
use Rattle.rpki_lines.specs.declared.running.Status.TheVariants.{Done, Refused, BadInput}
use Rattle.rpki_path.specs.declared.validating.Leaf.{Leaf}
use Rattle.rpki_lines.specs.InputLines.{InputLine, seeks, at_moment, strictness, anchor, authority, end_entity, IsInputLine}
use Rattle.rpki_path.specs.Paths.{Path, Holds, v4_addresses, v6_addresses, system_numbers, candidates, Candidate}
use Rattle.rpki_path.specs.Paths.{IsPathOf, IsValidPath, IsNoValidPath, IsFault}
use Rattle.rpki_path.specs.Paths as paths
use Rattle.rpki_lines.specs.PrintedSets.{v4_end, v6_end, IsSetLine}
use Rattle.rpki_lines.specs.TextLines.{line_end, AreTextLines}

-- ---- the input

-- whether the strings of a trust anchor, of CAs below it and of a leaf are a valid path
pub record PathQuestion : Type 0 where
  pub now : Moment
  pub strict : Bool
  pub anchor_octets : List ℕ
  pub authorities : List (List ℕ)
  pub leaf : Option Leaf

-- the two forms: whether a list of revoked certificates has a serial number, and whether strings
-- are a valid path
pub data Question : Type 0 where
  is_revoked : List ℕ → ℕ → Question
  is_valid_path : PathQuestion → Question

-- what the line of the leaf tells, if there is one
abbrev pub leaf_lines : Option Leaf → List InputLine
leaf_lines None = []
leaf_lines (Some leaf) = end_entity leaf ∷ []

-- what the lines of an input tell
abbrev pub lines_of : Question → List InputLine
lines_of (is_revoked list serial) = seeks list serial ∷ []
lines_of (is_valid_path q) =
    at_moment q.now ∷ strictness q.strict ∷ anchor q.anchor_octets ∷ map authority q.authorities ++ leaf_lines q.leaf

-- the lines ask this
abbrev pub Ask : Question → List (List ℕ) → Type 0
Ask q lines = AllZip IsInputLine (lines_of q) lines

-- the lines of an input that fits
abbrev pub AreInput : List (List ℕ) → Type 0
AreInput lines = (q : Question) × Ask q lines

-- the first lines of such an input
abbrev pub BeginInput : List (List ℕ) → Type 0
BeginInput lines = (more : List (List ℕ)) × AreInput (lines ++ more)

-- these lines, followed by the others, fit no more: they are the last, and no input, or with the
-- next they begin none
abbrev pub FitNoMore : List (List ℕ) → List (List ℕ) → Type 0
FitNoMore lines [] = AreInput lines → ⊥
FitNoMore lines (next ∷ others) = BeginInput (lines ++ next ∷ []) → ⊥

-- the number, from 1, of the first line that doesn't fit, or that is missing
pub record IsBadLine (number : ℕ) (lines : List (List ℕ)) : Type 0 where
  pub before : List (List ℕ)
  pub others : List (List ℕ)
  pub lines_are : lines ≡ before ++ others
  pub number_is : number ≡ length before + 1
  pub before_fit : BeginInput before
  pub next_unfit : FitNoMore before others

-- ---- the output

-- the names of the errors of reading
abbrev pub decode_faults : List (List ℕ)
decode_faults =
    codes "Truncated" ∷ codes "BadLength" ∷ codes "BadTag" ∷ codes "BadValue" ∷ codes "Trailing" ∷ codes "TooDeep"
    ∷ codes "Missing" ∷ codes "Duplicate" ∷ codes "Critical" ∷ codes "NotCritical" ∷ codes "UnexpectedCritical"
    ∷ codes "InvalidExtension" ∷ codes "WrongResources" ∷ codes "AlgorithmMismatch" ∷ []

-- the texts, and the end of a line
abbrev pub output_of : List (List ℕ) → List ℕ
output_of texts = concat texts ++ line_end ∷ []

-- whether the list has an entry with the serial, or that the octets are no list, by a fault's name
abbrev pub SaysOfList : List ℕ → ℕ → List ℕ → Status → Type 0
SaysOfList list serial output Done =
    (r : Revoked) × IsRevokedCertificates r list
    × ((IsRevoked serial r.entries × (output ≡ output_of (codes "yes" ∷ [])))
    ⊎ ((IsRevoked serial r.entries → ⊥) × (output ≡ output_of (codes "no" ∷ []))))
SaysOfList list serial output Refused =
    ((r : Revoked) → IsRevokedCertificates r list → ⊥)
    × (name : List ℕ) × Contains decode_faults name × (output ≡ output_of (codes "refused decode " ∷ name ∷ []))
SaysOfList list serial output BadInput = ⊥

-- what signatures are taken for, which is printed first
abbrev pub stand_in : List ℕ
stand_in = output_of (codes "stand-in signatures" ∷ [])

-- the numbers that the last member holds, a line for each kind
pub record PrintsHeld (p : Path) (output : List ℕ) : Type 0 where
  pub v4_line : List ℕ
  pub v6_line : List ℕ
  pub as_line : List ℕ
  pub v4_is : IsSetLine (codes "v4") v4_end (Holds p (paths.last p) v4_addresses) v4_line
  pub v6_is : IsSetLine (codes "v6") v6_end (Holds p (paths.last p) v6_addresses) v6_line
  pub as_is : IsSetLine (codes "as") decimal (Holds p (paths.last p) system_numbers) as_line
  pub is : output ≡ stand_in ++
      concat (output_of (codes "accepted" ∷ []) ∷ output_of (v4_line ∷ []) ∷ output_of (v6_line ∷ []) ∷
      output_of (as_line ∷ []) ∷ [])

-- where a fault was met, and its name; which of its faults a reader names is free, and nobody is
-- asked for revocation
abbrev pub IsFaultTold : PathFault → List ℕ → List ℕ → Type 0
IsFaultTold (Decode e) stage name = (stage ≡ codes "decode") × Contains decode_faults name
IsFaultTold (Inspect e) stage name = (stage ≡ codes "inspect") × (name ≡ inspection_error_name e)
IsFaultTold (Verify e) stage name = (stage ≡ codes "verify") × (name ≡ verification_error_name e)
IsFaultTold (Revocation e) stage name = ⊥
IsFaultTold Memory stage name = ⊥

-- at which place a path is wrong, the trust anchor at 0, and how
pub record PrintsFault (e : PathError) (output : List ℕ) : Type 0 where
  pub stage : List ℕ
  pub name : List ℕ
  pub told : IsFaultTold e.fault stage name
  pub is : output ≡ stand_in ++ output_of (codes "refused " ∷ decimal e.index ∷ codes " " ∷ stage ∷ codes " " ∷ name ∷ [])

-- the strings of a question that stand below the trust anchor
abbrev pub asked_below : PathQuestion → List Candidate
asked_below q = candidates q.authorities q.leaf

-- in which context the strings are judged
abbrev pub question_context : PathQuestion → Context
question_context q = context IsStandInSignature q.now q.strict

-- that the strings are a valid path, and what its last member holds; or that they are none, and the
-- first fault
abbrev pub SaysOfPath : PathQuestion → List ℕ → Status → Type 0
SaysOfPath q output Done =
    (p : Path) × IsPathOf q.anchor_octets (asked_below q) p × IsValidPath (question_context q) nobody p × PrintsHeld p output
SaysOfPath q output Refused =
    IsNoValidPath (question_context q) nobody q.anchor_octets (asked_below q)
    × (e : PathError) × IsFault (question_context q) nobody q.anchor_octets (asked_below q) e × PrintsFault e output
SaysOfPath q output BadInput = ⊥

-- the answer to a question
abbrev pub SaysOf : Question → List ℕ → Status → Type 0
SaysOf (is_revoked list serial) output status = SaysOfList list serial output status
SaysOf (is_valid_path q) output status = SaysOfPath q output status

-- that the input doesn't fit, and where
abbrev pub SaysBadInput : List (List ℕ) → List ℕ → Status → Type 0
SaysBadInput lines output status =
    (number : ℕ) × IsBadLine number lines × (output ≡ output_of (codes "bad input " ∷ decimal number ∷ [])) × (status ≡ BadInput)

-- what is printed for an input, and the status
abbrev pub Says : List ℕ → List ℕ → Status → Type 0
Says input output status =
    (lines : List (List ℕ)) × AreTextLines lines input
    × (((q : Question) × Ask q lines × SaysOf q output status) ⊎ SaysBadInput lines output status)

-- ---- a run

-- of what a reader gives, all was read, and what a writer held grew by what the line program says
-- to it
pub record HasAnswered (given left held holds : Option (List ℕ)) (status : Status) : Type 0 where
  pub input : List ℕ
  pub output : List ℕ
  pub is_read : Consumes given left input
  pub to_the_end : IsAtEnd left
  pub short : length input ≤ 2 ^ 24
  pub says : Says input output status
  pub is_written : Appends held holds output
