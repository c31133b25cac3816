-- What a report says of what was asked.
use Rattle.std.proofs.Common.{◌≡◌, ℕ, Bool, true, false, inl, inr, List, [], ◌∷◌, Result, Ok, Err, refl, sym, subst, arith}
use Rattle.std.specs.Prelude.{IsTrue, ◌↔◌, Contains, IfOk, OnOk, cond, codes, string_bytes}
use Rattle.std.proofs.lemmas.Bool.{false≢true}
use Rattle.rpki_der.specs.declared.error.DecodeError.{DecodeError}
use Rattle.rpki_der.specs.declared.error.DecodeError.TheVariants.{Truncated, BadLength, BadTag, BadValue, Trailing}
use Rattle.rpki_der.specs.declared.error.DecodeError.TheVariants.{TooDeep, Missing, Duplicate, Critical, NotCritical}
use Rattle.rpki_der.specs.declared.error.DecodeError.TheVariants.{UnexpectedCritical, InvalidExtension}
use Rattle.rpki_der.specs.declared.error.DecodeError.TheVariants.{WrongResources, AlgorithmMismatch, Memory}
use Rattle.rpki_der.specs.ErrorNames.{decode_error_name}
use Rattle.rpki_der.specs.Place.{Rejects}
use Rattle.rpki_cert.specs.Verification.{ResourceFields}
use Rattle.rpki_crl.specs.RevokedEntries.{IsRevoked, IsRevokedCertificates, Revoked}
use Rattle.rpki_path.specs.Asking.{nobody}
use Rattle.rpki_lines.specs.declared.running.Status.{Status}
use Rattle.rpki_lines.specs.declared.running.Status.TheVariants as status
use Rattle.rpki_lines.specs.declared.report.Report.{Report}
use Rattle.rpki_path.specs.declared.path_fault.PathError.{PathError}
use Rattle.rpki_path.specs.declared.path_fault.PathFault.{PathFault}
use Rattle.rpki_path.specs.declared.path_fault.PathFault.TheVariants as fault
use Rattle.rpki_path.specs.Paths.{IsAccepted, IsFault, IsNoValidPath}
use Rattle.rpki_path.specs.Paths as paths
use Rattle.rpki_lines.specs.PrintedSets.{v4_end, v6_end, ranges, name_and_words}
use Rattle.rpki_lines.specs.Program.{PathQuestion, question_context, asked_below, decode_faults, output_of, IsFaultTold}
use Rattle.rpki_lines.specs.Program.{PrintsFault, SaysOfList, SaysOfPath}
use Rattle.rpki_lines.specs.Reports.{accepted_text, HasSortedSets}

other_fault : {P : Type 0} (e : DecodeError) → (e ≡ Memory → ⊥) → Rejects e P → P
other_fault Memory other h = absurd (other refl)
other_fault _ other h = h

-- the name of an error of reading other than Memory is one of the names
pub fault_name : (e : DecodeError) → (e ≡ Memory → ⊥) → Contains decode_faults (decode_error_name e)
fault_name Truncated other = (0, omega arith, refl)
fault_name BadLength other = (1, omega arith, refl)
fault_name BadTag other = (2, omega arith, refl)
fault_name BadValue other = (3, omega arith, refl)
fault_name Trailing other = (4, omega arith, refl)
fault_name TooDeep other = (5, omega arith, refl)
fault_name (Missing field) other = (6, omega arith, refl)
fault_name (Duplicate field) other = (7, omega arith, refl)
fault_name (Critical field) other = (8, omega arith, refl)
fault_name (NotCritical field) other = (9, omega arith, refl)
fault_name (UnexpectedCritical oid) other = (10, omega arith, refl)
fault_name (InvalidExtension oid) other = (11, omega arith, refl)
fault_name (WrongResources field) other = (12, omega arith, refl)
fault_name AlgorithmMismatch other = (13, omega arith, refl)
fault_name Memory other = absurd (other refl)

-- ---- a report of this text and status

-- what a status and a text say, a report with them says
pub says_with : (P : List ℕ → Status → Type 0) (report : Report) (s : Status) (t : List ℕ) → report.status ≡ s →
    string_bytes report.text ≡ t → P t s → P (string_bytes report.text) report.status
says_with P report s t e f h = subst (λ (x : Status). P (string_bytes report.text) x) (sym e) (subst (λ (y : List ℕ). P y s) (sym f) h)

-- what a status and a text say, an Ok report with them says
pub answered : {E : Type 0} (P : List ℕ → Status → Type 0) (r : Result Report E) (s : Status) (t : List ℕ) →
    IfOk r (λ report. report.status ≡ s) → IfOk r (λ report. string_bytes report.text ≡ t) → P t s →
    IfOk r (λ report. P (string_bytes report.text) report.status)
answered P (Ok report) s t e f h = says_with P report s t e f h
answered P (Err x) s t e f h = tt

-- ---- lists

-- a report of what was found in a list says whether the serial is revoked
pub found_says : (list : List ℕ) (serial : ℕ) (r : Revoked) (found : Bool) → IsRevokedCertificates r list →
    IsTrue found ↔ IsRevoked serial r.entries
    → SaysOfList list serial (output_of (cond found (codes "yes") (codes "no") ∷ [])) status.Done
found_says list serial r true is same = (r, is, inl (same.0 refl, refl))
found_says list serial r false is same = (r, is, inr ((λ found. false≢true (same.1 found)), refl))

abbrev NamesFault : List ℕ → Type 0
NamesFault text = (name : List ℕ) × Contains decode_faults name × (text ≡ output_of (codes "refused decode " ∷ name ∷ []))

-- a report of a list that wasn't read says that it is none
pub rejected_says : {E : Type 0} (list : List ℕ) (serial : ℕ) (e : DecodeError) (r : Result Report E) →
    Rejects e ((r : Revoked) → IsRevokedCertificates r list → ⊥) → OnOk r (e ≡ Memory → ⊥)
    → IfOk r (λ report. report.status ≡ status.Refused) → IfOk r (λ report. NamesFault (string_bytes report.text)) →
    IfOk r (λ report. SaysOfList list serial (string_bytes report.text) report.status)
rejected_says list serial e (Ok report) none other s named =
    subst (λ (x : Status). SaysOfList list serial (string_bytes report.text) x) (sym s)
    (other_fault e other none, named.0, named.1, named.2)
rejected_says list serial e (Err x) none other s named = tt

-- ---- paths

accepted_says : (q : PathQuestion) (tal : List ℕ) (r : ResourceFields) →
    IsAccepted (question_context q) nobody q.anchor_octets (asked_below q) tal r → HasSortedSets r →
    SaysOfPath q (accepted_text r) status.Done
accepted_says q tal r a sorted = (
  a.path,
  a.path_of,
  a.is_valid,
  record {
    v4_line = name_and_words (codes "v4") (ranges v4_end r.v4);
    v6_line = name_and_words (codes "v6") (ranges v6_end r.v6);
    as_line = name_and_words (codes "as") (ranges Rattle.std.specs.Prelude.decimal r.as_numbers);
    v4_is = record { blocks = r.v4; sorted = sorted.v4_sorted; numbers = a.held.v4_is; is = refl };
    v6_is = record { blocks = r.v6; sorted = sorted.v6_sorted; numbers = a.held.v6_is; is = refl };
    as_is = record { blocks = r.as_numbers; sorted = sorted.as_sorted; numbers = a.held.as_is; is = refl };
    is = refl;
  },
)

-- a report of an accepted path says what its last member holds
pub path_accepted : {E : Type 0} (q : PathQuestion) (tal : List ℕ) (cert : ResourceFields) (r : Result Report E) →
    IsAccepted (question_context q) nobody q.anchor_octets (asked_below q) tal cert
    → IfOk r (λ report. report.status ≡ status.Done) →
    IfOk r (λ report. string_bytes report.text ≡ accepted_text cert) → OnOk r (HasSortedSets cert) →
    IfOk r (λ report. SaysOfPath q (string_bytes report.text) report.status)
path_accepted q tal cert (Ok report) a s t sorted = says_with (SaysOfPath q) report status.Done (accepted_text cert) s
    t (accepted_says q tal cert a sorted)
path_accepted q tal cert (Err x) a s t sorted = tt

-- what is told of a fault is none of being out of memory
not_memory : {P : Type 0} (f : PathFault) (stage name : List ℕ) → IsFaultTold f stage name → paths.UnlessMemory f P → P
not_memory (fault.Decode e) stage name t h = h
not_memory (fault.Inspect e) stage name t h = h
not_memory (fault.Verify e) stage name t h = h
not_memory (fault.Revocation e) stage name t h = h
not_memory fault.Memory stage name t h = absurd t

-- a report that prints the fault of a rejected path says what the line program has to say
pub path_wrong : {E : Type 0} (q : PathQuestion) (e : PathError) (r : Result Report E) →
    paths.UnlessMemory e.fault (IsNoValidPath (question_context q) nobody q.anchor_octets (asked_below q)) →
    IsFault (question_context q) nobody q.anchor_octets (asked_below q) e
    → IfOk r (λ report. report.status ≡ status.Refused) →
    IfOk r (λ report. PrintsFault e (string_bytes report.text)) →
    IfOk r (λ report. SaysOfPath q (string_bytes report.text) report.status)
path_wrong q e (Ok report) none is s prints =
    subst (λ (x : Status). SaysOfPath q (string_bytes report.text) x) (sym s)
    (not_memory e.fault prints.stage prints.name prints.told none, e, is, prints)
path_wrong q e (Err x) none is s prints = tt
