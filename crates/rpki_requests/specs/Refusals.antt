-- Why a request gives nothing, and what is said of it (own).
use Rattle.std.specs.List.{flat_map}
use Rattle.std.specs.Prelude.{◌≢◌, ℕ, List, [], ◌++◌, get_or, Result, Ok, Err, codes}
use Rattle.rpki_ext.specs.Inspection.{inspection_error_name}
use Rattle.rpki_issuing.specs.declared.issuing_error.IssuingError.{IssuingError}
use Rattle.rpki_issuing.specs.declared.issuing_error.IssuingError.TheVariants as issuing
use Rattle.rpki_issuing.specs.declared.list_error.ListError.{ListError}
use Rattle.rpki_issuing.specs.declared.list_error.ListError.TheVariants as listing
use Rattle.rpki_issuing.specs.declared.next.NextListError.{NextListError}
use Rattle.rpki_issuing.specs.declared.next.NextListError.TheVariants as next
use Rattle.rpki_crl.specs.Revocation.{revocation_error_name}
use Rattle.rpki_path.specs.declared.judging.Judged.{Judged}
use Rattle.rpki_cert.specs.declared.validation_error.ValidationError.TheVariants.{Inspection, Verification}
use Rattle.rpki_cert.specs.Verification.{Context, verification_error_name}
use Rattle.rpki_files.specs.FaultRules.{RuleFields, inspection_rule, key_rule, name_rule, revocation_rule, rule_of}
use Rattle.rpki_files.specs.FaultRules.{verification_rule}
use Rattle.rpki_issuing.specs.OnlyValues.{IsOnly}
use Rattle.rpki_verdicts.specs.PathAnswers.{IsVerdictBy}
use Rattle.rpki_verdicts.specs.declared.path.Fault.{Fault}
use Rattle.rpki_verdicts.specs.declared.path.Verdict.TheVariants as verdict
use Rattle.rpki_issuing.specs.declared.wanted.preparing.WantedError.{WantedError}
use Rattle.rpki_issuing.specs.declared.wanted.preparing.WantedError.TheVariants as wanted
use Rattle.rpki_issuing.specs.declared.wanted.rules.IssuingRule.{IssuingRule}
use Rattle.rpki_issuing.specs.declared.wanted.rules.IssuingRule.TheVariants.{ZeroSerial, EarlyValidity, IssuerKey}
use Rattle.rpki_requests.specs.RequestFiles.{IsNoAuthority, IsNoListAt, chained}
use Rattle.rpki_requests.specs.ExpectedValues.{asked_value_expected, asked_value_kind}
use Rattle.rpki_requests.specs.RequestWords.{AskedFields, asked_option_name, given_values}
use Rattle.rpki_requests.specs.declared.refusals.Refusal.{Refusal}
use Rattle.rpki_requests.specs.declared.refusals.Refusal.TheVariants.{Value, NoKey, UnusedKey, Rejected}
use Rattle.rpki_requests.specs.declared.refusals.Refusal.TheVariants.{NoAuthority, OtherCrl, NoIssuer, OtherList}
use Rattle.rpki_requests.specs.declared.refusals.Refusal.TheVariants.{OtherCertificate, NoName, Files, NotToSign}
use Rattle.rpki_requests.specs.declared.refusals.Refusal.TheVariants.{OtherName, Unfit, Memory}
use Rattle.rpki_requests.specs.declared.words.Setting.{Setting}
use Rattle.rpki_requests.specs.declared.words.Setting.TheVariants.{Issuer, Key, Crl, Previous, Revoke}
use Rattle.rpki_document.specs.Texts.{characters_text}

-- ---- when one comes

-- it says nothing of the issuer's path, nor of the lists that this is judged with
abbrev pub IsPathless : Refusal → Type 0
IsPathless (Rejected fault) = ⊥
IsPathless NoAuthority = ⊥
IsPathless (OtherCrl place) = ⊥
IsPathless _ = Unit {0}

-- the answer is the only one of which it is so; or it is a refusal that may be told, and unless
-- memory ran out, it is so of none
abbrev pub AnswersOnly : {V : Type 0} → (Refusal → Type 0) → (V → Type 0) → Result V Refusal
    → Type 0
AnswersOnly {V} MayBe Is (Ok v) = IsOnly Is v
AnswersOnly {V} MayBe Is (Err why) = MayBe why × (why ≢ Memory → (v : V) → Is v → ⊥)

-- the same of an answer that is seen by view
abbrev pub AnswersOnlyBy : {X V : Type 0} → (Refusal → Type 0) → (X → V) → (V → Type 0)
    → Result X Refusal → Type 0
AnswersOnlyBy {X} {V} MayBe view Is (Ok x) = IsOnly Is (view x)
AnswersOnlyBy {X} {V} MayBe view Is (Err why) =
    MayBe why × (why ≢ Memory → (v : V) → Is v → ⊥)

-- the path that the files are is accepted, with these lists, but its last member isn't a CA
pub record EndsInNoAuthority (x : Context) (files lists : List (List ℕ)) : Type 0 where
  pub judged : Judged
  pub accepted : IsVerdictBy x chained files lists (verdict.Accepted judged)
  pub no_authority : IsNoAuthority judged

-- what it says of the issuer's path is so: the path is rejected for this fault, or it is accepted,
-- but ends in no CA; or the file that is given as a list at this place is none
abbrev pub TellsPath : Context → List (List ℕ) → List (List ℕ) → Refusal → Type 0
TellsPath x files lists (Rejected fault) =
    IsVerdictBy x chained files lists (verdict.Rejected fault)
TellsPath x files lists NoAuthority = EndsInNoAuthority x files lists
TellsPath x files lists (OtherCrl place) = IsNoListAt lists place
TellsPath x files lists _ = Unit {0}

-- ---- what is said of it

-- a fault's name, what it means, and the section that asks it
abbrev pub fault_text : List ℕ → RuleFields → List ℕ
fault_text name rule =
    name ++ (codes ": " ++ (rule.says ++ (codes " (" ++ (rule.section ++ codes ")"))))

-- why fields aren't ready, or why a signature isn't theirs
abbrev pub issuing_text : IssuingError → List ℕ
issuing_text issuing.Unwritable = codes "no certificate has these fields"
issuing_text issuing.TooLong = codes "the certificate would be too long"
issuing_text (issuing.Invalid (Inspection e)) =
    fault_text (inspection_error_name e) (inspection_rule e)
issuing_text (issuing.Invalid (Verification e)) =
    fault_text (verification_error_name e) (verification_rule e)
issuing_text issuing.Memory = codes "out of memory"

-- why no such list may follow the one before
abbrev pub next_text : NextListError → List ℕ
next_text next.Number = codes "the CRL number isn't greater than that of the previous CRL"
next_text next.LongNumber = codes "the CRL number has more than 20 bytes"
next_text next.UpdateOrder = codes "the next update is before this one"
next_text next.Memory = codes "out of memory"

-- why a list isn't ready, or why a signature isn't its own
abbrev pub list_text : ListError → List ℕ
list_text (listing.Invalid e) = fault_text (revocation_error_name e) (revocation_rule e)
list_text listing.TooLong = codes "the CRL would be too long"
list_text listing.Memory = codes "out of memory"

-- which rule for whoever issues isn't kept
abbrev pub rule_text : IssuingRule → List ℕ
rule_text ZeroSerial = codes "the serial number is 0, expected a positive one (RFC 6487 4.2)"
rule_text EarlyValidity =
    codes "the validity starts before 1950, expected 1950 or later (RFC 5280 4.1.2.5)"
rule_text IssuerKey =
    codes "the CA has the key of a CA above it, expected a key of its own (own rule)"

abbrev pub wanted_text : WantedError → List ℕ
wanted_text wanted.NoRole = codes "a trust anchor has no issuer, and other certificates have one"
wanted_text (wanted.Broken rule) = rule_text rule
wanted_text (wanted.Unready e) = issuing_text e
wanted_text wanted.OtherOctets = codes "the first file isn't what rpki prepare writes of its fields"
wanted_text (wanted.Unsigned e) = issuing_text e
wanted_text (wanted.Listed e) = fault_text (revocation_error_name e) (revocation_rule e)
wanted_text (wanted.NoList e) = next_text e
wanted_text (wanted.UnreadyList e) = list_text e
wanted_text (wanted.UnsignedList e) = list_text e
wanted_text wanted.Memory = codes "out of memory"

-- the words of a request that a refusal is about: the values of an option, or the files
abbrev pub words_about : AskedFields → Refusal → List (List ℕ)
words_about asked (Value setting) = given_values setting asked.given
words_about asked NoKey = given_values Key asked.given
words_about asked (UnusedKey format) = []
words_about asked (Rejected fault) = given_values Issuer asked.given
words_about asked NoAuthority = given_values Issuer asked.given
words_about asked (OtherCrl place) = given_values Crl asked.given
words_about asked NoIssuer = []
words_about asked OtherList = given_values Previous asked.given
words_about asked (OtherCertificate place) = given_values Revoke asked.given
words_about asked NoName = []
words_about asked Files = asked.files
words_about asked NotToSign = asked.files
words_about asked (OtherName place) = []
words_about asked (Unfit e) = []
words_about asked Memory = []

-- a word behind a space
abbrev pub spaced : List ℕ → List ℕ
spaced word = codes " " ++ characters_text word

-- an option and these words
abbrev pub given_text : Setting → List (List ℕ) → List ℕ
given_text setting words = asked_option_name setting ++ flat_map spaced words

-- an option and the word at this place
abbrev pub given_at : Setting → List (List ℕ) → ℕ → List ℕ
given_at setting words place = asked_option_name setting ++ spaced (get_or words place [])

-- of the issuer's path the file that is rejected, the step, and why
abbrev pub path_text : List (List ℕ) → Fault → List ℕ
path_text words fault =
    let why = fault.step.now ++ (codes ", " ++ fault_text fault.name.now (rule_of fault.rule)) in
    given_at Issuer words fault.index ++ (codes ": rejected at " ++ why)

-- why a request gives nothing, where it is about these words, and what is expected
abbrev pub refusal_text : List (List ℕ) → Refusal → List ℕ
refusal_text words (Value setting) =
    given_text setting words
    ++ (codes ": not " ++ (asked_value_kind setting ++ (codes "; expected " ++ asked_value_expected setting)))
refusal_text words NoKey =
    given_text Key words ++ codes ": not a public key; expected a SubjectPublicKeyInfo, in DER or PEM"
refusal_text words (UnusedKey format) = fault_text (codes "BadKey") (key_rule format)
refusal_text words (Rejected fault) = path_text words fault
refusal_text words NoAuthority =
    given_text Issuer words ++ codes ": the last certificate is not a CA's; expected a CA's"
refusal_text words (OtherCrl place) =
    given_at Crl words place ++ codes ": not a CRL, or bytes follow it; expected one CRL in each file"
refusal_text words NoIssuer = codes "--issuer: missing; expected the path of the CRL's issuer"
refusal_text words OtherList =
    given_text Previous words ++ codes ": not a CRL that the issuer signed; expected the issuer's last one"
refusal_text words (OtherCertificate place) =
    given_at Revoke words place
    ++ codes ": not a certificate of the issuer; expected one that names the issuer's key"
refusal_text words NoName = codes "the subject would have no name"
refusal_text words Files = codes "wrong number of files; expected PREPARED and SIGNATURE"
refusal_text words NotToSign =
    characters_text (get_or words 0 [])
    ++ codes ": not a TBSCertificate or TBSCertList; expected what `rpki prepare` writes"
refusal_text words (OtherName place) = fault_text (codes "OtherName") (name_rule place)
refusal_text words (Unfit e) = wanted_text e
refusal_text words Memory = codes "out of memory"
