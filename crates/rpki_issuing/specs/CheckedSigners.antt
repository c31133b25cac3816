-- A signer whose signatures are verified before they are handed on (own).
use Rattle.std.specs.Prelude.{◌≡◌, ◌≢◌, ℕ, List, Result, Ok, Err, codes}
use Rattle.rpki_parts.specs.Algorithms.{Algorithm}
use Rattle.rpki_parts.specs.Keys.{KeyFields}
use Rattle.rpki_parts.specs.Signatures.{SignatureFields, Verifies}
use Rattle.rpki_parts.specs.declared.signature.SigningError.{SigningError}
use Rattle.rpki_parts.specs.declared.signature.SigningError.TheVariants.{Signer, TooLong, Memory}
use Rattle.rpki_issuing.specs.declared.checked.CheckedError.{CheckedError}
use Rattle.rpki_issuing.specs.declared.checked.CheckedError.TheVariants.{Refused, OtherAlgorithm, BadSignature}

-- the signature is one by the key and the algorithm that were asked for
pub record IsAsAsked (V : Verifies) (key : KeyFields) (algorithm : Algorithm) (message : List ℕ)
    (s : SignatureFields) : Type 0 where
  pub algorithm_is : s.algorithm ≡ algorithm
  pub verifies : V key s.algorithm message s.value

-- what is answered where the signer below may give these answers: its signature, which is as it was
-- asked for; its error; or that it gave a signature that isn't
abbrev pub AnswersChecked : {E : Type 0} → Verifies → KeyFields → Algorithm → List ℕ
    → (Result SignatureFields (SigningError E) → Type 0) → Result SignatureFields (SigningError (CheckedError E)) →
    Type 0
AnswersChecked V key algorithm message MayAnswer (Ok s) = MayAnswer (Ok s) × IsAsAsked V key algorithm message s
AnswersChecked V key algorithm message MayAnswer (Err (Signer (Refused e))) = MayAnswer (Err (Signer e))
AnswersChecked V key algorithm message MayAnswer (Err (Signer OtherAlgorithm)) = (s : SignatureFields) ×
    MayAnswer (Ok s) × (s.algorithm ≢ algorithm)
AnswersChecked V key algorithm message MayAnswer (Err (Signer BadSignature)) = (s : SignatureFields) ×
    MayAnswer (Ok s) × (V key s.algorithm message s.value → ⊥)
AnswersChecked V key algorithm message MayAnswer (Err TooLong) = MayAnswer (Err TooLong)
AnswersChecked V key algorithm message MayAnswer (Err Memory) = MayAnswer (Err Memory)

-- ---- names

abbrev pub checked_error_name : {E : Type 0} → CheckedError E → List ℕ
checked_error_name (Refused e) = codes "Refused"
checked_error_name OtherAlgorithm = codes "OtherAlgorithm"
checked_error_name BadSignature = codes "BadSignature"

-- ---- conversions

-- the refusal of the signer below
abbrev pub as_checked : {E : Type 0} → SigningError E → SigningError (CheckedError E)
as_checked (Signer e) = Signer (Refused e)
as_checked TooLong = TooLong
as_checked Memory = Memory
