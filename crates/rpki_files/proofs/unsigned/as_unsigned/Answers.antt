use Rattle.std.specs.Prelude.{Result, Ok, Err, IfOk, MatchOption, Option, Some}
use Rattle.std.proofs.Common.{◌≡◌, ℕ, Bool, true, false, List, None, ◌∙◌, refl, sym}
use Rattle.rpki_parts.specs.Algorithms.{Algorithm, with_null, without_null}
use Rattle.rpki_files.specs.Files.{FileFields}
use Rattle.rpki_files.specs.ToBeSigned.{IsToBeSigned, IsUnsignedFile}
use Rattle.rpki_files.proofs.unsigned.as_unsigned.Goals as goal

-- the octets are no object under this algorithm
NoneUnder : List ℕ → Algorithm → Type 0
NoneUnder octets a = (whole : List ℕ) → (it : IsUnsignedFile octets whole) → it.algorithm ≡ a → ⊥

none_by : (octets : List ℕ) (whole : List ℕ) (it : IsUnsignedFile octets whole) (has_null : Bool) →
    it.algorithm ≡ record { has_null = has_null } → NoneUnder octets with_null → NoneUnder octets without_null → ⊥
unfolding NoneUnder
none_by octets whole it true is usual other = usual whole it is
none_by octets whole it false is usual other = other whole it is

both : {E : Type 0} (r : Result (Option FileFields) E) (octets : List ℕ) → NoneUnder octets with_null →
    IfOk r (λ found. MatchOption found (Unit {0}) (λ object. IsUnsignedFile octets object.octets)) →
    IfOk r (λ found. found ≡ None → NoneUnder octets without_null) →
    IfOk r (λ found. MatchOption found (IsToBeSigned octets → ⊥) (λ object. IsUnsignedFile octets object.octets))
both (Ok (Some object)) octets usual found other = found
both (Ok None) octets usual found other = λ is. none_by octets is.0 is.1 is.1.algorithm.has_null refl usual (other refl)
both (Err error) octets usual found other = tt

pub returns-in-None-clause-object : goal.returns-in-None-clause-object
unfolding NoneUnder
returns-in-None-clause-object c =
    let first = (rw c.in-None.is at c.in_ok-object.ensures.none) refl in
    both c.unsigned_under-in-None.result c.args.octets.now
    (λ whole it is. first whole it (is ∙ sym c.default-usual.ensures))
    c.unsigned_under-in-None.ensures.found (rw c.without_parameter.ensures at c.unsigned_under-in-None.ensures.none)
