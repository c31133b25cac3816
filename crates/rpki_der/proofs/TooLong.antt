-- An error of a part that says that it is too long, said of the whole.
use Rattle.std.specs.Prelude.{IsErrAnd, IsErrOf}
use Rattle.std.proofs.Common.{◌≡◌, ◌^◌, ◌≤◌, List, ℕ, length, Result, Ok, Err, arith}
use Rattle.rpki_der.specs.declared.error.EncodeError.{EncodeError}
use Rattle.rpki_der.specs.declared.error.EncodeError.TheVariants.{TooLong}
use Rattle.rpki_der.specs.Writers.{SaysLong}

-- by the writer of the part
pub still_long : {T : Type 0} (r : Result T EncodeError) (part whole : List ℕ) → SaysLong r part →
    length part ≤ length whole → SaysLong r whole
still_long r part whole says le = λ long. let much : 2 ^ 32 ≤ length part = says long in omega arith

-- passed on by the writer of the whole
pub passed_long : {T U : Type 0} (r : Result T EncodeError) (e : EncodeError) (part whole : List ℕ) →
    IsErrAnd r (λ y. y ≡ e) → SaysLong {T = U} (Err e) part → length part ≤ length whole → SaysLong r whole
passed_long (Ok x) e part whole same says le = λ long. absurd cc
passed_long {T} {U} (Err d) e part whole same says le = λ long.
    let is : IsErrOf {T = U} {E = EncodeError} (Err e) TooLong = cc in
    let much : 2 ^ 32 ≤ length part = says is in
    omega arith
