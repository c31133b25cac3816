-- What a fault of reading says, where it isn't that memory ran out.
use Rattle.std.specs.Prelude.{IsErrAnd, Result, Ok, Err}
use Rattle.std.proofs.Common.{◌≡◌, ap, refl}
use Rattle.rpki_der.specs.Place.{Rejects}
use Rattle.rpki_der.specs.declared.error.DecodeError.{DecodeError}
use Rattle.rpki_der.specs.declared.error.DecodeError.TheVariants as decoding

pub unless_memory : (P : Type 0) (e : DecodeError) → Rejects e P → (e ≡ decoding.Memory → ⊥) → P
unless_memory P decoding.Memory h other = absurd (other refl)
unless_memory P e h other = h

-- the error that is passed on
pub passed_on : {T E : Type 0} (r : Result T E) (e : E) → IsErrAnd r (λ y. y ≡ e) → r ≡ Err e
passed_on (Ok x) e h = absurd h
passed_on (Err d) e h = ap (λ y. Err y) h
