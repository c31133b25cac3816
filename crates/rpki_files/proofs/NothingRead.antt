-- What is read of octets, or why nothing is, where it isn't that memory ran out.
use Rattle.std.specs.Prelude.{Result, Ok, Err, IfOk}
use Rattle.std.proofs.Common.{◌≡◌, ◌≢◌, ℕ, List, refl, sym, subst}
use Rattle.rpki_der.specs.Place.{Rejects}
use Rattle.rpki_der.specs.declared.error.DecodeError.{DecodeError}
use Rattle.rpki_der.specs.declared.error.DecodeError.TheVariants as decoding
use Rattle.rpki_files.specs.Contents.{BeginsWithEither, IsContent}
use Rattle.rpki_files.specs.declared.contents.Content.{Content}
use Rattle.rpki_files.specs.declared.contents.Content.TheVariants as content

-- the rejection stands
pub rejected : {P : Type 0} (e : DecodeError) → Rejects e P → e ≢ decoding.Memory → P
rejected decoding.Memory h not_memory = absurd (not_memory refl)
rejected e h not_memory = h

-- what is read of octets that begin with neither
pub neither_read : {E : Type 0} (octets : List ℕ) (fault : DecodeError) (r : Result Content E) →
    IfOk r (λ c. (c ≡ content.Neither fault) × (fault ≢ decoding.Memory)) →
    (fault ≢ decoding.Memory → BeginsWithEither octets → ⊥) → IfOk r (IsContent octets)
neither_read octets fault (Ok c) is none = subst (IsContent octets) (sym is.0) (is.1, none is.1)
neither_read octets fault (Err e) is none = tt
