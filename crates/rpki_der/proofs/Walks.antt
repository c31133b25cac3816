-- A loop that only looks whether octets are a sequence.
use Rattle.std.specs.Prelude.{is_some}
use Rattle.std.proofs.Common.{◌≡◌, ◌<◌, ℕ, true, false, List, [], ◌∷◌, length, Option, Some, None, refl, ap, ◌∙◌, arith}
use Rattle.rpki_der.specs.Sequences.Reading.{sequence_of, Shrinks}
use Rattle.rpki_der.specs.Values.Reading.{◌>>=◌}
use Rattle.rpki_der.proofs.Sequences.{sequence_steps}
use Rattle.rpki_der.proofs.Octets.{some}
use Rattle.rpki_der.proofs.SequenceWalks.{unmapped, nothing_mapped}
use Rattle.rpki_der.specs.Reading.{map_value}

module _ {X : Type 0} (read : List ℕ → Option (X × List ℕ)) (less : Shrinks read) (octets : List ℕ) where
  -- a value stands before others
  pub one_more : (x : X) (rest : List ℕ) → read octets ≡ Some (x, rest) →
      is_some (sequence_of read octets) ≡ is_some (sequence_of read rest)
  one_more x rest e = ap is_some (sequence_steps read less octets (omega (arith, less octets x rest e))) ∙
      rw e (same (sequence_of read rest))
    where
      same : (o : Option (List X)) → is_some (o >>= λ xs. some (x ∷ xs)) ≡ is_some o
      same (Some xs) = refl
      same None = refl

  -- no value stands there
  pub no_more : 0 < length octets → read octets ≡ None → is_some (sequence_of read octets) ≡ false
  no_more p e = ap is_some (sequence_steps read less octets p) ∙ rw e refl

  -- the same where of the value something is made
  module _ {Y : Type 0} (to : X → Y) where
    pub one_made : (y : Y) (rest : List ℕ) → map_value to read octets ≡ Some (y, rest) →
        (is_some (sequence_of read octets) ≡ is_some (sequence_of read rest)) × (length rest < length octets)
    one_made y rest e = let a = unmapped to read octets y rest e in (one_more a.0 rest a.1, less octets a.0 rest a.1)

    pub none_made : 0 < length octets → map_value to read octets ≡ None → is_some (sequence_of read octets) ≡ false
    none_made p e = no_more p (nothing_mapped to read octets e)

-- no octets are a sequence
pub at_end : {X : Type 0} (read : List ℕ → Option (X × List ℕ)) (octets : List ℕ) → octets ≡ [] → is_some (sequence_of read octets) ≡ true
unfolding sequence_of
at_end read octets e = rw e refl
