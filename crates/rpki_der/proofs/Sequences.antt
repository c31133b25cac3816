-- A sequence is its first value and a sequence.
use Rattle.std.proofs.Common.{◌≡◌, ℕ, zero, suc, ◌<◌, ◌≤◌, List, [], ◌∷◌, length, Option, Some, None, refl, subst, ◌∙◌, arith}
use Rattle.rpki_der.specs.Reading.{Reads}
use Rattle.rpki_der.specs.Values.Reading.{◌>>=◌}
use Rattle.rpki_der.specs.Values.{AreOctets}
use Rattle.rpki_der.specs.Sequences.{AreEncodings}
use Rattle.rpki_der.specs.Sequences.Reading.{sequence_at, sequence_of, Shrinks}
use Rattle.rpki_der.proofs.Octets.{AreOctets-after, bind_some, some, some_is, nothing}

-- two ways to go on that agree after what was read
same_after : {X : Type 0} (r : Option (X × List ℕ)) (f g : List ℕ → Option (List X)) → ((x : X × List ℕ) → r ≡ Some x → f x.1 ≡ g x.1)
    → (r >>= λ x. f x.1 >>= λ xs. Some (x.0 ∷ xs)) ≡ (r >>= λ x. g x.1 >>= λ xs. Some (x.0 ∷ xs))
same_after (Some x) f g h = rw (h x refl) refl
same_after None f g h = refl

enough : {X : Type 0} (read : List ℕ → Option (X × List ℕ)) → Shrinks read → (n m : ℕ) (bytes : List ℕ) →
    length bytes ≤ n → length bytes ≤ m → sequence_at read n bytes ≡ sequence_at read m bytes
enough read less n m [] p q = refl
enough read less zero m (b ∷ bytes) p q = absurd (omega arith)
enough read less (suc n) zero (b ∷ bytes) p q = absurd (omega arith)
enough read less (suc n) (suc m) (b ∷ bytes) p q =
    same_after (read (b ∷ bytes)) (sequence_at read n) (sequence_at read m)
    (λ x e. let s : length x.1 < length (b ∷ bytes) = less (b ∷ bytes) x.0 x.1 e in enough read less n m x.1 (omega arith) (omega arith))

-- one value, and the sequence after it
pub sequence_steps : {X : Type 0} (read : List ℕ → Option (X × List ℕ)) → Shrinks read → (bytes : List ℕ) →
    0 < length bytes → sequence_of read bytes ≡ (read bytes >>= λ x. sequence_of read x.1 >>= λ xs. Some (x.0 ∷ xs))
unfolding sequence_of
sequence_steps read less [] p = absurd (omega arith)
sequence_steps read less (b ∷ bytes) p =
    same_after (read (b ∷ bytes)) (sequence_at read (length bytes)) (λ rest. sequence_at read (length rest) rest)
    (λ x e. let s : length x.1 < length (b ∷ bytes) = less (b ∷ bytes) x.0 x.1 e in
    enough read less (length bytes) (length x.1) x.1 (omega arith) (omega arith))

sequence_takes : {X : Type 0} (read : List ℕ → Option (X × List ℕ)) (S : X → List ℕ → Type 0) → Reads read S →
    (n : ℕ) (bytes : List ℕ) (xs : List X) → AreOctets bytes → sequence_at read n bytes ≡ some xs →
    AreEncodings S xs bytes
sequence_takes {X} read S law n [] xs fits e = subst (λ (ys : List X). AreEncodings S ys []) (some_is [] xs e) refl
sequence_takes read S law zero (b ∷ bytes) xs fits e = nothing xs e
sequence_takes {X} read S law (suc n) (b ∷ bytes) xs fits e =
    let a = bind_some (read (b ∷ bytes)) (λ x. sequence_at read n x.1 >>= λ ys. Some (x.0 ∷ ys)) xs e in
    let c = bind_some (sequence_at read n a.0.1) (λ ys. Some (a.0.0 ∷ ys)) xs a.2 in
    let one = law.takes (b ∷ bytes) a.0.0 a.0.1 fits a.1 in
    let two = sequence_takes read S law n a.0.1 c.0 (AreOctets-after (b ∷ bytes) one.text a.0.1 one.parts fits) c.1 in
    subst (λ (ys : List X). AreEncodings S ys (b ∷ bytes)) (some_is (a.0.0 ∷ c.0) xs c.2) (one.text, a.0.1, one.encoded, two, one.parts)

-- octets that read as a sequence are the sequence of these values
pub elements_are : {X : Type 0} (read : List ℕ → Option (X × List ℕ)) (S : X → List ℕ → Type 0) → Reads read S →
    (bytes : List ℕ) (xs : List X) → AreOctets bytes → sequence_of read bytes ≡ some xs → AreEncodings S xs bytes
unfolding sequence_of
elements_are read S law bytes xs fits e = sequence_takes read S law (length bytes) bytes xs fits e

-- and a sequence of values is read so
pub sequence_again : {X : Type 0} (read : List ℕ → Option (X × List ℕ)) (S : X → List ℕ → Type 0) → Reads read S →
    Shrinks read → (xs : List X) (bytes : List ℕ) → AreEncodings S xs bytes → sequence_of read bytes ≡ some xs
unfolding sequence_of
sequence_again read S law less [] bytes s = rw s refl
sequence_again {X} read S law less (x ∷ xs) bytes s =
    let first : read bytes ≡ some {A = X × List ℕ} (x, s.1) = rw s.4 (law.again x s.0 s.1 s.2) in
    let shorter : length s.1 < length bytes = less bytes x s.1 first in
    let later : sequence_of read s.1 ≡ some xs = sequence_again read S law less xs s.1 s.3 in
    sequence_steps read less bytes (omega arith) ∙ rw (first, later) refl
