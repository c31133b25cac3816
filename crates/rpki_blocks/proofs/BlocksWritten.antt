-- Blocks written one after another.
use Rattle.std.proofs.Common.{◌≡◌, ◌≤◌, ℕ, List, ◌∷◌, ◌++◌, length, take, arith, refl, sym, ap, ◌∙◌, append_assoc}
use Rattle.std.specs.List.{flat_map}
use Rattle.std.proofs.lemmas.List.{length-append, length-take, take-take, take_at}
use Rattle.rpki_blocks.specs.Sets.{Block, between}

-- what is written of a block is written between its ends
of_ends : (write : Block → List ℕ) (x : Block) (a b : ℕ) → a ≡ x.min → b ≡ x.max → write (between a b) ≡ write x
of_ends write x a b low high = rw (low, high) refl

-- what is written of the blocks from one on
from_one : (write : Block → List ℕ) (x : Block) (a b : ℕ) (from after : List Block) → a ≡ x.min → b ≡ x.max →
    from ≡ x ∷ after → flat_map write from ≡ write (between a b) ++ flat_map write after
from_one write x a b from after low high is = rw (is, of_ends write x a b low high) refl

-- once one more block is written, those after it are left
pub one_more : (write : Block → List ℕ) (x : Block) (a b : ℕ) (from after : List Block) (now new all : List ℕ) →
    a ≡ x.min → b ≡ x.max → from ≡ x ∷ after → new ≡ now ++ write (between a b) → now ++ flat_map write from ≡ all →
    new ++ flat_map write after ≡ all
one_more write x a b from after now new all low high is more whole =
    ap (λ (s : List ℕ). s ++ flat_map write after) more ∙ append_assoc now (write (between a b))
    (flat_map write after) ∙ ap (λ (s : List ℕ). now ++ s) (sym (from_one write x a b from after low high is)) ∙
    whole

-- neither one block is longer than all, nor those after it
pub parts_shorter : (write : Block → List ℕ) (x : Block) (a b n : ℕ) (from after : List Block) → a ≡ x.min →
    b ≡ x.max → from ≡ x ∷ after → length (flat_map write from) ≤ n →
    (length (write (between a b)) ≤ n) × (length (flat_map write after) ≤ n)
parts_shorter write x a b n from after low high is short =
    let long = ap length (from_one write x a b from after low high is) ∙ length-append (write (between a b)) (flat_map write after) in
    (omega arith, omega arith)

-- what stood there stays, if what stands there now does
pub front_kept : (old now new : List ℕ) → take (length now) new ≡ now → take (length old) now ≡ old → take (length old) new ≡ old
front_kept old now new kept front =
    let within : length old ≤ length now = omega (arith, ap length front, length-take (length old) now) in
    sym (take-take (length old) (length now) new within) ∙ ap (take (length old)) kept ∙ front

-- what is appended leaves it
pub appended_kept : (old now more new : List ℕ) → new ≡ now ++ more → take (length old) now ≡ old → take (length old) new ≡ old
appended_kept old now more new is front = front_kept old now new (ap (take (length now)) is ∙ take_at now more (length now) refl) front
