-- A number as its upper and its lower 128 bits.
use Rattle.std.proofs.Common.{arith}
use Rattle.std.specs.Prelude.{◌≡◌, ℕ, ◌+◌, ◌*◌, ◌/◌, ◌^◌, ◌<◌, ◌%◌}

-- the upper half of a number of 256 bits
pub high_half : (h l : ℕ) → l < 2 ^ 128 → (h * 2 ^ 128 + l) / 2 ^ 128 ≡ h
high_half h l lt = omega arith

-- the lower half of a number of 256 bits
pub low_half : (h l : ℕ) → l < 2 ^ 128 → (h * 2 ^ 128 + l) % 2 ^ 128 ≡ l
low_half h l lt = omega arith
