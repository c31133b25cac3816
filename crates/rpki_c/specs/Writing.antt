-- What stands in a caller's memory once a call has written there (own).
use Rattle.std.specs.Prelude.{◌≡◌, ◌≤◌, ◌+◌, ℕ, List, ◌++◌, length, take, drop, slice_range}
use Rattle.std.specs.Int.{w128, to_be_bytes}
use Rattle.rpki_blocks.specs.Sets.{Block}
use Rattle.rpki_c.specs.declared.copying.RpkiIpRange.{RpkiIpRange}
use Rattle.rpki_c.specs.declared.copying.RpkiAsRange.{RpkiAsRange}

-- as many of the items as there is room for, and behind them what stood there before
abbrev pub written_over : {A : Type 0} → List A → List A → List A
written_over items old = take (length old) items ++ drop (length items) old

-- so many of the items, behind so many others, are these
abbrev pub IsPartAt : {A : Type 0} → List A → (at count : ℕ) → List A → Type 0
IsPartAt all at count part = (at + count ≤ length all) × (slice_range all at (at + count) ≡ part)

-- both ends in 16 octets, the greatest first
abbrev pub ip_struct : Block → RpkiIpRange
ip_struct it = record { min = to_be_bytes w128 it.min; max = to_be_bytes w128 it.max }

abbrev pub as_struct : Block → RpkiAsRange
as_struct it = record { min = it.min; max = it.max }

-- the items stand in the caller's memory, as many as there is room for, and all are counted
abbrev pub IsWrittenInto : {A : Type 0} → List A → List A → List A → ℕ → Type 0
IsWrittenInto items old new count = (new ≡ written_over items old) × (count ≡ length items)
