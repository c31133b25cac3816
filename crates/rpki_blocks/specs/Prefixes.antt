-- Addresses that begin with a prefix (RFC 3779 2.1.1, 2.1.2).
use Rattle.std.specs.Prelude.{◌≡◌, ℕ, ◌+◌, ◌-◌, ◌*◌, ◌/◌, ◌%◌, ◌^◌, ◌==◌, ◌&&◌, Bool, true}
use Rattle.std.specs.List.{list_all}
use Rattle.rpki_blocks.specs.Resources.{Resources, missing, inherit, blocks}
use Rattle.rpki_blocks.specs.Sets.{Block}

-- the first len bits of addr; the Rust struct Prefix
pub record FirstBits : Type 0 where
  pub addr : ℕ
  pub len : ℕ

-- the addresses of 128 bits whose first len bits are those of addr
pub record IsPrefixBlock (addr len : ℕ) (b : Block) : Type 0 where
  pub lower : b.min ≡ addr / 2 ^ (128 - len) * 2 ^ (128 - len)
  pub upper : b.max + 1 ≡ b.min + 2 ^ (128 - len)

-- whether the block is one of whole IPv4 addresses, which stand in the upper 32 bits: 96 zero bits
-- at the foot of the lower end, 96 one bits at that of the upper end
abbrev pub is_v4_block : Block → Bool
is_v4_block b = (b.min % 2 ^ 96 == 0) && (b.max % 2 ^ 96 == 2 ^ 96 - 1)

-- each block is one of whole IPv4 addresses
abbrev pub AreV4 : Resources → Type 0
AreV4 missing = Unit {0}
AreV4 inherit = Unit {0}
AreV4 (blocks bs) = list_all is_v4_block bs ≡ true
