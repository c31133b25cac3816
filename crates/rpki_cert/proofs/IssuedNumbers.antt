-- Numbers that are issued are held.
use Rattle.std.proofs.Common.{ℕ, List}
use Rattle.rpki_blocks.specs.Sets.{Block, Has, AreIn}
use Rattle.rpki_blocks.specs.Resources.{Resources, missing, inherit, blocks}
use Rattle.rpki_blocks.specs.IssuedSets.{Gets, IsIssued}

held : (issuer : ℕ → Type 0) (r : Resources) (n : ℕ) → Gets issuer r n → issuer n
held issuer missing n h = absurd h
held issuer inherit n h = h
held issuer (blocks chain) n h = h.1

-- issued numbers are the issuer's
pub issued_in : (issuer : List Block) (r : Resources) (set : List Block) → IsIssued issuer r set → AreIn set issuer
issued_in issuer r set h n p = held (Has issuer) r n ((h n).0 p)
