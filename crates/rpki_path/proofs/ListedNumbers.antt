-- Resources that aren't missing and aren't inherited list a number.
use Rattle.std.proofs.Common.{◌≡◌, ◌≢◌, ◌≤◌, ℕ, List, [], ◌∷◌, refl, arith}
use Rattle.rpki_blocks.specs.IssuedSets.{IsListed}
use Rattle.rpki_blocks.specs.Resources.{Resources, missing, inherit, blocks, IsResources}
use Rattle.rpki_blocks.specs.Sets.{Block}
use Rattle.rpki_blocks.proofs.Sets.{in_head, chain_head}

pub lists_one : (greatest : ℕ) (r : Resources) → IsResources greatest r → r ≢ missing → r ≢ inherit →
    (n : ℕ) × IsListed n r
lists_one greatest missing fits there own = absurd (there refl)
lists_one greatest inherit fits there own = absurd (own refl)
lists_one greatest (blocks []) fits there own = absurd (fits.0 refl)
lists_one greatest (blocks (b ∷ bs)) fits there own = let low : b.min ≤ b.min = omega arith in
    (b.min, in_head b.min b bs low (chain_head b bs fits.1.chain))

-- missing ones list none
pub none_missing : (r : Resources) (n : ℕ) → IsListed n r → r ≢ missing
none_missing missing n is = absurd is
none_missing inherit n is = absurd is
none_missing (blocks bs) n is = λ same. absurd (cc same)

-- nor do inherited ones
pub none_inherited : (r : Resources) (n : ℕ) → IsListed n r → r ≡ inherit → ⊥
none_inherited missing n is = absurd is
none_inherited inherit n is = absurd is
none_inherited (blocks bs) n is = λ same. absurd (cc same)
