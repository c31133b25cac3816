-- What a certificate gets of the numbers that its issuer has (RFC 6487 7.2, RFC 8360 4.2.4.4).
use Rattle.std.specs.Prelude.{ℕ, ◌≤◌, ◌↔◌, List}
use Rattle.rpki_blocks.specs.Sets.{Block, Has}
use Rattle.rpki_blocks.specs.Resources.{Resources, missing, inherit, blocks}

-- the resources list n
abbrev pub IsListed : ℕ → Resources → Type 0
IsListed n missing = ⊥
IsListed n inherit = ⊥
IsListed n (blocks chain) = Has chain n

-- a number up to the greatest that is listed, and that the issuer doesn't have
pub record IsOverclaim (greatest : ℕ) (issuer : ℕ → Type 0) (r : Resources) : Type 0 where
  pub number : ℕ
  pub small : number ≤ greatest
  pub listed : IsListed number r
  pub not_held : issuer number → ⊥

-- n is in the issued set: the issuer has it, and it is inherited or listed
abbrev pub Gets : (ℕ → Type 0) → Resources → ℕ → Type 0
Gets issuer missing n = ⊥
Gets issuer inherit n = issuer n
Gets issuer (blocks chain) n = Has chain n × issuer n

-- the set has the numbers that the resources give under an issuer with the set held
abbrev pub IsIssued : List Block → Resources → List Block → Type 0
IsIssued held r set = (n : ℕ) → Has set n ↔ Gets (Has held) r n
