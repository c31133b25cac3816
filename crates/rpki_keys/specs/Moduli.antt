-- The one modulus of a key.
use Rattle.std.specs.Prelude.{◌≡◌, ℕ, List, length}
use Rattle.rpki_keys.specs.Octets.{os2ip}
use Rattle.rpki_keys.specs.RsaKeys.{IsRpkiRsaKey}

-- the octets are the modulus of the one key of the RPKI that has these bits
pub record IsOnlyModulus (bits octets : List ℕ) : Type 0 where
  pub long : length octets ≡ 256
  pub key : IsRpkiRsaKey (os2ip octets) 65537 bits
  pub only : (n e : ℕ) → IsRpkiRsaKey n e bits → (n ≡ os2ip octets) × (e ≡ 65537)
