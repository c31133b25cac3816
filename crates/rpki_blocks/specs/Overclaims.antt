-- Whether a certificate may overclaim, and the identifiers that say so (RFC 6484 1.2, RFC 8360
-- 4.2.1, 4.2.2.1, 4.2.2.3, RFC 3779 2.2.1, 3.2.1): contents of OBJECT IDENTIFIERs.
use Rattle.std.specs.Prelude.{◌≡◌, ◌≢◌, ℕ, List, Option, Some, None}
use Rattle.rpki_der.specs.Identifiers.{pkix}
use Rattle.rpki_blocks.specs.declared.overclaim.Overclaim.{Overclaim}
use Rattle.rpki_blocks.specs.declared.overclaim.Overclaim.TheVariants.{Refuse, Trim}
pub mod Reading

-- id-pe-ipAddrBlocks, or id-pe-ipAddrBlocks-v2 where overclaiming trims
abbrev pub ip_identifier : Overclaim → List ℕ
ip_identifier Refuse = pkix 0x01 0x07
ip_identifier Trim = pkix 0x01 0x1C

-- id-pe-autonomousSysIds, or id-pe-autonomousSysIds-v2 where overclaiming trims
abbrev pub as_identifier : Overclaim → List ℕ
as_identifier Refuse = pkix 0x01 0x08
as_identifier Trim = pkix 0x01 0x1D

-- id-cp-ipAddr-asNumber, or id-cp-ipAddr-asNumber-v2 where overclaiming trims
abbrev pub policy_identifier : Overclaim → List ℕ
policy_identifier Refuse = pkix 0x0E 0x02
policy_identifier Trim = pkix 0x0E 0x03

-- the one with this identifier, or there is none
abbrev pub IsNamed : (Overclaim → List ℕ) → List ℕ → Option Overclaim → Type 0
IsNamed identifier id (Some overclaim) = id ≡ identifier overclaim
IsNamed identifier id None = (overclaim : Overclaim) → id ≢ identifier overclaim
