-- The extensions that are written of resources: critical, under the identifier of the mode, and
-- none where there is no content.
use Rattle.std.specs.Prelude.{ℕ, true, List, Option}
use Rattle.rpki_der.specs.Extensions.{part_of}
use Rattle.rpki_der.specs.Writers.{Part}
use Rattle.rpki_blocks.specs.Addresses.{ip_addr_blocks}
use Rattle.rpki_blocks.specs.Overclaims.{ip_identifier, as_identifier}
use Rattle.rpki_blocks.specs.Resources.{Resources}
use Rattle.rpki_blocks.specs.Systems.{written_as}
use Rattle.rpki_blocks.specs.declared.overclaim.Overclaim.{Overclaim}

-- the critical extension of this identifier, where there is a content
abbrev pub critical : List ℕ → Option (List ℕ) → Part
critical id c = part_of (record { identifier = id; critical = true; content = c })

-- the extension of IP addresses that is written of resources
abbrev pub ip_extension : Overclaim → Resources → Resources → Part
ip_extension mode v4 v6 = critical (ip_identifier mode) (ip_addr_blocks v4 v6)

-- the extension of AS numbers that is written of resources
abbrev pub as_extension : Overclaim → Resources → Part
as_extension mode r = critical (as_identifier mode) (written_as r)
