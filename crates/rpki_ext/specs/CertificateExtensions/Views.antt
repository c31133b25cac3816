-- What contracts see of what the code keeps of extensions.
use Rattle.std.specs.Prelude.{ℕ, List, Option, Some, None}
use Rattle.rpki_blocks.specs.declared.overclaim.Overclaim.{Overclaim}
use Rattle.rpki_blocks.specs.Resources.{Resources}
use Rattle.rpki_blocks.specs.Addresses.{Ip, addresses}
use Rattle.rpki_ext.specs.SubjectAccess.{Access}

-- ---- the two families of addresses, with the mode under which they stand and without

-- the addresses that were seen, with the mode under which they stand
abbrev pub ip_of : Option (Overclaim × (Option Resources × Option Resources)) → Option (Overclaim × Ip)
ip_of None = None
ip_of (Some p) = Some (p.0, addresses (Some (record { v4 = p.1.0; v6 = p.1.1 })))

-- the addresses that were seen, without the mode
abbrev pub ip_in : Option (Option Resources × Option Resources) → Option Ip
ip_in None = None
ip_in (Some p) = Some (addresses (Some (record { v4 = p.0; v6 = p.1 })))

-- ---- the four URIs of Subject Information Access
-- the four URIs as contracts see them
abbrev pub access_with : Option (List ℕ) × Option (List ℕ) × Option (List ℕ) × Option (List ℕ) → Access
access_with u = record { ca_repository = u.0; rpki_manifest = u.1; signed_object = u.2; rpki_notify = u.3 }
