-- Ranges that several certificates hold, those of one behind those of another, or at one place (own).
use Rattle.std.specs.Prelude.{◌≡◌, ◌++◌, List, map}
use Rattle.rpki_cert.specs.Verification.{ResourceFields}
use Rattle.rpki_c.specs.Writing.{as_struct, ip_struct, IsPartAt}
use Rattle.rpki_c.specs.declared.ranges.Ranges.{Ranges}
use Rattle.rpki_c.specs.declared.ranges.RpkiHeld.{RpkiHeld}

-- of the ranges those at these places are the ones that are held
pub record AreHeldAt (r : ResourceFields) (ranges : Ranges) (held : RpkiHeld) : Type 0 where
  pub v4_is : IsPartAt ranges.v4.items held.v4_at held.v4 (map ip_struct r.v4)
  pub v6_is : IsPartAt ranges.v6.items held.v6_at held.v6 (map ip_struct r.v6)
  pub asn_is : IsPartAt ranges.asn.items held.asn_at held.asn (map as_struct r.as_numbers)

-- nothing is held
abbrev pub no_ranges_held : RpkiHeld
no_ranges_held = record { v4 = 0; v6 = 0; asn = 0; v4_at = 0; v6_at = 0; asn_at = 0 }

-- the items are still there, and others may follow
abbrev pub KeepsItems : {A : Type 0} → List A → List A → Type 0
KeepsItems {A} old new = (more : List A) × (new ≡ old ++ more)

-- the ranges are still there, and others may follow
pub record HaveGrown (old new : Ranges) : Type 0 where
  pub v4_on : KeepsItems old.v4.items new.v4.items
  pub v6_on : KeepsItems old.v6.items new.v6.items
  pub asn_on : KeepsItems old.asn.items new.asn.items
