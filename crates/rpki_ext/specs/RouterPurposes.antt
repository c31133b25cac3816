-- The purpose of a router's key (RFC 8209 3.1.3.2).
use Rattle.std.specs.Prelude.{ℕ, List, IsTrue, bytes_eq, Bool, Some, ◌||◌}
use Rattle.std.specs.List.{list_any}
use Rattle.rpki_der.specs.Folding.{Step}
use Rattle.rpki_der.specs.Identifiers.{pkix}
use Rattle.rpki_der.specs.Primitives.{IsObjectIdentifier}
use Rattle.rpki_der.specs.Sequences.{AreEncodings}

-- id-kp-bgpsec-router
abbrev pub router_purpose : List ℕ
router_purpose = pkix 0x03 0x1E

-- whether the identifier is id-kp-bgpsec-router
abbrev pub is_router_purpose : List ℕ → Bool
is_router_purpose id = bytes_eq id router_purpose

-- the identifiers that are kept have the router's purpose among them
pub record HasRouterPurpose (kept : List ℕ) : Type 0 where
  pub ids : List (List ℕ)
  pub elements : AreEncodings IsObjectIdentifier ids kept
  pub among : IsTrue (list_any is_router_purpose ids)

-- ---- how it is searched for

-- the step that remembers whether the router's purpose was seen
abbrev pub or_router : Step (List ℕ) Bool
or_router found id = Some (found || is_router_purpose id)
