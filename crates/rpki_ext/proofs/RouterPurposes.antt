-- The search for the router's purpose finds what its definition says.
use Rattle.std.specs.List.{list_any}
use Rattle.std.proofs.Common.{◌≡◌, ℕ, Bool, true, false, ◌||◌, List, [], ◌∷◌, Some, refl, sym, ap, ◌∙◌}
use Rattle.rpki_der.specs.Folding.{steps, over}
use Rattle.rpki_der.specs.Primitives.{IsObjectIdentifier}
use Rattle.rpki_der.specs.Primitives.Reading.{oid_at}
use Rattle.rpki_der.specs.Sequences.Reading.{sequence_of}
use Rattle.rpki_der.specs.Values.{AreOctets}
use Rattle.rpki_der.proofs.IdentifierReads.{oid_reads}
use Rattle.rpki_der.proofs.Octets.{bind_some, some, some_is}
use Rattle.rpki_der.proofs.Sequences.{elements_are, sequence_again}
use Rattle.rpki_ext.specs.RouterPurposes.{HasRouterPurpose, is_router_purpose, or_router}
use Rattle.rpki_ext.proofs.CertificateExtensions.{oid_shrinks}

abbrev any : List (List ℕ) → Bool
any = list_any is_router_purpose

or_first : (a b c : Bool) → ((a || b) || c) ≡ (a || (b || c))
or_first true b c = refl
or_first false b c = refl

or_false : (a : Bool) → (a || false) ≡ a
or_false true = refl
or_false false = refl

found_in : (found : Bool) (ids : List (List ℕ)) → steps or_router found ids ≡ some (found || any ids)
found_in found [] = ap some (sym (or_false found))
found_in found (id ∷ ids) = found_in (found || is_router_purpose id) ids ∙ ap some (or_first found (is_router_purpose id) (any ids))

-- a search that finds the router's purpose says that it is there
pub found_is : (kept : List ℕ) → AreOctets kept → over oid_at or_router false kept ≡ Some true → HasRouterPurpose kept
unfolding over
found_is kept low e =
    let a = bind_some (sequence_of oid_at kept) (λ ids. steps or_router false ids) true e in
    record {
      ids = a.0;
      elements = elements_are oid_at IsObjectIdentifier oid_reads kept a.0 low a.1;
      among =
          some_is (any a.0) true (sym (found_in false a.0) ∙ a.2);
    }

-- the router's purpose is found where it is there
pub is_found : (kept : List ℕ) → HasRouterPurpose kept → over oid_at or_router false kept ≡ Some true
unfolding over
is_found kept h = rw (sequence_again oid_at IsObjectIdentifier oid_reads oid_shrinks h.ids kept h.elements)
    (found_in false h.ids ∙ ap some h.among)
