-- A stop is at one of a file's octets, or right behind them.
use Rattle.std.proofs.Common.{◌≡◌, ◌≤◌, ℕ, Bool, true, false, List, length, inl, inr, refl, ◌∙◌, arith}
use Rattle.rpki_der.specs.Place.{Place}
use Rattle.rpki_files.specs.StopPlaces.{Opens, Passes, ReadsToExtensions, StopsAmong, StopsAmongElements, StopsAt}
use Rattle.rpki_files.specs.StopPlaces.{StopsAtEntries, StopsAtExtension, StopsAtExtensions, StopsBefore}
use Rattle.rpki_files.specs.StopPlaces.{StopsBeforeExtensions, StopsBehind, StopsBehindSigned, StopsInSigned}
use Rattle.rpki_files.specs.StopPlaces.{StopsInside, whole_place}
use Rattle.rpki_files.specs.declared.expected.Part.{Part}

module _ (octets : List ℕ) where
  -- the place is one of the file
  pub record IsIn (at : Place) : Type 0 where
    pub source : at.source ≡ octets
    pub order : at.from ≤ at.to
    pub end : at.to ≤ length octets

  passes_in : (Is : List ℕ → Type 0) (at next : Place) → IsIn at → Passes Is at next → IsIn next
  passes_in Is at next h p = record { source = p.moves.source ∙ h.source; order = p.order; end = omega (arith, p.moves.to, h.end) }

  inner_in : (tag : ℕ) (at inner next : Place) → IsIn at → Opens tag at inner next → IsIn inner
  inner_in tag at inner next h p = record { source = p.inside.source ∙ h.source; order = p.order; end = omega (arith, p.inside.to, h.end) }

  before_in : (Is : List ℕ → Type 0) (wanted : Part) (at : Place) (stop : Part) (octet : ℕ) → IsIn at →
      StopsBefore Is wanted at stop octet → octet ≤ length octets
  before_in Is wanted at stop octet h s = omega (arith, s.octet_is, h.order, h.end)

  behind_in : (at : Place) (stop : Part) (octet : ℕ) → IsIn at → StopsBehind at stop octet → octet ≤ length octets
  behind_in at stop octet h s = omega (arith, s.octet_is, h.order, h.end)

  begins_in : (at : Place) (octet : ℕ) → IsIn at → octet ≡ at.from → octet ≤ length octets
  begins_in at octet h is = omega (arith, is, h.order, h.end)

  among_in : (fields : List _) (at : Place) (stop : Part) (octet : ℕ) → IsIn at → StopsAmong fields at stop octet → octet ≤ length octets
  among_in fields at stop octet h s = before_in _ _ s.next stop octet (passes_in _ at s.next h s.read) s.stops

  entries_in : (at : Place) (stop : Part) (octet : ℕ) → IsIn at → StopsAtEntries at stop octet → octet ≤ length octets
  entries_in at stop octet h (inl s) = before_in _ _ at stop octet h s.1
  entries_in at stop octet h (inr (inner, next, opens, s)) =
      before_in _ _ s.next stop octet (passes_in _ inner s.next (inner_in _ at inner next h opens) s.read) s.stops

  fields_in : (is_list : Bool) (at : Place) (stop : Part) (octet : ℕ) → IsIn at →
      StopsBeforeExtensions is_list at stop octet → octet ≤ length octets
  fields_in false at stop octet h s = among_in _ at stop octet h s
  fields_in true at stop octet h (inl s) = among_in _ at stop octet h s
  fields_in true at stop octet h (inr (entries, read, s)) = entries_in entries stop octet (passes_in _ at entries h read) s

  past_fields_in : (is_list : Bool) (at next : Place) → IsIn at → ReadsToExtensions is_list at next → IsIn next
  past_fields_in false at next h read = passes_in _ at next h read
  past_fields_in true at next h (entries, first, read) = passes_in _ entries next (passes_in _ at entries h first) read.passes

  extension_in : (is_list : Bool) (kinds : List _) (at : Place) (stop : Part) (octet : ℕ) → IsIn at →
      StopsAtExtension is_list kinds at stop octet → octet ≤ length octets
  extension_in is_list kinds at stop octet h (inl s) = before_in _ _ at stop octet h s
  extension_in is_list kinds at stop octet h (inr (x, rest, begins, is, told)) = begins_in at octet h is

  elements_in : (is_list : Bool) (field_at elements : Place) (stop : Part) (octet : ℕ) → IsIn field_at →
      IsIn elements → StopsAmongElements is_list field_at.from elements stop octet → octet ≤ length octets
  elements_in is_list field_at elements stop octet f h (inl s) = extension_in is_list _ s.next stop octet
      (passes_in _ elements s.next h s.read) s.stops
  elements_in is_list field_at elements stop octet f h (inr (lack, told, is)) = begins_in field_at octet f is

  extensions_in : (is_list : Bool) (at : Place) (stop : Part) (octet : ℕ) → IsIn at →
      StopsAtExtensions is_list at stop octet → octet ≤ length octets
  extensions_in is_list at stop octet h (inl s) = before_in _ _ at stop octet h s
  extensions_in is_list at stop octet h (inr (tagged, next, opens, inl s)) =
      before_in _ _ tagged stop octet (inner_in _ at tagged next h opens) s
  extensions_in is_list at stop octet h (inr (tagged, next, opens, inr (elements, behind, inner, inl s))) =
      elements_in is_list at elements stop octet h (inner_in _ tagged elements behind (inner_in _ at tagged next h opens) inner) s
  extensions_in is_list at stop octet h (inr (tagged, next, opens, inr (elements, behind, inner, inr (all, s)))) =
      behind_in behind stop octet (passes_in _ tagged behind (inner_in _ at tagged next h opens) inner.value) s

  signed_in : (is_list : Bool) (at : Place) (stop : Part) (octet : ℕ) → IsIn at →
      StopsInSigned is_list at stop octet → octet ≤ length octets
  signed_in is_list at stop octet h (inl s) = fields_in is_list at stop octet h s
  signed_in is_list at stop octet h (inr (extensions, read, inl s)) = extensions_in is_list extensions stop octet
      (past_fields_in is_list at extensions h read) s
  signed_in is_list at stop octet h (inr (extensions, read, inr (behind, all, s))) =
      behind_in behind stop octet (passes_in _ extensions behind (past_fields_in is_list at extensions h read) all.opens.value) s

  behind_signed_in : (is_list : Bool) (signed at : Place) (stop : Part) (octet : ℕ) → IsIn at →
      StopsBehindSigned is_list signed at stop octet → octet ≤ length octets
  behind_signed_in is_list signed at stop octet h (inl (inl s)) = before_in _ _ at stop octet h s
  behind_signed_in is_list signed at stop octet h (inl (inr (other, told, is))) = begins_in at octet h is
  behind_signed_in is_list signed at stop octet h (inr (next, read, told, is)) = begins_in next octet (passes_in _ at next h read.passes) is

  inside_in : (is_list : Bool) (outer : Place) (stop : Part) (octet : ℕ) → IsIn outer →
      StopsInside is_list outer stop octet → octet ≤ length octets
  inside_in is_list outer stop octet h (inl s) = before_in _ _ outer stop octet h s
  inside_in is_list outer stop octet h (inr (signed, next, opens, inl s)) =
      signed_in is_list signed stop octet (inner_in _ outer signed next h opens) s
  inside_in is_list outer stop octet h (inr (signed, next, opens, inr (read, s))) =
      behind_signed_in is_list signed next stop octet (passes_in _ outer next h opens.value) s

  -- so is any
  pub stops_within : (is_list : Bool) (stop : Part) (octet : ℕ) → StopsAt is_list octets stop octet → octet ≤ length octets
  stops_within is_list stop octet s = by_part s
    where
      all : IsIn (whole_place octets)
      all = record { source = refl; order = omega arith; end = omega arith }

      by_part : StopsAt is_list octets stop octet → octet ≤ length octets
      by_part (inl t) = before_in _ _ (whole_place octets) stop octet all t
      by_part (inr (outer, next, opens, t)) = inside_in is_list outer stop octet (inner_in _ (whole_place octets) outer next all opens) t
