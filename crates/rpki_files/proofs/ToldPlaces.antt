-- What is told of a stop.
use Rattle.std.specs.Prelude.{Bool}
use Rattle.std.proofs.Common.{◌≡◌, ◌≤◌, ℕ, List, drop, length, refl, subst, sym}
use Rattle.rpki_files.specs.Flaws.{IsFirstFlaw}
use Rattle.rpki_files.specs.PartTexts.{part_description}
use Rattle.rpki_files.specs.StopPlaces.{IsStopOf, StopsAt}
use Rattle.rpki_files.specs.declared.expected.Part.{Part}
use Rattle.rpki_files.specs.declared.places.Place.{Place}

module _ (octets : List ℕ) (octet : ℕ) (place : Place) (at : place.octet ≡ octet) where
  -- a place tells of it
  pub told_stop : (is_list : Bool) (p : Part) → StopsAt is_list octets p octet →
      place.field.now ≡ (part_description p).name → place.wanted.now ≡ (part_description p).wanted
      → IsFirstFlaw is_list p (drop octet octets) place.found → IsStopOf is_list octets p place
  told_stop is_list p stops field wanted found = (
    record {
      part_is = p;
      stops = subst (λ (n : ℕ). StopsAt is_list octets p n) (sym at) stops;
      field_is = field;
      wanted_is = wanted;
      found_is = subst (λ (n : ℕ). IsFirstFlaw is_list p (drop n octets) place.found) (sym at) found;
    },
    refl,
  )

  -- its octet is within the file
  pub told_within : octet ≤ length octets → place.octet ≤ length octets
  told_within within = subst (λ (n : ℕ). n ≤ length octets) (sym at) within
