-- The names that certificates of the RPKI have (RFC 6487 4.4, 4.5, RFC 8209 3.1.1; which strings
-- may stand is own).
use Rattle.std.specs.Prelude.{◌≡◌, ◌≤◌, ◌⊎◌, ℕ, Bool, true, false, List, [], ◌∷◌, length, filter, flat_map, bytes_eq}
use Rattle.std.specs.List.{AllByRecursion}
use Rattle.rpki_der.specs.Skipping.{levels}
use Rattle.rpki_der.specs.Tags.{PRINTABLE_STRING, UTF8_STRING}
use Rattle.rpki_parts.specs.Names.{common_name, serial_number, Attribute, rdn_sequence_format}
pub mod Reading

-- the attributes of this type
abbrev pub of_type : List ℕ → List Attribute → List Attribute
of_type id attributes = filter (λ a. bytes_eq a.type_id id) attributes

-- PrintableString; or, where inspection isn't strict, UTF8String too. Characters aren't tested
-- (own)
abbrev pub IsTextTag : Bool → ℕ → Type 0
IsTextTag true tag = tag ≡ PRINTABLE_STRING
IsTextTag false tag = (tag ≡ PRINTABLE_STRING) ⊎ (tag ≡ UTF8_STRING)

-- one CommonName, at most one serialNumber, and nothing else
pub record AreNameAttributes (strict : Bool) (attributes : List Attribute) : Type 0 where
  pub one_name : length (of_type common_name attributes) ≡ 1
  pub few_numbers : length (of_type serial_number attributes) ≤ 1
  pub no_other : AllByRecursion (λ a. (a.type_id ≡ common_name) ⊎ (a.type_id ≡ serial_number)) attributes
  pub texts : AllByRecursion (λ a. IsTextTag strict a.value_tag) attributes

-- the name is of the form that certificates have, in whatever parts its attributes stand (own)
pub record IsRpkiName (strict : Bool) (name : List ℕ) : Type 0 where
  pub parts : List (List Attribute)
  pub parts_are : (rdn_sequence_format levels).encodes parts name
  pub attributes_are : AreNameAttributes strict (flat_map (λ part. part) parts)

-- the name of a router has this form in either mode (own)
abbrev pub IsRouterName : List ℕ → Type 0
IsRouterName name = IsRpkiName false name
