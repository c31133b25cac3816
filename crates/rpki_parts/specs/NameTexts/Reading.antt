-- The text of a name, value by value as they are read.
use Rattle.std.specs.Prelude.{ℕ, zero, suc, List, [], ◌∷◌, length, map, Option, Some, codes}
use Rattle.rpki_der.specs.Tags.{SEQUENCE, SET}
use Rattle.rpki_der.specs.Values.Reading.{◌>>=◌, value_at}
use Rattle.rpki_parts.specs.NameTexts.{or_nothing, attribute_value_at, part_text, separated}

-- at most n values, as far as there are some
abbrev pub values_at : {V : Type 0} → (List ℕ → Option (V × List ℕ)) → ℕ → List ℕ → List V
values_at read zero octets = []
values_at read (suc n) octets = or_nothing (read octets >>= λ v. Some (v.0 ∷ values_at read n v.1))

-- the values that stand one after the other
unfoldable pub values_in : {V : Type 0} → (List ℕ → Option (V × List ℕ)) → List ℕ → List V
values_in read octets = values_at read (length octets) octets

-- a part by its content
abbrev pub written_part : List ℕ → List ℕ
written_part octets = part_text (values_in attribute_value_at octets)

-- parts by the content of an RDNSequence
abbrev pub written_parts : List ℕ → List ℕ
written_parts octets = separated [] (codes ", ") (map written_part (values_in (value_at SET) octets))

-- a Name
abbrev pub written_name : List ℕ → List ℕ
written_name octets = or_nothing (value_at SEQUENCE octets >>= λ v. Some (written_parts v.0))
