-- Places by key.
use Rattle.std.specs.Prelude.{ℕ, ◌+◌, List, [], ◌∷◌, ◌++◌, if◌then◌else◌, bytes_eq, unwrap_or, option_map}
use Rattle.std.specs.BTreeMap.{BTreeMap, get}
use Rattle.std.specs.Ordering.{nat_cmp}
use Rattle.std.specs.Cmp.Lexicographic.{slice_cmp}
use Rattle.std.specs.Global.{Vec}
use Rattle.rpki_crl.specs.Lists.{CrlState}

-- the places that the map has for the key
abbrev pub places_in : BTreeMap (List ℕ) (Vec ℕ) → List ℕ → List ℕ
places_in m key = unwrap_or (option_map (λ v. v.items) (get (slice_cmp nat_cmp) m key)) []

-- the places of a key, with one more where it is that key
abbrev pub with_place : List ℕ → ℕ → List ℕ → List ℕ → List ℕ
with_place key place k places = if bytes_eq key k then places ++ place ∷ [] else places

-- ---- lists

-- the key that the list names as the one that signs it
abbrev pub signer_of : CrlState → List ℕ
signer_of l = l.list.fields.extensions.authority_key_identifier

-- of lists, the first of which stands at this place, the places of those that name the key as the
-- one that signs them
abbrev pub list_places_from : ℕ → List ℕ → List CrlState → List ℕ
list_places_from first key [] = []
list_places_from first key (l ∷ lists) =
    if bytes_eq (signer_of l) key then first ∷ list_places_from (first + 1) key lists
    else list_places_from (first + 1) key lists

-- the same, of all lists
abbrev pub list_places : List ℕ → List CrlState → List ℕ
list_places key lists = list_places_from 0 key lists
