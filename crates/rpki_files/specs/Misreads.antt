-- Why octets can't be read as a certificate, or as a list (own).
use Rattle.std.specs.Prelude.{◌≢◌, ◌≤◌, ◌↔◌, ℕ, Bool, IsTrue, true, false, List, drop, length, Option, Some, None}
use Rattle.rpki_der.specs.declared.error.DecodeError.{DecodeError}
use Rattle.rpki_der.specs.declared.error.DecodeError.TheVariants as decoding
use Rattle.rpki_files.specs.Contents.{BeginsWithCertificate, BeginsWithList}
use Rattle.rpki_files.specs.NamedFaults.{NamesTruly}
use Rattle.rpki_files.specs.StopPlaces.{IsStopPlace}
use Rattle.rpki_files.specs.declared.decoding.Misread.{Misread}
use Rattle.rpki_files.specs.declared.decoding.Misread.TheVariants as misread
use Rattle.rpki_files.specs.declared.places.Place.{Place}

-- the octets begin with what they are read as: with a certificate, or with a list
abbrev pub BeginsAsRead : Bool → List ℕ → Type 0
BeginsAsRead false octets = BeginsWithCertificate octets
BeginsAsRead true octets = BeginsWithList octets

-- reading stops at the place, and what the fault names is true of it
abbrev pub StopsFor : Bool → List ℕ → DecodeError → Place → Type 0
StopsFor is_list octets fault place =
    (stops : IsStopPlace is_list octets place) × NamesTruly is_list stops.part_is (drop place.octet octets) fault

-- reading stops at the place, and it is told whether what the fault names is true of it
abbrev pub TellsTruth : Bool → List ℕ → DecodeError → Place × Bool → Type 0
TellsTruth is_list octets fault stop =
    (stops : IsStopPlace is_list octets stop.0)
    × (IsTrue stop.1 ↔ NamesTruly is_list stops.part_is (drop stop.0.octet octets) fault)

-- the fault that is told: the one that was read where it is true, and else the plain one
abbrev pub kept_fault : DecodeError → Bool → DecodeError
kept_fault fault true = fault
kept_fault fault false = decoding.BadValue

-- memory ran out; or they begin with none, the fault is another, and reading stops for it at the
-- place, which is one of the octets or their end
abbrev pub IsMisread : Bool → List ℕ → Misread → Type 0
IsMisread is_list octets misread.Memory = Unit {0}
IsMisread is_list octets (misread.Stopped fault place) =
    (BeginsAsRead is_list octets → ⊥) × (fault ≢ decoding.Memory) × StopsFor is_list octets fault place
    × (place.octet ≤ length octets)

-- the place that is told, unless memory ran out
abbrev pub place_told : Misread → Option Place
place_told misread.Memory = None
place_told (misread.Stopped fault place) = Some place
