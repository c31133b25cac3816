-- What a caller is told of where the reading of octets stops (own).
use Rattle.std.specs.Prelude.{◌≡◌, ◌⊎◌, ℕ, Bool, List, [], Option, Some, None}
use Rattle.rpki_der.specs.declared.error.DecodeError.{DecodeError}
use Rattle.rpki_files.specs.FlawTexts.{flaw_text}
use Rattle.rpki_files.specs.Misreads.{BeginsAsRead, IsMisread}
use Rattle.rpki_files.specs.declared.decoding.Misread.TheVariants.{Stopped}
use Rattle.rpki_files.specs.declared.flaws.Flaw.{Flaw}
use Rattle.rpki_files.specs.declared.places.Place.{Place}
use Rattle.rpki_c.specs.FaultNumbers.{decode_number}
use Rattle.rpki_c.specs.Writing.{IsWrittenInto}
use Rattle.rpki_c.specs.declared.stops.PartText.{PartText}
use Rattle.rpki_c.specs.declared.stops.PartText.TheVariants.{Name, Wanted, Found}
use Rattle.rpki_c.specs.declared.stops.RpkiStop.{RpkiStop}

-- ---- texts

abbrev pub text_number : PartText → ℕ
text_number Name = 0
text_number Wanted = 1
text_number Found = 2

-- of what is found, where that is told
abbrev pub found_text : Option Flaw → List ℕ
found_text None = []
found_text (Some flaw) = flaw_text flaw

-- of the part at which reading stops
abbrev pub place_text : PartText → Place → List ℕ
place_text Name place = place.field.now
place_text Wanted place = place.wanted.now
place_text Found place = found_text place.found

-- ---- stops

-- of octets that are read
abbrev pub no_stop : RpkiStop
no_stop = record { fault = 0; octet = 0 }

-- octets can't be read: the fault, where reading stops, and this text of the part there
pub record TellsPlace (is_list : Bool) (which : PartText) (octets : List ℕ) (stop : RpkiStop)
    (old new : List ℕ) (count : ℕ) : Type 0 where
  pub fault : DecodeError
  pub place : Place
  pub misread : IsMisread is_list octets (Stopped fault place)
  pub fault_is : stop.fault ≡ decode_number fault
  pub octet_is : stop.octet ≡ place.octet
  pub text : IsWrittenInto (place_text which place) old new count

-- what is told of octets that are read as a certificate, or as a list: they begin with one, and
-- nothing is written; or that
abbrev pub TellsStop : Bool → PartText → List ℕ → RpkiStop → List ℕ → List ℕ → ℕ → Type 0
TellsStop is_list which octets stop old new count =
    (BeginsAsRead is_list octets × (stop ≡ no_stop) × (new ≡ old) × (count ≡ 0))
    ⊎ TellsPlace is_list which octets stop old new count
