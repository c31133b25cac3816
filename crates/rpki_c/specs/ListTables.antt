-- The serial numbers of a revocation list in the caller's memory, which are asked often (own).
use Rattle.std.specs.Prelude.{ℕ, List, map}
use Rattle.std.specs.Int.Digits.{number_from_digits}
use Rattle.std.specs.List.Sorted.{IsPermutation}
use Rattle.rpki_crl.specs.RevokedEntries.{Entry}
use Rattle.rpki_crl.specs.SerialTables.{AreAscending, serials_of}
use Rattle.rpki_c.specs.declared.tables.RpkiSerial.{RpkiSerial}

-- the serial number of an entry; its hint says nothing
abbrev pub entry_serial : RpkiSerial → ℕ
entry_serial it = number_from_digits 256 it.serial

-- those of a table
abbrev pub serials_in : List RpkiSerial → List ℕ
serials_in table = map entry_serial table

-- the table has the serial numbers of these entries, ascending
pub record IsSerialTable (entries : List Entry) (table : List RpkiSerial) : Type 0 where
  pub serials_are : IsPermutation (serials_of entries) (serials_in table)
  pub ascending : AreAscending (serials_in table)
