-- The number that callers in C are told of each fault: that of its line in the table (own).
use Rattle.std.specs.Prelude.{◌≡◌, ℕ, ◌+◌}
use Rattle.rpki_der.specs.declared.error.DecodeError.{DecodeError}
use Rattle.rpki_der.specs.declared.error.DecodeError.TheVariants as decoding
use Rattle.rpki_ext.specs.declared.inspection.InspectionError.{InspectionError}
use Rattle.rpki_cert.specs.declared.validation_error.ValidationError.TheVariants as validation
use Rattle.rpki_cert.specs.declared.verification_error.VerificationError.{VerificationError}
use Rattle.rpki_crl.specs.declared.revocation_error.RevocationError.{RevocationError}
use Rattle.rpki_files.specs.FaultTable.{field_number, inspection_fault, locator_fault, reading_fault}
use Rattle.rpki_files.specs.FaultTable.{revocation_fault, fault_named, verification_fault}
use Rattle.rpki_files.specs.declared.faults.FaultKind.TheVariants as kind
use Rattle.rpki_issuing.specs.NextLists.{next_list_error_name}
use Rattle.rpki_issuing.specs.declared.issuing_error.IssuingError.{IssuingError}
use Rattle.rpki_issuing.specs.declared.issuing_error.IssuingError.TheVariants as issuing
use Rattle.rpki_issuing.specs.declared.list_error.ListError.{ListError}
use Rattle.rpki_issuing.specs.declared.list_error.ListError.TheVariants as listing
use Rattle.rpki_issuing.specs.declared.next.NextListError.{NextListError}
use Rattle.rpki_issuing.specs.declared.wanted.preparing.WantedError.{WantedError}
use Rattle.rpki_issuing.specs.declared.wanted.preparing.WantedError.TheVariants as wanted
use Rattle.rpki_keys.specs.declared.tal.tal_error.TalError.{TalError}
use Rattle.rpki_path.specs.declared.path_fault.PathFault.{PathFault}
use Rattle.rpki_path.specs.declared.path_fault.PathFault.TheVariants as path
use Rattle.rpki_c.specs.declared.refusal.Refusal.{Refusal}
use Rattle.rpki_c.specs.declared.refusal.Refusal.TheVariants as refusal
use Rattle.rpki_c.specs.declared.unissued.Unissued.{Unissued}
use Rattle.rpki_c.specs.declared.unissued.Unissued.TheVariants as unissued

-- ---- faults of the table

-- the number of the part that a fault of reading speaks of, and 0 where it speaks of none
abbrev pub part_added : DecodeError → ℕ
part_added (decoding.Missing part) = field_number part
part_added (decoding.Duplicate part) = field_number part
part_added (decoding.Critical part) = field_number part
part_added (decoding.NotCritical part) = field_number part
part_added (decoding.WrongResources part) = field_number part
part_added e = 0

-- faults of reading
abbrev pub decode_number : DecodeError → ℕ
decode_number e = (reading_fault e).number + part_added e

-- the number is that of a fault of reading
abbrev pub IsReadingNumber : ℕ → Type 0
IsReadingNumber number = (e : DecodeError) × (number ≡ decode_number e)

-- faults of inspection
abbrev pub inspection_number : InspectionError → ℕ
inspection_number e = (inspection_fault e).number

-- faults of verification
abbrev pub verification_number : VerificationError → ℕ
verification_number e = (verification_fault e).number

-- faults of revocation
abbrev pub revocation_number : RevocationError → ℕ
revocation_number e = (revocation_fault e).number

-- faults of a locator
abbrev pub locator_number : TalError → ℕ
locator_number e = (locator_fault e).number

-- why no such list follows another
abbrev pub next_list_number : NextListError → ℕ
next_list_number e = (fault_named kind.Issuing (next_list_error_name e)).number

-- ---- the library's own

-- faults of a path's member
abbrev pub path_number : PathFault → ℕ
path_number (path.Decode e) = decode_number e
path_number (path.Inspect e) = inspection_number e
path_number (path.Verify e) = verification_number e
path_number (path.Revocation e) = revocation_number e
path_number path.Memory = 1

-- why a path isn't accepted
abbrev pub refusal_number : Refusal → ℕ
refusal_number refusal.BadCall = 2
refusal_number refusal.Memory = 1
refusal_number (refusal.Locator e) = locator_number e
refusal_number refusal.OtherKey = 601
refusal_number (refusal.NoResources place) = 602
refusal_number (refusal.List place e) = decode_number e
refusal_number (refusal.Member e) = path_number e.fault
refusal_number (refusal.OtherName place) = 600
refusal_number refusal.UnusedKey = 603

-- why a certificate isn't ready to be signed, or its signature isn't taken
abbrev pub issuing_number : IssuingError → ℕ
issuing_number issuing.Unwritable = 804
issuing_number issuing.TooLong = 805
issuing_number (issuing.Invalid (validation.Inspection e)) = inspection_number e
issuing_number (issuing.Invalid (validation.Verification e)) = verification_number e
issuing_number issuing.Memory = 1

-- why a list isn't ready to be signed, or its signature isn't taken
abbrev pub list_number : ListError → ℕ
list_number (listing.Invalid e) = revocation_number e
list_number listing.TooLong = 805
list_number listing.Memory = 1

-- why what is wanted isn't prepared or completed
abbrev pub wanted_number : WantedError → ℕ
wanted_number wanted.NoRole = 2
wanted_number (wanted.Broken rule) = 804
wanted_number (wanted.Unready e) = issuing_number e
wanted_number wanted.OtherOctets = 807
wanted_number (wanted.Unsigned e) = issuing_number e
wanted_number (wanted.Listed e) = revocation_number e
wanted_number (wanted.NoList e) = next_list_number e
wanted_number (wanted.UnreadyList e) = list_number e
wanted_number (wanted.UnsignedList e) = list_number e
wanted_number wanted.Memory = 1

-- why no certificate and no list is prepared or completed
abbrev pub unissued_number : Unissued → ℕ
unissued_number unissued.BadCall = 2
unissued_number unissued.Memory = 1
unissued_number (unissued.Issuer r) = refusal_number r
unissued_number unissued.NoKey = 800
unissued_number unissued.UnusedKey = 801
unissued_number (unissued.BadUri which) = 802
unissued_number unissued.NoName = 803
unissued_number unissued.OtherList = 808
unissued_number unissued.NotToSign = 806
unissued_number unissued.OtherName = 600
unissued_number (unissued.Unfit e) = wanted_number e
