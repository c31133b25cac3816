-- What is written of the kinds in a table gives their values.
use Rattle.std.specs.List.{AllByRecursion, AllZip}
use Rattle.std.specs.Prelude.{IfSome}
use Rattle.std.proofs.Common.{ℕ, List, [], ◌∷◌}
use Rattle.rpki_der.specs.Extensions.{OptionalExtension}
use Rattle.rpki_der.proofs.WrittenOctets.{IfShort}
use Rattle.rpki_ext.specs.KindTables.{KindTable, no_kinds, kind, modes, Values, GiveEach, parts_of}
use Rattle.rpki_ext.specs.Kinds.{identifiers, identifiers_by_mode}
use Rattle.rpki_ext.proofs.KindTables.{AreKinds}
use Rattle.rpki_ext.proofs.KindsWritten.{IsOnly, written, gives, gives_under, ok_part}

-- their identifiers
abbrev pub identifiers_by_kind : KindTable → List (List (List ℕ))
identifiers_by_kind no_kinds = []
identifiers_by_kind (kind k t) = identifiers k ∷ identifiers_by_kind t
identifiers_by_kind (modes ks t) = identifiers_by_mode ks ∷ identifiers_by_kind t

-- the values can be written
abbrev pub Fit : (t : KindTable) → Values t → Type 0
Fit no_kinds v = Unit {0}
Fit (kind k t) v = IfSome v.0 k.format.fits × Fit t v.1
Fit (modes ks t) v = IfSome v.0.1 (ks v.0.0).format.fits × Fit t v.1

-- what is written of a table's values gives these values
pub table_given : (t : KindTable) → AreKinds t → (all : List OptionalExtension) (v : Values t) → Fit t v →
    AllZip (IsOnly all) (identifiers_by_kind t) (parts_of t v) → GiveEach t (written all) v
table_given no_kinds is all v fits h = tt
table_given (kind k t) is all v fits h = (gives k is.0 v.0 h.0 fits.0, table_given t is.1 all v.1 fits.1 h.1)
table_given (modes ks t) is all v fits h = (gives_under ks v.0.0 (is.0.1 v.0.0) v.0.1 h.0 fits.0, table_given t is.1 all v.1 fits.1 h.1)

-- what is written of a table's values consists of octets
pub table_octets : (t : KindTable) → AreKinds t → (v : Values t) → Fit t v → AllByRecursion (λ p. IfSome p.content IfShort) (parts_of t v)
table_octets no_kinds is v fits = tt
table_octets (kind k t) is v fits = (ok_part k is.0 v.0 fits.0, table_octets t is.1 v.1 fits.1)
table_octets (modes ks t) is v fits = (ok_part (ks v.0.0) (is.0.1 v.0.0) v.0.1 fits.0, table_octets t is.1 v.1 fits.1)
