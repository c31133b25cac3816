-- How extensions of a kind are read.
use Rattle.std.specs.Prelude.{ℕ, List, Option, Some, Bool, true, false, if◌then◌else◌, None, bytes_eq}
use Rattle.rpki_der.specs.Values.Reading.{◌>>=◌}
use Rattle.rpki_der.specs.Extensions.{Extension}
use Rattle.rpki_der.specs.Folding.{Fold, once_fold}
use Rattle.rpki_blocks.specs.declared.overclaim.Overclaim.{Overclaim}
use Rattle.rpki_blocks.specs.declared.overclaim.Overclaim.TheVariants.{Refuse, Trim}
use Rattle.rpki_ext.specs.Kinds.{Flag, ExtensionKind, is_of, identifiers, Tells, identifiers_by_mode, TellsUnder, required, untested}

-- ---- what an extension tells

-- a front of a content
abbrev pub front : {V : Type 0} → (List ℕ → Option (V × List ℕ)) → List ℕ → Option V
front read content = read content >>= λ v. Some v.0

-- the value, where the flag is one that the kind may have
abbrev pub if_flagged : {V : Type 0} → Flag → Bool → Option V → Option V
if_flagged (required true) critical v = if critical then v else None
if_flagged (required false) critical v = if critical then None else v
if_flagged (untested written) critical v = v

-- with the flag of the kind
abbrev pub told : {V : Type 0} → ExtensionKind V → Extension → Option V
told kind x = if_flagged kind.flag x.critical (front kind.format.read x.content)

-- a kind that stands at most once
abbrev pub kind_fold : {V : Type 0} → ExtensionKind V → Fold Extension (Option V)
kind_fold kind = once_fold (is_of (identifiers kind)) (told kind) (Tells kind)

-- ---- kinds with an identifier for each mode

-- the mode that an identifier shows
abbrev pub mode_by : {V : Type 0} → (Overclaim → ExtensionKind V) → List ℕ → Option Overclaim
mode_by kinds id = if bytes_eq id (kinds Refuse).identifier then Some Refuse else if bytes_eq id
    (kinds Trim).identifier then Some Trim else None

-- the mode that the identifier shows, and the value that the extension tells
abbrev pub told_with_mode : {V : Type 0} → (Overclaim → ExtensionKind V) → Extension → Option (Overclaim × V)
told_with_mode kinds x = mode_by kinds x.identifier >>= λ mode. told (kinds mode) x >>= λ v. Some (mode, v)

-- at most one under both identifiers, with the mode that it shows
abbrev pub modes_fold : {V : Type 0} → (Overclaim → ExtensionKind V) → Fold Extension (Option (Overclaim × V))
modes_fold kinds = once_fold (is_of (identifiers_by_mode kinds)) (told_with_mode kinds) (λ x v. TellsUnder kinds v.0 x v.1)
