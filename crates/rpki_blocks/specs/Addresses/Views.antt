-- What contracts see of the families of an extension.
use Rattle.std.specs.Prelude.{Option}
use Rattle.rpki_blocks.specs.Addresses.{Families}
use Rattle.rpki_blocks.specs.Resources.{Resources}

-- the families as contracts see them
abbrev pub families_of : Option Resources × Option Resources → Families
families_of p = record { v4 = p.0; v6 = p.1 }
