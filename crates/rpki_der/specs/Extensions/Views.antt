-- What contracts see of an extension.
use Rattle.std.specs.Prelude.{ℕ, Bool, List}
use Rattle.std.specs.Borrow.{Bor}
use Rattle.rpki_der.specs.Place.{Place, remaining}
use Rattle.rpki_der.specs.Extensions.{Extension}

-- what take_extension hands out
abbrev pub extension_view : Bor (List ℕ) × Bool × Place → Extension
extension_view x = record { identifier = x.0.now; critical = x.1; content = remaining x.2 }
