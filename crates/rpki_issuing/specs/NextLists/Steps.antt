-- How the entries of the next list are told, for proofs.
use Rattle.std.specs.Prelude.{ℕ, Bool, List, not, nat_eq}
use Rattle.std.specs.List.{list_any}
use Rattle.rpki_crl.specs.RevokedEntries.{Entry}

-- whether an entry stays: its serial number isn't gone
abbrev pub keeps : List ℕ → Entry → Bool
keeps gone e = not (list_any (λ serial. nat_eq serial e.serial) gone)
