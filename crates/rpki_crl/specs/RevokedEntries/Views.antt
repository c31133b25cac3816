-- An entry of the code, as one of the definition.
use Rattle.rpki_crl.specs.declared.entry.CrlEntry.{CrlEntry}
use Rattle.rpki_crl.specs.RevokedEntries.{Entry}

-- an entry of the code as contracts see it
abbrev pub entry_of : CrlEntry → Entry
entry_of e = record { serial = e.user_certificate; date = e.revocation_date }
