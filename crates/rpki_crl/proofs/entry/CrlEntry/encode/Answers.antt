use Rattle.std.proofs.Common.{◌≡◌, ◌++◌, length, rules, arith}
use Rattle.rpki_der.specs.Primitives.{number}
use Rattle.rpki_der.specs.Tags.{SEQUENCE}
use Rattle.rpki_der.specs.Times.{time}
use Rattle.rpki_der.specs.Writers.{value}
use Rattle.rpki_der.proofs.Ending.{ended, memory_says}
use Rattle.rpki_der.proofs.OnlyMemory.{only_memory}
use Rattle.rpki_crl.specs.RevokedEntries.{entry_content_format}
use Rattle.rpki_crl.proofs.EntryWritten.{entry_short}
use Rattle.rpki_crl.proofs.entry.CrlEntry.encode.Goals as goal

pub returns-clause-memory : goal.returns-clause-memory
unfolding entry_content_format
returns-clause-memory c =
    let inside = number c.args.self.user_certificate ++ time c.args.self.revocation_date in
    let start : c.len-start.result ≡ length c.args.out.now.items = search rules in
    let e = c.append_content-content.ensures in
    let writes = ended (value SEQUENCE) _ c.args.out.now.items inside _ _ c.append_content-content.result
    c.end_value.result start e.ok e.err (memory_says c.append_content-content.result inside e.memory)
    c.end_value.ensures in
    only_memory c.end_value.result inside writes.too_long
    (omega (arith, entry_short c.args.self.user_certificate c.args.self.revocation_date e.fits.0))
