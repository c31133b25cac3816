use Rattle.std.proofs.Common.{◌≡◌, ◌++◌, length, rules, arith}
use Rattle.rpki_der.specs.Tags.{SEQUENCE}
use Rattle.rpki_der.specs.Times.{time}
use Rattle.rpki_der.specs.Writers.{value}
use Rattle.rpki_der.proofs.Ending.{ended, memory_says}
use Rattle.rpki_der.proofs.OnlyMemory.{only_memory}
use Rattle.rpki_parts.proofs.Lengths.{two_times_short}
use Rattle.rpki_parts.proofs.validity.Validity.encode.Goals as goal

pub returns-clause-memory : goal.returns-clause-memory
returns-clause-memory c =
    let v = c.args.self.now in
    let times = time v.not_before ++ time v.not_after in
    let start : c.len-start.result ≡ length c.args.out.now.items = search rules in
    let e = c.append_times-times.ensures in
    let writes = ended (value SEQUENCE) c.len-start.result c.args.out.now.items times
    c.append_times-times.new.out.items c.end_value.new.out.items c.append_times-times.result c.end_value.result
    start e.ok e.err (memory_says c.append_times-times.result times e.memory) c.end_value.ensures in
    only_memory c.end_value.result times writes.too_long (omega (arith, two_times_short v.not_before v.not_after))
