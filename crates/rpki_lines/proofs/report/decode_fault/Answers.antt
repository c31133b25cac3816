use Rattle.std.proofs.Common.{◌≡◌, rules}
use Rattle.rpki_der.specs.declared.error.DecodeError.TheVariants.{Memory}
use Rattle.rpki_lines.proofs.Reports.{fault_name}
use Rattle.rpki_lines.proofs.report.decode_fault.Goals as goal

pub returns-clause-named : goal.returns-clause-named
returns-clause-named c = let other : c.args.error.now ≡ Memory → ⊥ = search rules in rw c.name.ensures (fault_name c.args.error.now other)
