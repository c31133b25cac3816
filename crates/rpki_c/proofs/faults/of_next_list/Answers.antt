use Rattle.std.proofs.Common.{◌≢◌, ℕ, ap, ◌∙◌, subst, sym}
use Rattle.rpki_files.specs.FaultTable.{FaultFields, fault_named}
use Rattle.rpki_files.specs.declared.faults.FaultKind.TheVariants as kind
use Rattle.rpki_c.proofs.FaultTables.{next_lists_are_faults}
use Rattle.rpki_c.proofs.faults.of_next_list.Goals as goal

pub returns : goal.returns
returns c =
    let is = ap (λ (it : FaultFields). it.number) (c.named.ensures ∙ ap (fault_named kind.Issuing) c.name.ensures) in
    record { number = is; fault = subst (λ (n : ℕ). n ≢ 0) (sym is) (next_lists_are_faults c.args.error.now) }
