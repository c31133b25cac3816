use Rattle.std.proofs.Common.{sym, ◌∙◌}
use Rattle.std.proofs.lemmas.Bool.{false≢true}
use Rattle.rpki_issuing.proofs.SameRoles.{unready_not}
use Rattle.rpki_issuing.proofs.wanted.preparing.prepared.Goals as goal

pub returns-else-is_memory-clause-unready : goal.returns-else-is_memory-clause-unready
returns-else-is_memory-clause-unready c = λ _ ready.
    unready_not c.args.at c.args.strict c.args.tbs.now c.args.role.now c.in-Err.error
    (λ same. false≢true (sym c.if-is_memory.false ∙ c.is_memory.ensures.1 same)) c.in-Err.ensures.fault ready
