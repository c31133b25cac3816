use Rattle.std.proofs.Common.{sym, ◌∙◌}
use Rattle.std.proofs.lemmas.Bool.{false≢true}
use Rattle.rpki_keys.specs.RsaSignatures.{IsSignedByRsa}
use Rattle.rpki_issuing.proofs.SameRoles.{signature_not}
use Rattle.rpki_issuing.proofs.wanted.preparing.completed.Goals as goal

pub returns-else-is_memory-clause-unsigned : goal.returns-else-is_memory-clause-unsigned
returns-else-is_memory-clause-unsigned c = λ _ short signed.
    signature_not IsSignedByRsa c.args.role.now c.args.prepared.now c.args.signature.now c.in-Err.error
    (λ same. false≢true (sym c.if-is_memory.false ∙ c.is_memory.ensures.1 same))
    (c.in-Err.ensures.ready c.requires) short signed

pub returns-else-is_memory-clause-told : goal.returns-else-is_memory-clause-told
returns-else-is_memory-clause-told c = c.in-Err.ensures.ready c.requires
