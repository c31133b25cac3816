use Rattle.std.proofs.Common.{refl, [], ◌∷◌}
use Rattle.rpki_der.proofs.IdentifierReads.{oid_takes}
use Rattle.rpki_calls.proofs.ends.extension.Goals as goal

pub end_extension-answer-requires-clause-oid : goal.end_extension-answer-requires-clause-oid
end_extension-answer-requires-clause-oid c = oid_takes (0x55 ∷ 0x1D ∷ 0x0F ∷ []) refl
