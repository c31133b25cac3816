use Rattle.std.proofs.Common.{rules}
use Rattle.rpki_cert.proofs.cert.Cert.verify_router_at.Goals as goal

pub returns-in_err-verify_basis : goal.returns-in_err-verify_basis
returns-in_err-verify_basis g c = search rules

pub returns-then-lists_only_held : goal.returns-then-lists_only_held
returns-then-lists_only_held g c = search rules

pub returns-else-lists_only_held : goal.returns-else-lists_only_held
returns-else-lists_only_held g c = search rules
