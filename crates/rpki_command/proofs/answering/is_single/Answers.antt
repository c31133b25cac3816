use Rattle.std.proofs.Common.{◌==◌, ℕ, ap, sym}
use Rattle.std.proofs.lemmas.List.{length-map}
use Rattle.rpki_command.proofs.answering.is_single.Goals as goal

pub returns : goal.returns
returns c = ap (λ (n : ℕ). n == 1) (sym (length-map c.args.names.now (λ name. name.now)))
