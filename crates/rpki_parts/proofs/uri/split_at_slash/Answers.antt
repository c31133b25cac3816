use Rattle.std.proofs.Common.{refl}
use Rattle.rpki_parts.proofs.Slashes.{before_is_take, from_is_drop}
use Rattle.rpki_parts.proofs.uri.split_at_slash.Goals as goal

pub returns-clause-before : goal.returns-clause-before
returns-clause-before c = rw (before_is_take c.args.text.now, c.split_at.ensures.front, c.first_slash.ensures.place) refl

pub returns-clause-rest : goal.returns-clause-rest
returns-clause-rest c = rw (from_is_drop c.args.text.now, c.split_at.ensures.back, c.first_slash.ensures.place) refl
