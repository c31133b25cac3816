use Rattle.std.proofs.Common.{◌∷◌, [], refl}
use Rattle.rpki_command.proofs.WrittenTexts.{appends_none}
use Rattle.rpki_command.proofs.folders.push_name.Goals as goal

pub returns : goal.returns
returns g c = (
  c.args.name.items ∷ [],
  0,
  [],
  rw c.if-opens.false (refl, refl, refl),
  c.in_ok-push.ensures,
  refl,
  appends_none (g.E.Write.contents c.args.err.now),
)
