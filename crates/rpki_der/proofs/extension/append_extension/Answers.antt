use Rattle.std.proofs.Common.{refl, arith, append_assoc}
use Rattle.std.proofs.lemmas.Grind.{common_steps}
use Rattle.rpki_der.proofs.Appending.{contents_shorter, fronted}
use Rattle.rpki_der.proofs.extension.append_extension.Goals as goal

pub overflow_cast-content : goal.overflow_cast-content
overflow_cast-content c = omega (arith, contents_shorter c.args.id.now c.args.flag.now c.args.content.now)

pub append_front-requires : goal.append_front-requires
append_front-requires c = omega (arith, contents_shorter c.args.id.now c.args.flag.now c.args.content.now)

pub returns-clause-ok : goal.returns-clause-ok
returns-clause-ok c =
    let whole = fronted c.args.id.now c.args.flag.now c.args.content.now c.args.len _ c.requires refl in
    grind (arith, common_steps, append_assoc, whole)
