use Rattle.rpki_files.proofs.bare.read_front.Goals as goal

pub returns-clause-front : goal.returns-clause-front
returns-clause-front c = c.front_of-front.ensures c.args.octets.now c.in_ok-content.ensures

pub returns-clause-left : goal.returns-clause-left
returns-clause-left c = c.left_of-left.ensures c.args.octets.now c.in_ok-content.ensures
