use Rattle.rpki_der.proofs.OneMoment.{one_moment as lemma}
use Rattle.rpki_der.proofs.laws.one_moment.Goals as goal

pub returns : goal.returns
returns c = lemma
