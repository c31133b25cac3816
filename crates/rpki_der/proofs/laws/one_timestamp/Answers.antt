use Rattle.rpki_der.proofs.Timestamps.{one_timestamp as lemma}
use Rattle.rpki_der.proofs.laws.one_timestamp.Goals as goal

pub returns : goal.returns
returns c = lemma
