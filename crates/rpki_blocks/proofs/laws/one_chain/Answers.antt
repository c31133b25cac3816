use Rattle.rpki_blocks.proofs.Sets.{one_chain as lemma}
use Rattle.rpki_blocks.proofs.laws.one_chain.Goals as goal

pub returns : goal.returns
returns c = lemma
