use Rattle.rpki_document.proofs.WholeValues.{json_whole}
use Rattle.rpki_document.proofs.laws.numbers.Goals as goal

pub returns : goal.returns
returns c = record { whole = json_whole }
