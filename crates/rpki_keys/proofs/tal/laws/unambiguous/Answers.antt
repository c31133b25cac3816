use Rattle.rpki_keys.proofs.OneLocator.{one_locator}
use Rattle.rpki_keys.proofs.tal.laws.unambiguous.Goals as goal

pub returns : goal.returns
returns c = one_locator
