use Rattle.rpki_keys.proofs.UsableForms.{usable-form}
use Rattle.rpki_keys.proofs.laws.usable_forms.Goals as goal

pub returns : goal.returns
returns c = λ form key. usable-form key.format key.bits form
