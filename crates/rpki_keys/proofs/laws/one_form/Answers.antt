use Rattle.rpki_keys.proofs.OneForm.{one-key-form}
use Rattle.rpki_keys.proofs.laws.one_form.Goals as goal

pub returns : goal.returns
returns c = λ one other key. one-key-form key.format key.bits one other
