use Rattle.rpki_path.proofs.Rejections.{one_path}
use Rattle.rpki_path.proofs.laws.one_path.Goals as goal

pub returns : goal.returns
returns c = one_path c.unambiguous.ensures.certificate
