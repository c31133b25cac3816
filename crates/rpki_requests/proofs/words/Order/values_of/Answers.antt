use Rattle.rpki_requests.proofs.GivenValues.{values_kept}
use Rattle.rpki_requests.proofs.words.Order.values_of.Goals as goal

pub returns : goal.returns
returns c =
    values_kept c.values_among.result c.args.setting c.args.self.now.given.items c.deref.result.now
    c.deref.ensures.value c.values_among.ensures
