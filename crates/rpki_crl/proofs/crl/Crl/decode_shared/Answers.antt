use Rattle.rpki_crl.specs.Lists.{CrlState, IsCertificateList}
use Rattle.rpki_der.proofs.Answering.{front_means}
use Rattle.rpki_crl.proofs.crl.Crl.decode_shared.Goals as goal

pub returns-clause-means : goal.returns-clause-means
returns-clause-means c = front_means (λ (x : CrlState). x.list) IsCertificateList c.new-cursor.result
    c.take_from.new.cursor c.take_from.result c.args.octets c.new-cursor.ensures.all
    c.take_from.ensures.answers.encoded
