use Rattle.rpki_folder.proofs.IssuersAmong.{signer_key}
use Rattle.rpki_verdicts.proofs.search.signer_of.Goals as goal

pub returns-in-Certificate : goal.returns-in-Certificate
returns-in-Certificate c =
    signer_key c.unambiguous.ensures.certificate c.args.file.now.octets c.in-Certificate.said c.in-Certificate.ensures.0
