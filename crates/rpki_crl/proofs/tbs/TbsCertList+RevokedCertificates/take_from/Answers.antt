use Rattle.rpki_der.specs.Skipping.{levels}
use Rattle.rpki_der.proofs.FormatAnswers.{answers_or_memory_alone}
use Rattle.rpki_crl.specs.Lists.{list_content_format, list_format}
use Rattle.rpki_crl.proofs.ListFormats.{list_alone}
use Rattle.rpki_crl.proofs.tbs.TbsCertList+RevokedCertificates.take_from.Goals as goal

pub returns : goal.returns
unfolding list_format list_content_format
returns c = answers_or_memory_alone (λ f. f) (list_format levels) c.args.cursor.now c.read.result c.read.new.cursor
    (list_alone levels) c.read.ensures.octets c.read.ensures.reads c.read.ensures.keeps
