use Rattle.rpki_der.proofs.FormatAnswers.{answers_or_memory_alone}
use Rattle.rpki_ext.specs.ExtensionKinds.{crl_distribution_points_format}
use Rattle.rpki_ext.proofs.CertificateExtensions.{crl_distribution_points_alone}
use Rattle.rpki_ext.proofs.distribution_points.take_crl_distribution_points.Goals as goal

pub returns : goal.returns
returns c = answers_or_memory_alone (λ x. x) crl_distribution_points_format _ _ _ crl_distribution_points_alone
    c.read.ensures.octets c.read.ensures.reads c.read.ensures.keeps
