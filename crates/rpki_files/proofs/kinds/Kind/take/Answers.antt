use Rattle.rpki_blocks.specs.Addresses.{IsIPAddrBlocks}
use Rattle.rpki_blocks.specs.Addresses.Views.{families_of}
use Rattle.rpki_ext.specs.ExtensionKinds.{basic_constraints, subject_key_identifier, authority_key_identifier}
use Rattle.rpki_ext.specs.ExtensionKinds.{key_usage, extended_key_usage, crl_distribution_points}
use Rattle.rpki_ext.specs.ExtensionKinds.{authority_information_access, subject_information_access}
use Rattle.rpki_ext.specs.ExtensionKinds.{certificate_policies, crl_number}
use Rattle.rpki_blocks.specs.Systems.{IsASIdentifiers}
use Rattle.rpki_files.proofs.ContentReads.{begins, begins_or_memory}
use Rattle.rpki_files.proofs.kinds.Kind.take.Goals as goal

pub returns-in-BasicConstraints : goal.returns-in-BasicConstraints
returns-in-BasicConstraints c =
    rw c.in-BasicConstraints.is
    (begins (λ x. x) basic_constraints.format.encodes c.args.content.now c.take_basic_constraints.new.cursor
    c.take_basic_constraints.result c.without_value.result c.take_basic_constraints.ensures.encoded
    c.without_value.ensures)

pub returns-in-SubjectKeyIdentifier : goal.returns-in-SubjectKeyIdentifier
returns-in-SubjectKeyIdentifier c =
    rw c.in-SubjectKeyIdentifier.is
    (begins (λ x. x) subject_key_identifier.format.encodes c.args.content.now
    c.take_subject_key_identifier.new.cursor c.take_subject_key_identifier.result
    c.without_value-in-SubjectKeyIdentifier.result c.take_subject_key_identifier.ensures.encoded
    c.without_value-in-SubjectKeyIdentifier.ensures)

pub returns-in-AuthorityKeyIdentifier : goal.returns-in-AuthorityKeyIdentifier
returns-in-AuthorityKeyIdentifier c =
    rw c.in-AuthorityKeyIdentifier.is
    (begins (λ x. x) authority_key_identifier.format.encodes c.args.content.now
    c.take_authority_key_identifier.new.cursor c.take_authority_key_identifier.result
    c.without_value-in-AuthorityKeyIdentifier.result c.take_authority_key_identifier.ensures.encoded
    c.without_value-in-AuthorityKeyIdentifier.ensures)

pub returns-in-KeyUsage : goal.returns-in-KeyUsage
returns-in-KeyUsage c =
    rw c.in-KeyUsage.is
    (begins (λ x. x) key_usage.format.encodes c.args.content.now c.take_key_usage.new.cursor c.take_key_usage.result
    c.without_value-in-KeyUsage.result c.take_key_usage.ensures.encoded c.without_value-in-KeyUsage.ensures)

pub returns-in-ExtendedKeyUsage : goal.returns-in-ExtendedKeyUsage
returns-in-ExtendedKeyUsage c =
    rw c.in-ExtendedKeyUsage.is
    (begins_or_memory (λ x. x) extended_key_usage.format.encodes c.args.content.now
    c.take_extended_key_usage.new.cursor c.take_extended_key_usage.result c.without_value-in-ExtendedKeyUsage.result
    c.take_extended_key_usage.ensures.encoded c.without_value-in-ExtendedKeyUsage.ensures)

pub returns-in-CrlDistributionPoints : goal.returns-in-CrlDistributionPoints
returns-in-CrlDistributionPoints c =
    rw c.in-CrlDistributionPoints.is
    (begins_or_memory (λ x. x) crl_distribution_points.format.encodes c.args.content.now
    c.take_crl_distribution_points.new.cursor c.take_crl_distribution_points.result
    c.without_value-in-CrlDistributionPoints.result c.take_crl_distribution_points.ensures.encoded
    c.without_value-in-CrlDistributionPoints.ensures)

pub returns-in-AuthorityInformationAccess : goal.returns-in-AuthorityInformationAccess
returns-in-AuthorityInformationAccess c =
    rw c.in-AuthorityInformationAccess.is
    (begins_or_memory (λ x. x) authority_information_access.format.encodes c.args.content.now
    c.take_authority_information_access.new.cursor c.take_authority_information_access.result
    c.without_value-in-AuthorityInformationAccess.result c.take_authority_information_access.ensures.encoded
    c.without_value-in-AuthorityInformationAccess.ensures)

pub returns-in-SubjectInformationAccess : goal.returns-in-SubjectInformationAccess
returns-in-SubjectInformationAccess c =
    rw c.in-SubjectInformationAccess.is
    (begins_or_memory (λ x. x) subject_information_access.format.encodes c.args.content.now
    c.take_subject_information_access.new.cursor c.take_subject_information_access.result
    c.without_value-in-SubjectInformationAccess.result c.take_subject_information_access.ensures.encoded
    c.without_value-in-SubjectInformationAccess.ensures)

pub returns-in-CertificatePolicies : goal.returns-in-CertificatePolicies
returns-in-CertificatePolicies c =
    rw c.in-CertificatePolicies.is
    (begins (λ x. x) certificate_policies.format.encodes c.args.content.now c.take_certificate_policies.new.cursor
    c.take_certificate_policies.result c.without_value-in-CertificatePolicies.result
    c.take_certificate_policies.ensures.encoded c.without_value-in-CertificatePolicies.ensures)

pub returns-in-IpResources : goal.returns-in-IpResources
returns-in-IpResources c =
    rw c.in-IpResources.is
    (begins_or_memory families_of IsIPAddrBlocks c.args.content.now c.take_families_from.new.cursor
    c.take_families_from.result c.without_value-in-IpResources.result c.take_families_from.ensures.encoded
    c.without_value-in-IpResources.ensures)

pub returns-in-AsResources : goal.returns-in-AsResources
returns-in-AsResources c =
    rw c.in-AsResources.is
    (begins_or_memory (λ x. x) IsASIdentifiers c.args.content.now c.take_from.new.cursor c.take_from.result
    c.without_value-in-AsResources.result c.take_from.ensures.encoded c.without_value-in-AsResources.ensures)

pub returns-in-CrlNumber : goal.returns-in-CrlNumber
returns-in-CrlNumber c =
    rw c.in-CrlNumber.is
    (begins (λ x. x) crl_number.format.encodes c.args.content.now c.take_from-in-CrlNumber.new.cursor
    c.take_from-in-CrlNumber.result c.without_value-in-CrlNumber.result c.take_from-in-CrlNumber.ensures.encoded
    c.without_value-in-CrlNumber.ensures)
