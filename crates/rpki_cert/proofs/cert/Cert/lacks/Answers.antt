use Rattle.std.proofs.Common.{rules}
use Rattle.rpki_cert.proofs.cert.Cert.lacks.Goals as goal

pub returns-in-AlgorithmMismatch : goal.returns-in-AlgorithmMismatch
returns-in-AlgorithmMismatch c = search rules

pub returns-in-Issuer : goal.returns-in-Issuer
returns-in-Issuer c = search rules

pub returns-in-Subject : goal.returns-in-Subject
returns-in-Subject c = search rules

pub returns-in-KeyAlgorithm : goal.returns-in-KeyAlgorithm
returns-in-KeyAlgorithm c = search rules

pub returns-in-SubjectKeyIdentifier : goal.returns-in-SubjectKeyIdentifier
returns-in-SubjectKeyIdentifier c = search rules

pub returns-in-ExtendedKeyUsagePresent : goal.returns-in-ExtendedKeyUsagePresent
returns-in-ExtendedKeyUsagePresent c = search rules

pub returns-in-CaFlagFalse : goal.returns-in-CaFlagFalse
returns-in-CaFlagFalse c = search rules

pub returns-in-MissingBasicConstraints : goal.returns-in-MissingBasicConstraints
returns-in-MissingBasicConstraints c = search rules

pub returns-in-KeyUsage : goal.returns-in-KeyUsage
returns-in-KeyUsage c = search rules

pub returns-in-MissingCaRepository : goal.returns-in-MissingCaRepository
returns-in-MissingCaRepository c = search rules

pub returns-in-MissingManifest : goal.returns-in-MissingManifest
returns-in-MissingManifest c = search rules

pub returns-in-ManifestNotChild : goal.returns-in-ManifestNotChild
returns-in-ManifestNotChild c = search rules

pub returns-in-SignedObjectPresent : goal.returns-in-SignedObjectPresent
returns-in-SignedObjectPresent c = search rules

pub returns-in-AuthorityKeyIdentifier : goal.returns-in-AuthorityKeyIdentifier
returns-in-AuthorityKeyIdentifier c = search rules

pub returns-in-CrlUriPresent : goal.returns-in-CrlUriPresent
returns-in-CrlUriPresent c = search rules

pub returns-in-CaIssuerPresent : goal.returns-in-CaIssuerPresent
returns-in-CaIssuerPresent c = search rules

pub returns-in-MissingCrlUri : goal.returns-in-MissingCrlUri
returns-in-MissingCrlUri c = search rules

pub returns-in-BasicConstraintsPresent : goal.returns-in-BasicConstraintsPresent
returns-in-BasicConstraintsPresent c = search rules

pub returns-in-CaRepositoryPresent : goal.returns-in-CaRepositoryPresent
returns-in-CaRepositoryPresent c = search rules

pub returns-in-ManifestPresent : goal.returns-in-ManifestPresent
returns-in-ManifestPresent c = search rules

pub returns-in-MissingSignedObject : goal.returns-in-MissingSignedObject
returns-in-MissingSignedObject c = search rules

pub returns-in-MissingExtendedKeyUsage : goal.returns-in-MissingExtendedKeyUsage
returns-in-MissingExtendedKeyUsage c = search rules

pub returns-in-MissingRouterPurpose : goal.returns-in-MissingRouterPurpose
returns-in-MissingRouterPurpose c = search rules

pub returns-in-SubjectInformationPresent : goal.returns-in-SubjectInformationPresent
returns-in-SubjectInformationPresent c = search rules

pub returns-in-IpResourcesPresent : goal.returns-in-IpResourcesPresent
returns-in-IpResourcesPresent c = search rules

pub returns-in-MissingAsResources : goal.returns-in-MissingAsResources
returns-in-MissingAsResources c = search rules

pub returns-in-InheritedAsResources : goal.returns-in-InheritedAsResources
returns-in-InheritedAsResources c = search rules
