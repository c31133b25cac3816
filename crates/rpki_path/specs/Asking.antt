-- Who answers for revocation, and what it is asked of a certificate below its issuer (RFC 6487
-- 7.2).
use Rattle.std.specs.Prelude.{List}
use Rattle.rpki_cert.specs.Certificates.{TbsFields, CertFields}
use Rattle.rpki_cert.specs.Verification.{Context, IsVerified}
use Rattle.rpki_crl.specs.Stores.{Stored}
use Rattle.rpki_crl.specs.Revocation.{CertRevocationCheck, revocation_checks}
use Rattle.rpki_crl.specs.declared.revocation_error.RevocationError.{RevocationError}

-- the checks that are made of a certificate below its issuer, each named by the error that it gives
-- where it isn't true
abbrev pub RevocationChecks : Type 1
RevocationChecks = TbsFields → CertFields → RevocationError → Type 0

-- nobody is asked: each check is true
abbrev pub nobody : RevocationChecks
nobody issuer c e = Unit {0}

-- the lists of a store are asked, by the URI that the certificate names
abbrev pub by_uri : Context → List Stored → RevocationChecks
by_uri x pairs issuer c = CertRevocationCheck x pairs issuer c

-- the certificate below the issuer isn't revoked: all checks are true
abbrev pub IsUnrevokedBy : RevocationChecks → TbsFields → CertFields → Type 0
IsUnrevokedBy asked issuer c = IsVerified (asked issuer c) revocation_checks
