-- What `issue_below` wants of fields that the stand-in signs, below an issuer.
use Rattle.std.specs.Prelude.{◌≡◌, ◌^◌, ◌<◌, length, true}
use Rattle.rpki_der.specs.Times.{Moment}
use Rattle.rpki_parts.specs.Keys.{KeyFields}
use Rattle.rpki_parts.specs.Signatures.{SignatureFields, IsStandInSignature}
use Rattle.rpki_parts.specs.SignedDatas.{signed_content}
use Rattle.rpki_cert.specs.Certificates.{TbsFields, CertFields, CanBeWritten, encoding}
use Rattle.rpki_cert.specs.Issuing.{made_with}
use Rattle.rpki_cert.specs.Profiles.{MeetsProfile}
use Rattle.rpki_cert.specs.Verification.{ResourceFields, CheckUnder, IsVerified, context, issued_checks}
use Rattle.rpki_cert.specs.declared.inspect.Kind.TheVariants.{Authority}

-- the certificate isn't too long, and is one of a CA that is valid below the issuer
pub record IsFit (issuer : ResourceFields) (now : Moment) (c : CertFields) : Type 0 where
  pub short : length (signed_content c.signed_data) < 2 ^ 32
  pub meets : MeetsProfile Authority true c
  pub checks : IsVerified (CheckUnder (context IsStandInSignature now true) issuer c) issued_checks

-- the fields can be written, and with each signature of the stand-in's by this key the certificate
-- is fit
pub record IsIssuable (f : TbsFields) (key : KeyFields) (issuer : ResourceFields) (now : Moment) : Type 0 where
  pub written : CanBeWritten f
  pub fit : (s : SignatureFields) → s.algorithm ≡ f.algorithm →
      IsStandInSignature key f.algorithm (encoding f) s.value → IsFit issuer now (made_with f s)
