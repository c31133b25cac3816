-- Octets that are to be signed: what a certificate or a list is without its signature.
use Rattle.std.specs.Prelude.{◌≡◌, ◌⊎◌, ◌<◌, ◌^◌, ℕ, Bool, List, [], length}
use Rattle.rpki_parts.specs.Algorithms.{Algorithm}
use Rattle.rpki_parts.specs.SignedDatas.{SignedFields, signed_content, signed_data}
use Rattle.rpki_files.specs.Contents.{BeginsWithEither}
use Rattle.rpki_files.specs.LocatorFiles.{AreLocator}

-- SEQUENCE { tbsCertificate TBSCertificate or tbsCertList TBSCertList,
--   signatureAlgorithm AlgorithmIdentifier, signatureValue BIT STRING }   (RFC 5280 4.1, 5.1)
-- of these octets, with a signature that has none
abbrev pub unsigned_data : Algorithm → List ℕ → SignedFields
unsigned_data algorithm octets =
    record { message = octets; signature = record { algorithm = algorithm; value = [] } }

-- the octets are a TBSCertificate or a TBSCertList: so they are a certificate or a list, which isn't
-- too long for one
pub record IsUnsignedFile (octets whole : List ℕ) : Type 0 where
  pub algorithm : Algorithm
  pub short : length (signed_content (unsigned_data algorithm octets)) < 2 ^ 32
  pub whole_is : whole ≡ signed_data (unsigned_data algorithm octets)
  pub begins : BeginsWithEither whole

abbrev pub IsToBeSigned : List ℕ → Type 0
IsToBeSigned octets = (whole : List ℕ) × IsUnsignedFile octets whole

-- a certificate or a list, with its signature or to be signed
abbrev pub BeginsWithAny : List ℕ → Type 0
BeginsWithAny octets = BeginsWithEither octets ⊎ IsToBeSigned octets

-- what `rpki show` shows: one of these, or the locator that the octets are
abbrev pub CanBeShown : Bool → List ℕ → Type 0
CanBeShown strict octets = BeginsWithAny octets ⊎ AreLocator strict octets
