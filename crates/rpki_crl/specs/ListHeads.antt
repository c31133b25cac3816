-- The head of a revocation list: its fields up to the extensions, of which the entries aren't looked
-- at (own). It tells whose list it is.
use Rattle.std.specs.Prelude.{◌≡◌, ℕ, List, Option}
use Rattle.rpki_der.specs.Encoding.{Means}
use Rattle.rpki_der.specs.Formats.{Format, OPTIONAL, any_octets, tagged}
use Rattle.rpki_der.specs.Reading.{Inside}
use Rattle.rpki_der.specs.Skipping.{levels}
use Rattle.rpki_der.specs.Tags.{SEQUENCE}
use Rattle.rpki_crl.specs.Lists.{ListFields, content_with}

-- revokedCertificates SEQUENCE OF SEQUENCE { .. } OPTIONAL   (RFC 5280 5.1)
-- with any octets in the SEQUENCE
abbrev pub skipped_format : Format (Option (List ℕ))
skipped_format = OPTIONAL SEQUENCE (any_octets SEQUENCE)

-- TBSCertList, but with such revokedCertificates
unfoldable pub head_format : ℕ → Format (ListFields (Option (List ℕ)))
head_format depth = tagged SEQUENCE (content_with skipped_format depth)

-- CertificateList ::= SEQUENCE {   (RFC 5280 5.1)
--   tbsCertList TBSCertList, signatureAlgorithm AlgorithmIdentifier, signatureValue BIT STRING }
-- of which the first is such a one, and what follows it in the SEQUENCE isn't looked at
abbrev pub IsListHead : ListFields (Option (List ℕ)) → List ℕ → Type 0
IsListHead = Inside SEQUENCE (Means (head_format levels).encodes)

-- the octets are a SEQUENCE with a head that names this key as the issuer's (RFC 5280 5.2.1)
abbrev pub NamesKey : List ℕ → List ℕ → Type 0
NamesKey key octets =
    (h : ListFields (Option (List ℕ))) × IsListHead h octets
    × (h.extensions.authority_key_identifier ≡ key)
