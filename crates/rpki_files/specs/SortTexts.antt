-- What is said of the sorts of files: a table, in the order in which the type names them.
use Prim.Native.String.{String}
use Rattle.std.specs.Prelude.{ℕ, List, codes}
use Rattle.rpki_files.specs.FaultRules.{RuleFields}
use Rattle.rpki_files.specs.declared.sorts.Sort.{Sort}
use Rattle.rpki_files.specs.declared.sorts.Sort.TheVariants as sort

-- its name, what it is for a reader who wants a certificate, the section that says what files of
-- the sort are, and what to do
pub record DescriptionFields : Type 0 where
  pub name : List ℕ
  pub says : List ℕ
  pub section : List ℕ
  pub advice : List ℕ

-- these
abbrev pub described : String → String → String → String → DescriptionFields
described name says section advice = record {
  name = codes name;
  says = codes says;
  section = codes section;
  advice = codes advice;
}

-- of a sort
abbrev pub sort_description : Sort → DescriptionFields
sort_description sort.Empty =
    described "empty file"
    "it has no bytes"
    "RFC 5280 4.1"
    "fetch or copy it again"
sort_description sort.Base64 =
    described "base64 without the lines of PEM"
    "no line that begins with -----BEGIN is before it"
    "RFC 7468 2"
    "put the lines of PEM around it, or decode it: base64 -d"
sort_description sort.SeveralPem =
    described "PEM with several objects"
    "more than one object begins in it, and a file is read as one"
    "own rule"
    "put each object into a file of its own"
sort_description sort.UnendedPem =
    described "PEM without its end"
    "no line that begins with -----END follows its first object"
    "RFC 7468 2"
    "copy it again, as a whole"
sort_description sort.DamagedPem =
    described "damaged PEM"
    "what is between its lines isn't base64"
    "RFC 7468 3"
    "copy it again, as a whole"
sort_description sort.Locator =
    described "trust anchor locator (TAL)"
    "it says where a trust anchor is and which key that has"
    "RFC 8630 2.2"
    "give it with --tal, and the trust anchor as the first file"
sort_description sort.Roa =
    described "signed object: a route origin authorization (ROA)"
    "it is CMS signed data, and its EE certificate is inside"
    "RFC 9582 3"
    "take the certificate out: openssl pkcs7 -inform DER -print_certs"
sort_description sort.Manifest =
    described "signed object: a manifest"
    "it is CMS signed data, and its EE certificate is inside"
    "RFC 9286 4.1"
    "take the certificate out: openssl pkcs7 -inform DER -print_certs"
sort_description sort.Ghostbusters =
    described "signed object: a Ghostbusters record"
    "it is CMS signed data, and its EE certificate is inside"
    "RFC 6493 5"
    "take the certificate out: openssl pkcs7 -inform DER -print_certs"
sort_description sort.SignedData =
    described "CMS signed data"
    "certificates may be inside, but it isn't one itself"
    "RFC 5652 5.1"
    "take the certificates out: openssl pkcs7 -inform DER -print_certs"
sort_description sort.PrivateKey =
    described "private key (PKCS #8)"
    "it is a secret key, not a certificate of its public key"
    "RFC 5958 2"
    "keep it secret, and give the certificate"
sort_description sort.RsaPrivateKey =
    described "private key of RSA (PKCS #1)"
    "it is a secret key, not a certificate of its public key"
    "RFC 8017 A.1.2"
    "keep it secret, and give the certificate"
sort_description sort.CurvePrivateKey =
    described "private key on a curve"
    "it is a secret key, not a certificate of its public key"
    "RFC 5915 3"
    "keep it secret, and give the certificate"
sort_description sort.PublicKey =
    described "public key"
    "it is a SubjectPublicKeyInfo, which certificates and TALs contain"
    "RFC 5280 4.1"
    "give the certificate of the key"
sort_description sort.Request =
    described "certification request (PKCS #10)"
    "it asks for a certificate, and no issuer has signed it"
    "RFC 2986 4"
    "give the certificate that was issued"
sort_description sort.Version1 =
    described "X.509 certificate of version 1"
    "those of the RPKI are of version 3"
    "RFC 6487 4.1"
    "give a certificate of the RPKI; openssl x509 -text shows this one"
sort_description sort.OtherCertificate =
    described "X.509 certificate that isn't of the RPKI"
    "it lists no resources, and doesn't name the policy of the RPKI"
    "RFC 6487 4.8.9, 4.8.10, 4.8.11"
    "give a certificate of the RPKI; openssl x509 -text shows this one"

-- its sentence and its section, as those of a fault
abbrev pub sort_rule : Sort → RuleFields
sort_rule s = record { says = (sort_description s).says; section = (sort_description s).section }
