-- What is said of a key.
use Rattle.std.specs.Fmt.{decimal}
use Rattle.std.specs.Prelude.{◌≡◌, ◌↔◌, ℕ, IsTrue, if◌then◌else◌, List, ◌++◌, codes, Option, Some, None}
use Rattle.rpki_keys.specs.declared.form.KeyForm.{KeyForm}
use Rattle.rpki_keys.specs.declared.form.KeyForm.TheVariants.{RsaKey, EvenModulus, NoRsaKey, Point, OffCurve, CompressedPoint, NoPoint}
use Rattle.rpki_keys.specs.KeyForms.{IsKeyForm, IsUsableKey}
use Rattle.rpki_parts.specs.Keys.{KeyFields}
use Rattle.rpki_parts.specs.declared.key.PublicKeyFormat.{PublicKeyFormat}
use Rattle.rpki_parts.specs.declared.key.PublicKeyFormat.TheVariants.{Rsa, EcdsaP256}
use Rattle.rpki_document.specs.Texts.{colons_text}
use Rattle.rpki_text.specs.declared.keys.KeyAnswer.{KeyAnswer}

-- what is found of a key: its form, and whether the RPKI uses it
pub record IsKeyAnswer (key : KeyFields) (answer : KeyAnswer) : Type 0 where
  pub form_is : IsKeyForm answer.form key
  pub usable_is : IsTrue answer.is_usable ↔ IsUsableKey key

-- what is found of a locator's key: its form, and whether signatures of the RPKI are verified with
-- it, as those of its trust anchor and below have to be (RFC 7935 3)
pub record IsLocatorKey (key : KeyFields) (answer : KeyAnswer) : Type 0 where
  pub form_is : IsKeyForm answer.form key
  pub usable_is : IsTrue answer.is_usable ↔ ((key.format ≡ Rsa) × IsUsableKey key)

-- the exponent of an RSA key, where it is below 2^64
abbrev pub exponent_text : Option ℕ → List ℕ
exponent_text (Some e) = codes "exponent " ++ decimal e
exponent_text None = codes "an exponent of 2^64 or more"

-- the form of a key
abbrev pub form_text : KeyForm → List ℕ
form_text (RsaKey count exponent) = codes "RSA, " ++ (decimal count ++ (codes " bits, " ++ exponent_text exponent))
form_text EvenModulus = codes "RSA, an even modulus"
form_text NoRsaKey = codes "RSA, no RSAPublicKey"
form_text Point = codes "ECDSA P-256, an uncompressed point of the curve"
form_text OffCurve = codes "ECDSA P-256, a point off the curve"
form_text CompressedPoint = codes "ECDSA P-256, a compressed point"
form_text NoPoint = codes "ECDSA P-256, no point"

-- what is asked of a key with this algorithm
abbrev pub asked_text : KeyForm → List ℕ
asked_text (RsaKey count exponent) = codes "RFC 7935 3 requires 2048 bits, exponent 65537"
asked_text EvenModulus = codes "RFC 7935 3 requires 2048 bits, exponent 65537"
asked_text NoRsaKey = codes "RFC 7935 3 requires 2048 bits, exponent 65537"
asked_text _ = codes "RFC 8608 3.1 and an own rule require an uncompressed point of the curve"

-- the octets of an ECDSA key, which are to be a point of the curve (RFC 8608 3.1)
abbrev pub point_of : PublicKeyFormat → List ℕ → Option (List ℕ)
point_of Rsa bits = None
point_of EcdsaP256 bits = Some (colons_text bits)

-- the point of a key, where it is no RSA key
abbrev pub point_text : KeyFields → Option (List ℕ)
point_text key = point_of key.format key.bits

-- a key, and what is asked of it where it can't be used
abbrev pub key_text : KeyAnswer → List ℕ
key_text key =
    if key.is_usable then form_text key.form
    else form_text key.form ++ (codes " (not usable: " ++ (asked_text key.form ++ codes ")"))

-- a locator's key, and what is asked of it where every path below it is rejected
abbrev pub locator_key_text : KeyAnswer → List ℕ
locator_key_text key =
    if key.is_usable then form_text key.form
    else form_text key.form ++ codes " (every path is rejected: RFC 7935 3 requires RSA, 2048 bits, exponent 65537)"
