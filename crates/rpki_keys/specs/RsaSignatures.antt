-- RSASSA-PKCS1-v1_5 with SHA-256 (RFC 7935 2, RFC 8017 8.2.2).
use Rattle.std.specs.Prelude.{◌≡◌, ℕ, ◌-◌, ◌%◌, ◌^◌, ◌<◌, List, [], ◌∷◌, ◌++◌, length, replicate}
use Rattle.sha2.specs.Sha256.{sha256}
use Rattle.rpki_parts.specs.Signatures.{Verifies}
use Rattle.rpki_parts.specs.declared.key.PublicKeyFormat.TheVariants.{Rsa}
use Rattle.rpki_keys.specs.Octets.{os2ip, i2osp}
use Rattle.rpki_keys.specs.RsaKeys.{IsRpkiRsaKey}

-- RSAVP1 (5.2.2)
abbrev pub rsavp1 : ℕ → ℕ → ℕ → ℕ
rsavp1 n e s = s ^ e % n

-- DigestInfo ::= SEQUENCE {
--   digestAlgorithm DigestAlgorithm, digest OCTET STRING }   (RFC 8017 A.2.4)
-- its DER for SHA-256 without the 32 octets of the digest at its end (RFC 8017 9.2, note 1)
abbrev pub digest_info : List ℕ
digest_info = 0x30 ∷ 0x31 ∷ 0x30 ∷ 0x0d ∷ 0x06 ∷ 0x09 ∷ 0x60 ∷ 0x86 ∷ 0x48 ∷ 0x01
    ∷ 0x65 ∷ 0x03 ∷ 0x04 ∷ 0x02 ∷ 0x01 ∷ 0x05 ∷ 0x00 ∷ 0x04 ∷ 0x20 ∷ []

-- EMSA-PKCS1-v1_5 of a message, k octets long, of which three and DigestInfo's 51 are no padding
-- (9.2)
abbrev pub emsa_pkcs1_v1_5 : List ℕ → ℕ → List ℕ
emsa_pkcs1_v1_5 message k = 0x00 ∷ 0x01 ∷ replicate (k - 54) 0xff ++ 0x00 ∷ digest_info ++ sha256 message

-- RSASSA-PKCS1-V1_5-VERIFY says "valid signature", for a modulus n of k octets (8.2.2)
pub record IsValidSignature (n e k : ℕ) (message signature : List ℕ) : Type 0 where
  pub long : length signature ≡ k
  pub representative : os2ip signature < n
  pub same : i2osp (rsavp1 n e (os2ip signature)) k ≡ emsa_pkcs1_v1_5 message k

-- the signature is one of the message, by a key of the RPKI of which these are the bits
pub record IsRsaSignature (bits message signature : List ℕ) : Type 0 where
  pub n : ℕ
  pub e : ℕ
  pub key : IsRpkiRsaKey n e bits
  pub verified : IsValidSignature n e 256 message signature

-- what RsaVerifier tells
abbrev pub IsSignedByRsa : Verifies
IsSignedByRsa key algorithm message signature = (key.format ≡ Rsa) × IsRsaSignature key.bits message signature
