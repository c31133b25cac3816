-- Data that a signer is asked to sign, and why there is no signed data (RFC 5280 4.1.1.3, 5.1.1.3).
use Rattle.std.specs.Prelude.{ℕ, ◌^◌, ◌≤◌, List, length, Result, Ok, Err, ◌⊎◌}
use Rattle.rpki_der.specs.Tags.{SEQUENCE}
use Rattle.rpki_der.specs.Values.{enc}
use Rattle.rpki_parts.specs.Signatures.{SignatureFields}
use Rattle.rpki_parts.specs.SignedDatas.{signed_content}
use Rattle.rpki_parts.specs.declared.signature.SigningError.{SigningError}
use Rattle.rpki_parts.specs.declared.signature.SigningError.TheVariants.{Signer, TooLong, Memory}

-- the content of the signed data of this message with this signature has 2^32 octets or more
abbrev pub IsTooLongWith : List ℕ → SignatureFields → Type 0
IsTooLongWith message s = 2 ^ 32 ≤ length (signed_content (record { message = message; signature = s }))

-- why there is none although the signer gave this signature
abbrev pub IsRefusalWith : {E : Type 0} → List ℕ → SignatureFields → SigningError E → Type 0
IsRefusalWith message s (Signer e) = ⊥
IsRefusalWith message s TooLong = IsTooLongWith message s
IsRefusalWith message s Memory = Unit {0}

-- Why there is none once the signer, which may give these answers, was asked to sign the message:
-- it refused so, whatever its refusal is; or it gave a signature, and the whole would be too long,
-- or it ran out of memory.
abbrev pub IsRefusalOnceAsked : {E : Type 0} → List ℕ → (Result SignatureFields (SigningError E) → Type 0) → SigningError E → Type 0
IsRefusalOnceAsked message MayAnswer e = MayAnswer (Err e) ⊎ ((s : SignatureFields) × MayAnswer (Ok s) × IsRefusalWith message s e)

-- why it isn't asked to sign the SEQUENCE of this content: it would be too long, or it ran out of
-- memory
abbrev pub IsRefusalUnasked : {E : Type 0} → List ℕ → SigningError E → Type 0
IsRefusalUnasked content (Signer e) = ⊥
IsRefusalUnasked content TooLong = 2 ^ 32 ≤ length content
IsRefusalUnasked content Memory = Unit {0}

-- why there is no signed data of the SEQUENCE of this content, with a signer that may give these
-- answers
abbrev pub IsRefusal : {E : Type 0} → List ℕ → (Result SignatureFields (SigningError E) → Type 0) → SigningError E → Type 0
IsRefusal content MayAnswer e = IsRefusalUnasked content e ⊎ IsRefusalOnceAsked (enc SEQUENCE content) MayAnswer e
