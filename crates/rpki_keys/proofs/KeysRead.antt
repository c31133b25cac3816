-- Keys in base64.
use Rattle.std.proofs.Common.{◌≡◌, ◌≢◌, List, [], ℕ, Ok, refl, sym, subst, ap, append-nil, ◌∙◌}
use Rattle.std.specs.List.{flat_map}
use Rattle.base64.specs.Engines.{standard}
use Rattle.base64.specs.GeneralPurpose.{IsBytes, decode_of}
use Rattle.base64.proofs.EngineFacts.{decode_of-encode_of}
use Rattle.rpki_der.specs.Place.{Rejects}
use Rattle.rpki_der.specs.declared.error.DecodeError.{DecodeError}
use Rattle.rpki_der.specs.declared.error.DecodeError.TheVariants.{Memory}
use Rattle.rpki_der.proofs.Readings.{one_reading}
use Rattle.rpki_der.proofs.FormatAnswers.{alone_reads}
use Rattle.rpki_parts.specs.Keys.{KeyFields, IsPublicKey, public_key_format}
use Rattle.rpki_parts.proofs.PartFormats.{public_key_alone}
use Rattle.rpki_keys.specs.Digits.{base64_of, without_white_space}
use Rattle.rpki_keys.specs.Locators.{HasKey}

-- digits stand for one sequence of octets
one_decoding : (a b : List ℕ) → IsBytes a → IsBytes b → base64_of a ≡ base64_of b → a ≡ b
unfolding base64_of
one_decoding a b bytes other same =
    let first : decode_of standard (base64_of a) ≡ Ok a = decode_of-encode_of standard a refl bytes in
    let second : decode_of standard (base64_of b) ≡ Ok b = decode_of-encode_of standard b refl other in
    let third : decode_of standard (base64_of a) ≡ decode_of standard (base64_of b) = ap (decode_of standard) same in
    cc (first, second, third)

-- and for one key
pub one_key : (k l : KeyFields) (digits : List (List ℕ)) → HasKey k digits → HasKey l digits → k ≡ l
one_key k l digits h o =
    let same : h.octets ≡ o.octets = one_decoding h.octets o.octets h.are_octets o.are_octets (sym h.digits_are ∙ o.digits_are) in
    (one_reading public_key_format.read IsPublicKey (alone_reads public_key_format public_key_alone) h.octets k l [] []
    (record { text = h.octets; encoded = h.key_is; parts = sym (append-nil h.octets) })
    (record { text = o.octets; encoded = o.key_is; parts = same ∙ sym (append-nil o.octets) })).0

-- what an error that isn't out of memory says
pub said : (e : DecodeError) (P : Type 0) → Rejects e P → e ≢ Memory → P
said Memory P h other = absurd (other refl)
said _ P h other = h

-- octets that are no key, whose digits these are and no others
pub not_a_key : (octets digits : List ℕ) (lines : List (List ℕ)) (k : KeyFields) →
    digits ≡ flat_map without_white_space lines → ((k : KeyFields) → IsPublicKey k octets → ⊥)
    → ((others : List ℕ) → IsBytes others → digits ≡ base64_of others → others ≡ octets) → ¬ HasKey k lines
not_a_key octets digits lines k are none only has =
    none k (subst (IsPublicKey k) (only has.octets has.are_octets (are ∙ has.digits_are)) has.key_is)
