-- The reading function of an RSAPublicKey.
use Rattle.std.specs.Prelude.{List, ℕ, Option}
use Rattle.rpki_der.specs.Choices.{whole}
use Rattle.rpki_der.specs.Primitives.Reading.{unsigned_at}
use Rattle.rpki_der.specs.Reading.{inside, both}
use Rattle.rpki_der.specs.Tags.{SEQUENCE}

-- the contents of the modulus and of the exponent, where the bits are an RSAPublicKey
unfoldable pub rsa_numbers_of : List ℕ → Option (List ℕ × List ℕ)
rsa_numbers_of = whole (inside SEQUENCE (both unsigned_at unsigned_at))
