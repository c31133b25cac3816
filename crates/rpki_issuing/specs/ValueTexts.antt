-- Serial numbers and URIs as texts (own).
use Rattle.std.specs.Int.Digits.{number_from_digits}
use Rattle.std.specs.Prelude.{◌≡◌, ◌^◌, ◌<◌, ℕ, List, Ok}
use Rattle.hex.specs.Hex.{decode_of}
use Rattle.rpki_parts.specs.Uris.{IsRsync, IsHttps}

-- the number of octets, the greatest first: positive, and as an INTEGER of at most 20 octets (RFC
-- 5280 4.1.2.2)
pub record IsAllowedSerial (n : ℕ) (octets : List ℕ) : Type 0 where
  pub number_is : n ≡ number_from_digits 256 octets
  pub positive : 0 < n
  pub short : n < 2 ^ 159

-- a serial number: its octets in two hexadecimal digits each, of either case
pub record IsSerialText (n : ℕ) (text : List ℕ) : Type 0 where
  pub octets : List ℕ
  pub digits : decode_of text ≡ Ok octets
  pub allowed : IsAllowedSerial n octets

-- an rsync URI, as it stands
pub record IsRsyncText (uri text : List ℕ) : Type 0 where
  pub same : uri ≡ text
  pub is_rsync : IsRsync text

-- an https URI, as it stands
pub record IsHttpsText (uri text : List ℕ) : Type 0 where
  pub same : uri ≡ text
  pub is_https : IsHttps text
