-- Base64 whose digits stand in lines (RFC 4648 4).
use Rattle.std.specs.Char.{is_ascii_whitespace}
use Rattle.std.specs.Prelude.{ℕ, List, not, filter}
use Rattle.base64.specs.Engines.{standard}
use Rattle.base64.specs.GeneralPurpose.{encode_of}

-- octets in base64, with padding, whose bits are zeros (RFC 4648 3.5)
unfoldable pub base64_of : List ℕ → List ℕ
base64_of octets = encode_of standard octets

-- a line without its white space
abbrev pub without_white_space : List ℕ → List ℕ
without_white_space line = filter (λ octet. not (is_ascii_whitespace octet)) line
