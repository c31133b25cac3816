-- Trust anchor locators: where the certificate of a trust anchor may be found, and the key that it
-- has to have (RFC 8630 2).
use Rattle.std.specs.List.{AllByRecursion, flat_map}
use Rattle.std.specs.Prelude.{◌≡◌, ◌≢◌, ◌⊎◌, ℕ, Bool, true, List, [], ◌∷◌, ◌++◌, codes}
use Rattle.std.specs.Str.{IsUtf8}
use Rattle.std.specs.Str.Lines.{lines}
use Rattle.base64.specs.GeneralPurpose.{IsBytes}
use Rattle.rpki_parts.specs.Keys.{KeyFields, IsPublicKey}
use Rattle.rpki_parts.specs.Uris.{IsRsync, IsHttps}
use Rattle.rpki_keys.specs.Digits.{base64_of, without_white_space}
use Rattle.rpki_keys.specs.declared.tal.tal_uri.TalUri.{TalUri}
use Rattle.rpki_keys.specs.declared.tal.tal_uri.TalUri.TheVariants.{Rsync, Https}

-- what a locator says: the URIs under which the certificate may be found, in their order, and its
-- key
pub record TalFields : Type 0 where
  pub uris : List (List ℕ)
  pub key : KeyFields

-- what a contract sees of a Tal: its name, and what its file says
pub record NamedTal : Type 0 where
  pub name : List ℕ
  pub tal : TalFields

-- the octets of a URI
abbrev pub uri_text : TalUri → List ℕ
uri_text (Rsync text) = text
uri_text (Https text) = text

-- ---- lines, which end with LF or CRLF

-- a line of the comment section, which begins with # (RFC 8630 2.2)
abbrev pub IsComment : List ℕ → Type 0
IsComment line = (text : List ℕ) × (line ≡ codes "#" ++ text)

-- a line of the URI section (RFC 8630 2.2)
abbrev pub IsTalUri : List ℕ → Type 0
IsTalUri line = IsRsync line ⊎ IsHttps line

-- the lines of a file are comments, then these URIs, and then this rest
pub record HasUris (file : List ℕ) (uris rest : List (List ℕ)) : Type 0 where
  pub comments : List (List ℕ)
  pub comments_are : AllByRecursion IsComment comments
  pub uris_are : AllByRecursion IsTalUri uris
  pub lines_are : lines file ≡ comments ++ (uris ++ rest)

-- ---- the key

-- the lines are a SubjectPublicKeyInfo with this key in base64, between whose digits may stand line
-- breaks (RFC 8630 2.2) and other white space (own)
pub record HasKey (k : KeyFields) (digits : List (List ℕ)) : Type 0 where
  pub octets : List ℕ
  pub are_octets : IsBytes octets
  pub digits_are : flat_map without_white_space digits ≡ base64_of octets
  pub key_is : IsPublicKey k octets

-- ---- locators

-- read strictly, a file is UTF-8 (RFC 8630 2.2); else its comments may be any octets (own). The
-- lines behind them are ASCII in any case, since URIs and digits are.
abbrev pub IsText : Bool → List ℕ → Type 0
IsText strict file = strict ≡ true → IsUtf8 file

-- the file is comments, at least one URI, an empty line, and a key (RFC 8630 2.2)
pub record IsLocator (strict : Bool) (t : TalFields) (file : List ℕ) : Type 0 where
  pub is_text : IsText strict file
  pub digits : List (List ℕ)
  pub sections : HasUris file t.uris ([] ∷ digits)
  pub some : t.uris ≢ []
  pub key_is : HasKey t.key digits
