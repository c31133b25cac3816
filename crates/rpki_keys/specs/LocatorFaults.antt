-- Why a file is no locator: what is wrong first, from the file's beginning on.
use Rattle.std.specs.Prelude.{◌≡◌, ◌≢◌, ℕ, Bool, true, List, [], ◌∷◌}
use Rattle.std.specs.Str.{IsUtf8}
use Rattle.rpki_parts.specs.Keys.{KeyFields}
use Rattle.rpki_keys.specs.Locators.{HasKey, HasUris, IsComment, IsLocator, IsTalUri, IsText, TalFields}
use Rattle.rpki_keys.specs.declared.tal.tal_error.TalError.{TalError}
use Rattle.rpki_keys.specs.declared.tal.tal_error.TalError.TheVariants.{NoText, BadUri, NoUri, NoKey, BadKey, Memory}

-- behind comments and URIs stands a line that is neither of them, nor empty; a comment is one of
-- these lines where URIs stand before it
pub record HasBadUri (file : List ℕ) : Type 0 where
  pub uris : List (List ℕ)
  pub line : List ℕ
  pub more : List (List ℕ)
  pub sections : HasUris file uris (line ∷ more)
  pub some : line ≢ []
  pub no_uri : ¬ IsTalUri line
  pub no_comment : uris ≡ [] → ¬ IsComment line

-- the empty line follows the comments
pub record HasNoUri (file : List ℕ) : Type 0 where
  pub more : List (List ℕ)
  pub sections : HasUris file [] ([] ∷ more)

-- no line follows comments and URIs
pub record HasNoKey (file : List ℕ) : Type 0 where
  pub uris : List (List ℕ)
  pub sections : HasUris file uris []

-- the lines behind the empty one aren't a key
pub record HasBadKey (file : List ℕ) : Type 0 where
  pub uris : List (List ℕ)
  pub some : uris ≢ []
  pub digits : List (List ℕ)
  pub sections : HasUris file uris ([] ∷ digits)
  pub no_key : (k : KeyFields) → ¬ HasKey k digits

-- what an error says of a file
abbrev pub IsTalFault : Bool → TalError → List ℕ → Type 0
IsTalFault strict NoText file = (strict ≡ true) × ¬ IsUtf8 file
IsTalFault strict BadUri file = IsText strict file × HasBadUri file
IsTalFault strict NoUri file = IsText strict file × HasNoUri file
IsTalFault strict NoKey file = IsText strict file × HasNoKey file
IsTalFault strict BadKey file = IsText strict file × HasBadKey file
IsTalFault strict Memory file = Unit {0}

-- the file is no locator, unless memory ran out
abbrev pub RejectsTal : Bool → TalError → List ℕ → Type 0
RejectsTal strict Memory file = Unit {0}
RejectsTal strict _ file = (t : TalFields) → ¬ IsLocator strict t file
