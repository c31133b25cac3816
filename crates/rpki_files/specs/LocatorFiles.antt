-- Files that are trust anchor locators (RFC 8630 2.2), and those that look like one.
use Rattle.std.specs.Char.{is_ascii_whitespace}
use Rattle.std.specs.List.{find, list_all, starts_with}
use Rattle.std.specs.Prelude.{◌≢◌, ◌||◌, ℕ, nat_eq, Bool, false, not, List, codes, Option, Some, None, Result, Ok, Err}
use Rattle.rpki_keys.specs.LocatorFaults.{IsTalFault}
use Rattle.rpki_keys.specs.Locators.{IsLocator, NamedTal, TalFields}
use Rattle.rpki_files.specs.PemFiles.{text_lines}
use Rattle.rpki_keys.specs.declared.tal.tal_error.TalError.{TalError}
use Rattle.rpki_keys.specs.declared.tal.tal_error.TalError.TheVariants.{Memory}

-- the octets are a locator, as strictly as is asked
abbrev pub AreLocator : Bool → List ℕ → Type 0
AreLocator strict octets = (t : TalFields) × IsLocator strict t octets

-- why the octets are no locator, other than that memory ran out
abbrev pub IsWhyNoLocator : Bool → List ℕ → TalError → Type 0
IsWhyNoLocator strict octets e =
    (e ≢ Memory) × IsTalFault strict e octets × (AreLocator strict octets → ⊥)

-- the locator that the octets are was read of them; or they are none, and this is why
abbrev pub IsReadAs : Bool → List ℕ → Result NamedTal TalError → Type 0
IsReadAs strict octets (Ok t) = IsLocator strict t.tal octets
IsReadAs strict octets (Err e) = IsWhyNoLocator strict octets e

-- a line that stands before the URIs of a locator: of the comments, each of which begins with # (RFC
-- 8630 2.2), or of white space alone (own)
abbrev pub stands_before_uris : List ℕ → Bool
stands_before_uris line = starts_with nat_eq line (codes "#") || list_all is_ascii_whitespace line

-- the first other line
abbrev pub behind_comments : List ℕ → Option (List ℕ)
behind_comments octets = find (λ line. not (stands_before_uris line)) (text_lines octets)

-- a line is there that begins as the URIs of a locator do (RFC 8630 2.2), or as those that are taken
-- for such (own)
abbrev pub begins_as_uri : Option (List ℕ) → Bool
begins_as_uri None = false
begins_as_uri (Some line) = starts_with nat_eq line (codes "rsync:") || starts_with nat_eq line (codes "http")

-- the octets look like a locator: the first line behind the comments and empty lines begins as a
-- URI (own)
abbrev pub looks_like_locator : List ℕ → Bool
looks_like_locator octets = begins_as_uri (behind_comments octets)
