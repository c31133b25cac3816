-- GeneralNames that are URIs (RFC 5280 4.2.1.6).
use Rattle.std.specs.Prelude.{ℕ, ◌<◌, List, if◌then◌else◌, Option, Some, None}
use Rattle.std.specs.List.{AllByRecursion, list_all}
use Rattle.std.specs.Char.{is_ascii}
use Rattle.rpki_der.specs.Folding.{Step, once, over}
use Rattle.rpki_der.specs.FormatChoices.{primitive, restricted}
use Rattle.rpki_der.specs.Formats.{Format, any_octets}
use Rattle.rpki_der.specs.Sequences.{AreEncodings}
use Rattle.rpki_der.specs.Tags.{CONTEXT}
use Rattle.rpki_der.specs.Values.Reading.{◌>>=◌}
use Rattle.rpki_parts.specs.Uris.{IsRsync}
use Rattle.rpki_parts.specs.Uris.Tests.{is_rsync, is_https}
use Rattle.rpki_ext.specs.OnlyElements.{IsOnlyWith}

-- each octet is below 80
abbrev pub AreAscii : List ℕ → Type 0
AreAscii text = AllByRecursion (λ octet. octet < 128) text

-- uniformResourceIdentifier [6] IA5String, of GeneralName (RFC 5280 4.2.1.6)
unfoldable pub uri_format : Format (List ℕ)
uri_format = restricted (list_all is_ascii) AreAscii (any_octets (CONTEXT 6))

-- GeneralNames ::= SEQUENCE SIZE (1..MAX) OF GeneralName   (RFC 5280 4.2.1.6), without the tag
-- restricted to uniformResourceIdentifiers, of which exactly one is an rsync URI, v (RFC 6487
-- 4.8.6, 4.8.7; own: a second one is rejected)
pub record IsGeneralNames (v b : List ℕ) : Type 0 where
  pub texts : List (List ℕ)
  pub encoded : AreEncodings uri_format.encodes texts b
  pub one : IsOnlyWith IsRsync v texts

-- the text, where it is an rsync URI
abbrev pub rsync_of : List ℕ → Option (List ℕ)
rsync_of text = if is_rsync text then Some text else None

-- the text, where it is an https URI
abbrev pub https_of : List ℕ → Option (List ℕ)
https_of text = if is_https text then Some text else None

-- the step that keeps the rsync URI, and rejects a second one
abbrev pub keep_rsync : Step (List ℕ) (Option (List ℕ))
keep_rsync = once is_rsync (λ uri. Some uri)

-- the only rsync URI among names
abbrev pub names_of : List ℕ → Option (List ℕ)
names_of c = over uri_format.read keep_rsync None c >>= λ uri. uri

-- GeneralNames in a value of this tag
abbrev pub names_in : ℕ → Format (List ℕ)
names_in t = primitive t names_of IsGeneralNames IsRsync uri_format.written
