-- Object identifiers as text.
use Rattle.std.specs.Prelude.{ℕ, List, if◌then◌else◌}
use Rattle.rpki_parts.specs.NameTexts.{are_small, dotted_text}
use Rattle.rpki_document.specs.Texts.{colons_text}

-- an object identifier: its numbers with dots between them (RFC 4512 1.4), or its octets
-- where one of them is 2^64 or more (own)
abbrev pub identifier_text : List ℕ → List ℕ
identifier_text id = if are_small 0 id then dotted_text id else colons_text id
