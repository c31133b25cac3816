use Rattle.std.proofs.Common.{length, map}
use Rattle.std.specs.Str.Lines.{lines}
use Rattle.rpki_keys.specs.Locators.{uri_text}
use Rattle.rpki_keys.specs.Sections.{FollowUris}
use Rattle.rpki_keys.proofs.tal.sections.take_uris.Given as goal

-- all lines before the rest are the URIs
abbrev pub invariant-loop-rest : goal.invariant-loop-rest
invariant-loop-rest l = FollowUris (lines l.text) (map uri_text l.uris.items) (lines l.rest)

abbrev pub decreases-loop-rest : goal.decreases-loop-rest
decreases-loop-rest l = length l.rest
