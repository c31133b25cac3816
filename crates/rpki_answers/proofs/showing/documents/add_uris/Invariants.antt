use Rattle.std.proofs.Common.{map, take}
use Rattle.rpki_document.specs.Building.{Adds}
use Rattle.rpki_keys.specs.Locators.{uri_text}
use Rattle.rpki_answers.specs.ShownFiles.{uri_line}
use Rattle.rpki_answers.proofs.showing.documents.add_uris.Given as goal

abbrev pub invariant-loop-uri : goal.invariant-loop-uri
invariant-loop-uri l =
    Adds (map (λ uri. uri_line (uri_text uri)) (take l.uri-index l.uris)) l.fn.parts.items l.parts.items
