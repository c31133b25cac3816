use Rattle.std.proofs.Common.{◌≡◌, ◌++◌, take}
use Rattle.rpki_text.specs.CommandLines.Views.{fields_of, word_octets}
use Rattle.rpki_command.proofs.folders.with_further.Given as goal

abbrev pub invariant-loop-name : goal.invariant-loop-name
invariant-loop-name l =
    fields_of l.request ≡ record (fields_of l.fn.request)
    { files = (fields_of l.fn.request).files ++ word_octets (take l.name-index l.names) }
