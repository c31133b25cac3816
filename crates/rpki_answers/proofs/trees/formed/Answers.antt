use Rattle.std.proofs.Common.{string_bytes}
use Rattle.rpki_document.specs.Building.{nodes_of}
use Rattle.rpki_answers.proofs.TreeRowsInOrder.{by_format}
use Rattle.rpki_answers.proofs.trees.formed.Goals as goal

pub returns : goal.returns
returns c =
    by_format string_bytes c.rendered.result c.args.format (nodes_of c.args.parts.now.items) c.rendered.ensures.text c.rendered.ensures.json
