use Rattle.rpki_c.proofs.sorting.Sorted.kind.Goals as goal

pub returns : goal.returns
returns c =
    let says = c.said.ensures in (c.said.result.kind, c.kind_number.ensures, (says.0, says.1, says.2.kind_is))
