use Rattle.std.proofs.Common.{map, take}
use Rattle.rpki_document.specs.Building.{Adds}
use Rattle.rpki_answers.specs.ShownCertificates.{fact_node}
use Rattle.rpki_answers.proofs.showing.certificates.add_facts.Given as goal

abbrev pub invariant-loop-fact : goal.invariant-loop-fact
invariant-loop-fact l = Adds (map fact_node (take l.fact-index l.facts)) l.fn.parts.items l.parts.items
