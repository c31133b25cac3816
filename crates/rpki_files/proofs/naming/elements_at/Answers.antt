use Rattle.rpki_der.specs.Place.{remaining}
use Rattle.rpki_files.proofs.TaggedExtensions.{tagged_with, untagged}
use Rattle.rpki_files.proofs.naming.elements_at.Goals as goal

pub returns-in-Some : goal.returns-in-Some
returns-in-Some c = tagged_with c.args.is_list (remaining c.args.at.now) c.extensions_tag.result
    c.extensions_tag.ensures (remaining c.in-Some.tagged) c.in-Some.ensures c.opened-in-Some.result
    c.opened-in-Some.ensures

pub returns-in-None : goal.returns-in-None
returns-in-None c = untagged c.args.is_list (remaining c.args.at.now) c.extensions_tag.result c.extensions_tag.ensures c.in-None.ensures
