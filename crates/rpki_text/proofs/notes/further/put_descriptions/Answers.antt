use Rattle.std.proofs.Common.{sym, map}
use Rattle.rpki_der.specs.Place.{remaining}
use Rattle.rpki_der.specs.Tags.{SEQUENCE}
use Rattle.rpki_text.specs.Facts.{description_facts, fact_view}
use Rattle.rpki_text.proofs.Gathered.{all_said, one_said, value_shrinks}
use Rattle.rpki_text.proofs.notes.further.put_descriptions.Goals as goal

pub loop-description-smaller : goal.loop-description-smaller
loop-description-smaller c = value_shrinks SEQUENCE (remaining c.loop-description.rest)
    (remaining c.in-Some.description) (remaining c.content.new.cursor) (sym c.in-Some.ensures)

pub loop-description-preserved : goal.loop-description-preserved
loop-description-preserved c =
    one_said (description_facts c.args.tbs.now.extensions.access) SEQUENCE (remaining c.loop-description.rest)
    (remaining c.in-Some.description) (remaining c.content.new.cursor) (sym c.in-Some.ensures)
    (map fact_view c.args.facts.now.items) (map fact_view c.loop-description.facts.items)
    (map fact_view c.put_description.new.facts.items) (remaining c.args.descriptions.now)
    c.loop-description.invariant c.in_ok-put_description.ensures

pub returns : goal.returns
returns c =
    all_said (description_facts c.args.tbs.now.extensions.access) SEQUENCE (remaining c.loop-description.rest)
    (sym c.in_default.ensures) (map fact_view c.args.facts.now.items)
    (map fact_view c.loop-description.facts.items) (remaining c.args.descriptions.now)
    c.loop-description.invariant
