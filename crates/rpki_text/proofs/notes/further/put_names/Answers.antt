use Rattle.std.proofs.Common.{sym, map}
use Rattle.std.specs.Option.{option_copied}
use Rattle.rpki_der.specs.Place.{remaining}
use Rattle.rpki_text.specs.Facts.{URI, fact_view, further_if}
use Rattle.rpki_text.proofs.Gathered.{all_said, one_said, value_shrinks}
use Rattle.rpki_text.proofs.notes.further.put_names.Goals as goal

pub loop-uri-smaller : goal.loop-uri-smaller
loop-uri-smaller c = value_shrinks URI (remaining c.loop-uri.rest) (remaining c.in-Some.uri)
    (remaining c.content.new.cursor) (sym c.in-Some.ensures)

pub loop-uri-preserved : goal.loop-uri-preserved
loop-uri-preserved c =
    one_said (further_if c.args.kind (option_copied c.args.kept)) URI (remaining c.loop-uri.rest)
    (remaining c.in-Some.uri) (remaining c.content.new.cursor) (sym c.in-Some.ensures)
    (map fact_view c.args.facts.now.items) (map fact_view c.loop-uri.facts.items)
    (map fact_view c.put_further.new.facts.items) (remaining c.args.names.now) c.loop-uri.invariant
    (rw c.rest.ensures.remaining at c.in_ok-put_further.ensures)

pub returns : goal.returns
returns c =
    all_said (further_if c.args.kind (option_copied c.args.kept)) URI (remaining c.loop-uri.rest)
    (sym c.in_default.ensures) (map fact_view c.args.facts.now.items) (map fact_view c.loop-uri.facts.items)
    (remaining c.args.names.now) c.loop-uri.invariant
