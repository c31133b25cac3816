use Rattle.std.proofs.Common.{map, sym}
use Rattle.rpki_der.specs.Extensions.Views.{extension_view}
use Rattle.rpki_der.specs.Place.{remaining}
use Rattle.rpki_der.proofs.ExtensionReads.{extension_shrinks}
use Rattle.rpki_text.specs.Facts.{fact_view}
use Rattle.rpki_text.proofs.Gathered.{all_gathered, one_gathered}
use Rattle.rpki_text.proofs.notes.facts.facts_among.Goals as goal

pub loop-extension-smaller : goal.loop-extension-smaller
loop-extension-smaller c = extension_shrinks (remaining c.loop-extension.rest) (extension_view c.in-Some.extension)
    (remaining c.next_extension.new.cursor) (sym c.in-Some.ensures)

pub loop-extension-preserved : goal.loop-extension-preserved
loop-extension-preserved c =
    one_gathered c.args.tbs.now.extensions (remaining c.args.elements.now) (remaining c.loop-extension.rest)
    (map fact_view c.loop-extension.facts.items) c.loop-extension.invariant (extension_view c.in-Some.extension)
    (remaining c.next_extension.new.cursor) (sym c.in-Some.ensures) _ c.in_ok-put_extension.ensures

pub returns : goal.returns
returns c =
    all_gathered c.args.tbs.now.extensions (remaining c.args.elements.now) (remaining c.loop-extension.rest)
    (map fact_view c.loop-extension.facts.items) c.loop-extension.invariant (sym c.in_default.ensures)
