use Rattle.std.proofs.Common.{sym, ◌∙◌}
use Rattle.rpki_der.proofs.SequenceWalks.{goes_on, ends, some_left}
use Rattle.rpki_der.specs.Tags.{SET}
use Rattle.rpki_der.specs.Values.Reading.{value_at}
use Rattle.rpki_parts.specs.NameForms.Reading.{seen_in}
use Rattle.rpki_parts.proofs.NameForms.{set_shrinks}
use Rattle.rpki_parts.proofs.name_forms.ReadAttributes.in_parts.Goals as goal

pub loop-rest-preserved : goal.loop-rest-preserved
loop-rest-preserved c =
    sym (goes_on (value_at SET) (seen_in c.args.strict) set_shrinks c.loop-rest.seen
    _ _ _ c.in-Ok.ensures.answers.reads c.in_ok-seen.seen (sym c.with_part.ensures ∙ c.in_ok-seen.was)) ∙
    c.loop-rest.invariant

pub returns-in-Err : goal.returns-in-Err
returns-in-Err c = sym
    (sym c.loop-rest.invariant ∙ ends (value_at SET) (seen_in c.args.strict) set_shrinks c.loop-rest.seen
    _ (some_left _ c.loop-rest-test.ensures.1) c.in-Err.ensures.answers.reads.1)
