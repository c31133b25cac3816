use Rattle.std.proofs.Common.{sym, ◌∙◌}
use Rattle.rpki_der.proofs.SequenceWalks.{goes_on, ends, some_left}
use Rattle.rpki_der.specs.Skipping.{levels}
use Rattle.rpki_parts.specs.Names.{attribute_format}
use Rattle.rpki_parts.specs.NameForms.Reading.{seen_with}
use Rattle.rpki_parts.proofs.NameReads.{attribute_shrinks}
use Rattle.rpki_parts.proofs.name_forms.ReadAttributes.with_part.Goals as goal

pub loop-rest-preserved : goal.loop-rest-preserved
loop-rest-preserved c =
    sym (goes_on (attribute_format levels).read (seen_with c.args.strict) attribute_shrinks c.loop-rest.seen
    _ _ _ c.in-Ok.ensures.reads c.in_ok-seen.seen (sym c.with.ensures ∙ c.in_ok-seen.was)) ∙ c.loop-rest.invariant

pub returns-in-Err : goal.returns-in-Err
returns-in-Err c = sym
    (sym c.loop-rest.invariant ∙ ends (attribute_format levels).read (seen_with c.args.strict) attribute_shrinks
    c.loop-rest.seen _ (some_left _ c.loop-rest-test.ensures.1) c.in-Err.ensures.reads.1)
