use Rattle.std.proofs.Common.{refl, sym, ◌∙◌, arith}
use Rattle.std.proofs.lemmas.Bool.{false≢true}
use Rattle.rpki_der.specs.Extensions.Views.{extension_view}
use Rattle.rpki_der.specs.Place.{remaining}
use Rattle.rpki_der.proofs.ExtensionReads.{extension_shrinks}
use Rattle.rpki_files.proofs.FoundPolicies.{none_there, first_has, others_have, none_of_nothing}
use Rattle.rpki_files.proofs.policies.begins_with_one.Goals as goal

pub returns-then-is_met : goal.returns-then-is_met
returns-then-is_met c =
    let found = first_has c.args.wanted (remaining c.loop.rest) _ (remaining c.take_extension.new.cursor)
    c.in-Ok.ensures.answers.encoded (c.is_met.ensures.0 c.if-is_met.true) in
    ((λ yes. c.loop.invariant.same.0 found), (λ h. refl))

pub returns-in-Err : goal.returns-in-Err
returns-in-Err c =
    let none = none_there c.args.wanted (remaining c.loop.rest) c.in-Err.ensures.answers.encoded.1 in
    ((λ yes. absurd (false≢true yes)), (λ h. absurd (none (c.loop.invariant.same.1 h))))

pub loop-preserved : goal.loop-preserved
loop-preserved c =
    let old = remaining c.loop.rest in
    let new = remaining c.take_extension.new.cursor in
    let x = extension_view (c.in-Ok.identifier, c.in-Ok.field-0-1, c.in-Ok.content) in
    let others = others_have c.args.wanted old x new c.in-Ok.ensures.answers.encoded c.in-Ok.ensures.answers.reads
    (λ is. false≢true (sym c.if-is_met.false ∙ c.is_met.ensures.1 is)) in
    record {
      same = ((λ h. c.loop.invariant.same.0 (others.1 h)), (λ h. others.0 (c.loop.invariant.same.1 h)));
      fits = omega (arith, c.loop.invariant.fits, extension_shrinks old x new c.in-Ok.ensures.answers.reads);
    }

pub returns : goal.returns
returns c =
    let rest = remaining c.loop.rest in
    let none = none_of_nothing c.args.wanted rest (omega (arith, c.loop.invariant.fits, c.loop-test.false)) in
    ((λ yes. absurd (false≢true yes)), (λ h. absurd (none (c.loop.invariant.same.1 h))))
