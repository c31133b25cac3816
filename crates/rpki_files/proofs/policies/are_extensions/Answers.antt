use Rattle.std.proofs.Common.{◌≡◌, [], refl, sym, ◌∙◌, arith}
use Rattle.std.proofs.lemmas.Bool.{false≢true}
use Rattle.rpki_der.specs.Extensions.Views.{extension_view}
use Rattle.rpki_der.specs.Place.{remaining}
use Rattle.rpki_der.proofs.ExtensionReads.{extension_shrinks}
use Rattle.rpki_files.proofs.FoundPolicies.{no_extensions, are_more, are_none}
use Rattle.rpki_files.proofs.policies.are_extensions.Goals as goal

pub returns-then-is_empty : goal.returns-then-is_empty
returns-then-is_empty c =
    let empty = c.is_empty.ensures.0 c.if-is_empty.true in
    ((λ yes. c.loop.invariant.same.0 ([], empty)), (λ h. refl))

pub returns-in-Err : goal.returns-in-Err
returns-in-Err c =
    let some : remaining c.loop.rest ≡ [] → ⊥ = λ empty. false≢true (sym c.if-is_empty.false ∙ c.is_empty.ensures.1 empty) in
    let none = no_extensions (remaining c.loop.rest) some c.in-Err.ensures.answers.encoded.1 in
    ((λ yes. absurd (false≢true yes)), (λ h. absurd (none (c.loop.invariant.same.1 h))))

pub loop-preserved : goal.loop-preserved
loop-preserved c =
    let old = remaining c.loop.rest in
    let new = remaining c.take_extension.new.cursor in
    let x = extension_view c.in-Ok.field-0 in
    let more = are_more old x new c.in-Ok.ensures.answers.encoded c.in-Ok.ensures.answers.reads in
    record {
      same = ((λ h. c.loop.invariant.same.0 (more.0 h)), (λ h. more.1 (c.loop.invariant.same.1 h)));
      fits = omega (arith, c.loop.invariant.fits, extension_shrinks old x new c.in-Ok.ensures.answers.reads);
    }

pub returns : goal.returns
returns c =
    let rest = remaining c.loop.rest in
    let are = are_none rest (omega (arith, c.loop.invariant.fits, c.loop-test.false)) in
    ((λ yes. c.loop.invariant.same.0 are), (λ h. refl))
