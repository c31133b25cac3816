use Rattle.std.proofs.Common.{refl, sym}
use Rattle.std.proofs.lemmas.Bool.{false≢true}
use Rattle.rpki_der.specs.Extensions.Views.{extension_view}
use Rattle.rpki_der.specs.Place.{remaining}
use Rattle.rpki_der.proofs.ExtensionReads.{extension_shrinks}
use Rattle.rpki_text.specs.FaultSearch.{HasFault, sought_names}
use Rattle.rpki_text.proofs.Walks.{first_has, goes_on, none_left}
use Rattle.rpki_text.proofs.notes.finding.is_among.Goals as goal

pub returns-then-is_found : goal.returns-then-is_found
returns-then-is_found c xs are =
    let has = c.if-is_found.ensures.0 refl in
    let found = first_has (sought_names c.args.kinds) (HasFault c.args.fault c.args.written.now)
    (remaining c.args.elements.now) (remaining c.loop-extension.rest) c.loop-extension.invariant xs are
    (extension_view c.in-Some.extension) (remaining c.next_extension.new.cursor) (sym c.in-Some.ensures) has.0
    has.1 in
    ((λ yes. found), (λ one. refl))

pub loop-extension-smaller : goal.loop-extension-smaller
loop-extension-smaller c = extension_shrinks (remaining c.loop-extension.rest) (extension_view c.in-Some.extension)
    (remaining c.next_extension.new.cursor) (sym c.in-Some.ensures)

pub loop-extension-preserved : goal.loop-extension-preserved
loop-extension-preserved c =
    goes_on (sought_names c.args.kinds) (HasFault c.args.fault c.args.written.now) (remaining c.args.elements.now)
    (remaining c.loop-extension.rest) c.loop-extension.invariant (extension_view c.in-Some.extension)
    (remaining c.next_extension.new.cursor) (sym c.in-Some.ensures)
    (λ has. false≢true (c.if-is_found.ensures.1 has))

pub returns : goal.returns
returns c xs are =
    let none = none_left (sought_names c.args.kinds) (HasFault c.args.fault c.args.written.now)
    (remaining c.args.elements.now) (remaining c.loop-extension.rest) c.loop-extension.invariant xs are
    (sym c.in_default.ensures) in
    ((λ yes. absurd (false≢true yes)), (λ one. absurd (none one)))
