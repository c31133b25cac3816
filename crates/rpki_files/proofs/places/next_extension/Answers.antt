use Rattle.std.proofs.Common.{◌≡◌, ◌<◌, inl, inr, length, refl, subst, ◌∙◌}
use Rattle.rpki_der.specs.Extensions.{Extension, IsExtension}
use Rattle.rpki_der.specs.Extensions.Views.{extension_view}
use Rattle.rpki_der.specs.Place.{remaining}
use Rattle.rpki_der.proofs.ExtensionReads.{extension_shrinks}
use Rattle.rpki_files.specs.StopPlaces.{IsMisplaced, IsNextKind, MayStandAs, Passes, StopsAtExtension, extension_kind}
use Rattle.rpki_files.specs.declared.expected.Part.TheVariants as part
use Rattle.rpki_files.specs.declared.kinds.Kind.{Kind}
use Rattle.rpki_files.proofs.StopWalks.{errs_so, holds_anyway, stops_for, took, values_so}
use Rattle.rpki_files.proofs.places.next_extension.Goals as goal

pub returns-in-Ok-clause-stop : goal.returns-in-Ok-clause-stop
returns-in-Ok-clause-stop c =
    let is_list = c.args.is_list in
    let kinds = c.args.kinds.now in
    let x = extension_view (c.in-Ok.identifier, c.in-Ok.critical, c.in-Ok.content) in
    let new = c.take_extension.new.cursor in
    errs_so (λ stop from. (from ≡ c.at-octet.result) × IsMisplaced is_list kinds (extension_kind is_list x) x.critical
    x.content stop) (StopsAtExtension is_list kinds c.args.rest.now) c.placed.result c.placed.ensures.stop
    (λ stop from s. inr (x, remaining new, c.in-Ok.ensures.answers.encoded, s.0 ∙ c.at-octet.ensures.octet, s.1))

pub returns-in-Ok-clause-read : goal.returns-in-Ok-clause-read
returns-in-Ok-clause-read c =
    let is_list = c.args.is_list in
    let kinds = c.args.kinds.now in
    let x = extension_view (c.in-Ok.identifier, c.in-Ok.critical, c.in-Ok.content) in
    let old = c.args.rest.now in
    let new = c.take_extension.new.cursor in
    let begins = c.in-Ok.ensures.answers.encoded in
    let passes = took (IsExtension x) old new begins.text c.at-octet.ensures.order c.at-octet.ensures.within
    c.at-behind.ensures.order c.in-Ok.ensures.answers.keeps begins.encoded begins.parts in
    values_so (λ kind. (kind ≡ extension_kind is_list x) × MayStandAs is_list kinds kind x.critical x.content)
    (λ kind. (y : Extension) × IsNextKind is_list kinds y kind × Passes (IsExtension y) old new) c.placed.result
    c.placed.ensures.read
    (λ kind s. (x, (subst (λ (k : Kind). MayStandAs is_list kinds k x.critical x.content) s.0 s.1, s.0), passes))

pub returns-in-Ok-clause-shrinks : goal.returns-in-Ok-clause-shrinks
returns-in-Ok-clause-shrinks c =
    let old = c.args.rest.now in
    let new = c.take_extension.new.cursor in
    let x = extension_view (c.in-Ok.identifier, c.in-Ok.critical, c.in-Ok.content) in
    holds_anyway (length (remaining new) < length (remaining old)) c.placed.result
    (extension_shrinks (remaining old) x (remaining new) c.in-Ok.ensures.answers.reads)

pub returns-in-Err-clause-stop : goal.returns-in-Err-clause-stop
returns-in-Err-clause-stop c =
    stops_for (StopsAtExtension c.args.is_list c.args.kinds.now c.args.rest.now) part.Extension c.at-octet.result
    c.in-Err.fault c.stopped.result c.stopped.ensures
    (λ other. inl (record {
      stop_is = refl;
      octet_is = c.at-octet.ensures.octet;
      none = λ text rest is parts. c.in-Err.ensures.answers.encoded.1 is.0 rest (record { text = text; encoded = is.1; parts = parts });
    }))
