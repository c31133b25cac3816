-- The checks are those of nobody or of the lists that are given, and the answer by them is the answer.
use Rattle.std.specs.Prelude.{option_map}
use Rattle.std.proofs.Common.{◌∙◌, true, Bor, List, ap, inl, refl}
use Rattle.std.proofs.lemmas.Result.{err_from_is_err_and}
use Rattle.rpki_cert.specs.Verification.{ResourceFields}
use Rattle.rpki_crl.specs.Lists.{CrlState}
use Rattle.rpki_files.specs.Files.{contents}
use Rattle.rpki_path.specs.AskedLists.{GivenFields, by_named_lists}
use Rattle.rpki_path.specs.Asking.{RevocationChecks, nobody}
use Rattle.rpki_requests.specs.Fulfilment.{PreparesBelow, context_of}
use Rattle.rpki_requests.specs.RefusedErrands.{IsSoOfCertificate}
use Rattle.rpki_requests.specs.RequestWords.Views.{asked_fields}
use Rattle.rpki_requests.proofs.AskedSources.{asks_lists, asks_nobody, none_asked, ok_asked, why_asked}
use Rattle.rpki_requests.proofs.fulfilling.prepared_asking.Goals as goal

abbrev given_of : List CrlState → GivenFields
given_of lists = record { lists = lists; names = true }

pub returns-then-is_empty-clause-prepared : goal.returns-then-is_empty-clause-prepared
returns-then-is_empty-clause-prepared c =
    let x = context_of (asked_fields c.args.order.now) c.args.at in
    ok_asked x _ _
    (asks_nobody x c.args.lists.now c.is_empty.result c.is_empty.ensures c.if-is_empty.true)
    _ c.prepared_below.result c.prepared_below.ensures.prepared

pub returns-clause-prepared : goal.returns-clause-prepared
returns-clause-prepared c =
    let x = context_of (asked_fields c.args.order.now) c.args.at in
    let given = c.with_names-given.result in
    ok_asked x _ _
    (asks_lists x c.unambiguous.ensures.certificate c.unambiguous-2.ensures.list c.args.lists.now
    c.is_empty.result c.is_empty.ensures c.if-is_empty.false c.in_ok-read.read.items c.in_ok-read.ensures given
    (c.with_names-given.ensures ∙ ap given_of c.deref.ensures.value))
    _ c.prepared_below-octets.result c.prepared_below-octets.ensures.prepared

pub returns-then-is_empty-clause-refused : goal.returns-then-is_empty-clause-refused
returns-then-is_empty-clause-refused c =
    let x = context_of (asked_fields c.args.order.now) c.args.at in
    none_asked x _ _
    (asks_nobody x c.args.lists.now c.is_empty.result c.is_empty.ensures c.if-is_empty.true)
    _ c.prepared_below.result c.prepared_below.ensures.refused

pub returns-clause-refused : goal.returns-clause-refused
returns-clause-refused c =
    let x = context_of (asked_fields c.args.order.now) c.args.at in
    let given = c.with_names-given.result in
    none_asked x _ _
    (asks_lists x c.unambiguous.ensures.certificate c.unambiguous-2.ensures.list c.args.lists.now
    c.is_empty.result c.is_empty.ensures c.if-is_empty.false c.in_ok-read.read.items c.in_ok-read.ensures given
    (c.with_names-given.ensures ∙ ap given_of c.deref.ensures.value))
    _ c.prepared_below-octets.result c.prepared_below-octets.ensures.refused

pub returns-then-is_empty-clause-so : goal.returns-then-is_empty-clause-so
returns-then-is_empty-clause-so c =
    let x = context_of (asked_fields c.args.order.now) c.args.at in
    why_asked x _ _
    (asks_nobody x c.args.lists.now c.is_empty.result c.is_empty.ensures c.if-is_empty.true)
    _ c.prepared_below.result c.prepared_below.ensures.so

pub returns-clause-so : goal.returns-clause-so
returns-clause-so c =
    let x = context_of (asked_fields c.args.order.now) c.args.at in
    let given = c.with_names-given.result in
    why_asked x _ _
    (asks_lists x c.unambiguous.ensures.certificate c.unambiguous-2.ensures.list c.args.lists.now
    c.is_empty.result c.is_empty.ensures c.if-is_empty.false c.in_ok-read.read.items c.in_ok-read.ensures given
    (c.with_names-given.ensures ∙ ap given_of c.deref.ensures.value))
    _ c.prepared_below-octets.result c.prepared_below-octets.ensures.so

pub returns-in_err-read-clause-so : goal.returns-in_err-read-clause-so
returns-in_err-read-clause-so c =
    let gives = err_from_is_err_and c.from_residual.result c.from_residual.ensures.1 in
    rw (gives.1, gives.2) (inl refl)
