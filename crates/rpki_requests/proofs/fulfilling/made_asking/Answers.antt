-- The checks are those of nobody or of the lists that are given, and the answer by them is the answer.
use Rattle.std.specs.Prelude.{option_map}
use Rattle.std.proofs.Common.{◌∙◌, true, Bor, List, ap, inl, refl}
use Rattle.std.proofs.lemmas.Result.{err_from_is_err_and}
use Rattle.rpki_cert.specs.Verification.{ResourceFields}
use Rattle.rpki_crl.specs.Lists.{CrlState}
use Rattle.rpki_files.specs.Files.{contents}
use Rattle.rpki_path.specs.AskedLists.{GivenFields, by_named_lists}
use Rattle.rpki_path.specs.Asking.{RevocationChecks, nobody}
use Rattle.rpki_requests.specs.Fulfilment.{CompletesAs, IsAcceptedMade, context_of}
use Rattle.rpki_requests.specs.RefusedErrands.{IsSoOfEither}
use Rattle.rpki_requests.specs.RequestWords.Views.{asked_fields}
use Rattle.rpki_requests.proofs.AskedSources.{asks_lists, asks_nobody, none_asked, ok_asked, why_asked}
use Rattle.rpki_requests.proofs.fulfilling.made_asking.Goals as goal

abbrev given_of : List CrlState → GivenFields
given_of lists = record { lists = lists; names = true }

pub returns-then-is_empty-clause-completed : goal.returns-then-is_empty-clause-completed
returns-then-is_empty-clause-completed c =
    let x = context_of (asked_fields c.args.order.now) c.args.at in
    ok_asked x (contents c.args.lists.now) nobody
    (asks_nobody x c.args.lists.now c.is_empty.result c.is_empty.ensures c.if-is_empty.true)
    (λ made (checks : RevocationChecks). CompletesAs (asked_fields c.args.order.now) c.args.path.now checks
    c.args.at (option_map (λ (r : Bor ResourceFields). r.now) c.args.issuer) c.args.prepared.now
    c.args.signature.now made)
    c.made_below.result c.made_below.ensures.completed

pub returns-clause-completed : goal.returns-clause-completed
returns-clause-completed c =
    let x = context_of (asked_fields c.args.order.now) c.args.at in
    let given = c.with_names-given.result in
    ok_asked x (contents c.args.lists.now) (by_named_lists given.names x given.lists)
    (asks_lists x c.unambiguous.ensures.certificate c.unambiguous-2.ensures.list c.args.lists.now
    c.is_empty.result c.is_empty.ensures c.if-is_empty.false c.in_ok-read.read.items c.in_ok-read.ensures given
    (c.with_names-given.ensures ∙ ap given_of c.deref.ensures.value))
    (λ made (checks : RevocationChecks). CompletesAs (asked_fields c.args.order.now) c.args.path.now checks
    c.args.at (option_map (λ (r : Bor ResourceFields). r.now) c.args.issuer) c.args.prepared.now
    c.args.signature.now made)
    c.made_below-made.result c.made_below-made.ensures.completed

pub returns-then-is_empty-clause-accepted : goal.returns-then-is_empty-clause-accepted
returns-then-is_empty-clause-accepted c =
    let x = context_of (asked_fields c.args.order.now) c.args.at in
    ok_asked x (contents c.args.lists.now) nobody
    (asks_nobody x c.args.lists.now c.is_empty.result c.is_empty.ensures c.if-is_empty.true)
    (λ made (checks : RevocationChecks). IsAcceptedMade x checks (option_map (λ (r : Bor ResourceFields). r.now) c.args.issuer)
    made)
    c.made_below.result c.made_below.ensures.accepted

pub returns-clause-accepted : goal.returns-clause-accepted
returns-clause-accepted c =
    let x = context_of (asked_fields c.args.order.now) c.args.at in
    let given = c.with_names-given.result in
    ok_asked x (contents c.args.lists.now) (by_named_lists given.names x given.lists)
    (asks_lists x c.unambiguous.ensures.certificate c.unambiguous-2.ensures.list c.args.lists.now
    c.is_empty.result c.is_empty.ensures c.if-is_empty.false c.in_ok-read.read.items c.in_ok-read.ensures given
    (c.with_names-given.ensures ∙ ap given_of c.deref.ensures.value))
    (λ made (checks : RevocationChecks). IsAcceptedMade x checks (option_map (λ (r : Bor ResourceFields). r.now) c.args.issuer)
    made)
    c.made_below-made.result c.made_below-made.ensures.accepted

pub returns-then-is_empty-clause-refused : goal.returns-then-is_empty-clause-refused
returns-then-is_empty-clause-refused c =
    let x = context_of (asked_fields c.args.order.now) c.args.at in
    none_asked x (contents c.args.lists.now) nobody
    (asks_nobody x c.args.lists.now c.is_empty.result c.is_empty.ensures c.if-is_empty.true)
    (λ made (checks : RevocationChecks). CompletesAs (asked_fields c.args.order.now) c.args.path.now checks
    c.args.at (option_map (λ (r : Bor ResourceFields). r.now) c.args.issuer) c.args.prepared.now
    c.args.signature.now made)
    c.made_below.result c.made_below.ensures.refused

pub returns-clause-refused : goal.returns-clause-refused
returns-clause-refused c =
    let x = context_of (asked_fields c.args.order.now) c.args.at in
    let given = c.with_names-given.result in
    none_asked x (contents c.args.lists.now) (by_named_lists given.names x given.lists)
    (asks_lists x c.unambiguous.ensures.certificate c.unambiguous-2.ensures.list c.args.lists.now
    c.is_empty.result c.is_empty.ensures c.if-is_empty.false c.in_ok-read.read.items c.in_ok-read.ensures given
    (c.with_names-given.ensures ∙ ap given_of c.deref.ensures.value))
    (λ made (checks : RevocationChecks). CompletesAs (asked_fields c.args.order.now) c.args.path.now checks
    c.args.at (option_map (λ (r : Bor ResourceFields). r.now) c.args.issuer) c.args.prepared.now
    c.args.signature.now made)
    c.made_below-made.result c.made_below-made.ensures.refused

pub returns-then-is_empty-clause-so : goal.returns-then-is_empty-clause-so
returns-then-is_empty-clause-so c =
    let x = context_of (asked_fields c.args.order.now) c.args.at in
    why_asked x (contents c.args.lists.now) nobody
    (asks_nobody x c.args.lists.now c.is_empty.result c.is_empty.ensures c.if-is_empty.true)
    (λ why (checks : RevocationChecks). IsSoOfEither (asked_fields c.args.order.now) c.args.path.now checks
    c.args.at (option_map (λ (r : Bor ResourceFields). r.now) c.args.issuer) c.args.prepared.now
    c.args.signature.now why)
    c.made_below.result c.made_below.ensures.so

pub returns-clause-so : goal.returns-clause-so
returns-clause-so c =
    let x = context_of (asked_fields c.args.order.now) c.args.at in
    let given = c.with_names-given.result in
    why_asked x (contents c.args.lists.now) (by_named_lists given.names x given.lists)
    (asks_lists x c.unambiguous.ensures.certificate c.unambiguous-2.ensures.list c.args.lists.now
    c.is_empty.result c.is_empty.ensures c.if-is_empty.false c.in_ok-read.read.items c.in_ok-read.ensures given
    (c.with_names-given.ensures ∙ ap given_of c.deref.ensures.value))
    (λ why (checks : RevocationChecks). IsSoOfEither (asked_fields c.args.order.now) c.args.path.now checks
    c.args.at (option_map (λ (r : Bor ResourceFields). r.now) c.args.issuer) c.args.prepared.now
    c.args.signature.now why)
    c.made_below-made.result c.made_below-made.ensures.so

pub returns-in_err-read-clause-so : goal.returns-in_err-read-clause-so
returns-in_err-read-clause-so c =
    let gives = err_from_is_err_and c.from_residual.result c.from_residual.ensures.1 in
    rw (gives.1, gives.2) (inl refl)
