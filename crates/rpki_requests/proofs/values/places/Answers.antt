use Rattle.std.specs.Prelude.{map}
use Rattle.rpki_requests.specs.RequestWords.Views.{given_fields}
use Rattle.rpki_requests.proofs.GivenWants.{ArePlaces, Both, IsRepository, IsManifest, IsObject, IsNotify}
use Rattle.rpki_requests.proofs.GivenWants.{IsIssuerUri, IsList, places_ok, places_none}
use Rattle.rpki_requests.proofs.OnlyAnswers.{both_only, when_ok, when_err}
use Rattle.rpki_requests.proofs.RefusalCases.{told}
use Rattle.rpki_requests.specs.ToldRefusals.{HasOptionValue, IsOptionRefusal}
use Rattle.rpki_requests.specs.declared.words.Setting.TheVariants.{Repository, Manifest, Object, Notify, IssuerUri}
use Rattle.rpki_requests.specs.declared.words.Setting.TheVariants.{CrlUri}
use Rattle.rpki_requests.proofs.values.places.Goals as goal

pub returns-in-Ok : goal.returns-in-Ok
returns-in-Ok c =
    let given = map given_fields c.args.order.now.given.items in
    let own = both_only (IsOptionRefusal given) (IsRepository given) (IsManifest given) c.at_most_once-repository.result
    c.at_most_once-manifest.result c.both-own.result c.both-own.ensures.both c.both-own.ensures.refused
    (told (HasOptionValue given) Repository (IsRepository given) c.at_most_once-repository.result (λ h. h)
    c.at_most_once-repository.ensures)
    (told (HasOptionValue given) Manifest (IsManifest given) c.at_most_once-manifest.result (λ h. h)
    c.at_most_once-manifest.ensures) in
    let more = both_only (IsOptionRefusal given) (IsObject given) (IsNotify given) c.at_most_once-object.result
    c.at_most_once-notify.result c.both-more.result c.both-more.ensures.both c.both-more.ensures.refused
    (told (HasOptionValue given) Object (IsObject given) c.at_most_once-object.result (λ h. h)
    c.at_most_once-object.ensures)
    (told (HasOptionValue given) Notify (IsNotify given) c.at_most_once-notify.result (λ h. h)
    c.at_most_once-notify.ensures) in
    let below = both_only (IsOptionRefusal given) (Both given (IsRepository given) (IsManifest given))
    (Both given (IsObject given) (IsNotify given)) c.both-own.result c.both-more.result c.both-below.result
    c.both-below.ensures.both c.both-below.ensures.refused own more in
    let above = both_only (IsOptionRefusal given) (IsIssuerUri given) (IsList given) c.at_most_once-issuer.result
    c.at_most_once-list.result c.both-above.result c.both-above.ensures.both c.both-above.ensures.refused
    (told (HasOptionValue given) IssuerUri (IsIssuerUri given) c.at_most_once-issuer.result (λ h. h)
    c.at_most_once-issuer.ensures)
    (told (HasOptionValue given) CrlUri (IsList given) c.at_most_once-list.result (λ h. h)
    c.at_most_once-list.ensures) in
    let all = both_only (IsOptionRefusal given)
    (Both given (Both given (IsRepository given) (IsManifest given))
    (Both given (IsObject given) (IsNotify given))) (Both given (IsIssuerUri given) (IsList given))
    c.both-below.result c.both-above.result c.both-all.result c.both-all.ensures.both
    c.both-all.ensures.refused below above in
    places_ok given _ (when_ok (IsOptionRefusal given) (ArePlaces given) c.both-all.result _ c.in-Ok.is all)

pub returns-in-Err : goal.returns-in-Err
returns-in-Err c =
    let given = map given_fields c.args.order.now.given.items in
    let own = both_only (IsOptionRefusal given) (IsRepository given) (IsManifest given) c.at_most_once-repository.result
    c.at_most_once-manifest.result c.both-own.result c.both-own.ensures.both c.both-own.ensures.refused
    (told (HasOptionValue given) Repository (IsRepository given) c.at_most_once-repository.result (λ h. h)
    c.at_most_once-repository.ensures)
    (told (HasOptionValue given) Manifest (IsManifest given) c.at_most_once-manifest.result (λ h. h)
    c.at_most_once-manifest.ensures) in
    let more = both_only (IsOptionRefusal given) (IsObject given) (IsNotify given) c.at_most_once-object.result
    c.at_most_once-notify.result c.both-more.result c.both-more.ensures.both c.both-more.ensures.refused
    (told (HasOptionValue given) Object (IsObject given) c.at_most_once-object.result (λ h. h)
    c.at_most_once-object.ensures)
    (told (HasOptionValue given) Notify (IsNotify given) c.at_most_once-notify.result (λ h. h)
    c.at_most_once-notify.ensures) in
    let below = both_only (IsOptionRefusal given) (Both given (IsRepository given) (IsManifest given))
    (Both given (IsObject given) (IsNotify given)) c.both-own.result c.both-more.result c.both-below.result
    c.both-below.ensures.both c.both-below.ensures.refused own more in
    let above = both_only (IsOptionRefusal given) (IsIssuerUri given) (IsList given) c.at_most_once-issuer.result
    c.at_most_once-list.result c.both-above.result c.both-above.ensures.both c.both-above.ensures.refused
    (told (HasOptionValue given) IssuerUri (IsIssuerUri given) c.at_most_once-issuer.result (λ h. h)
    c.at_most_once-issuer.ensures)
    (told (HasOptionValue given) CrlUri (IsList given) c.at_most_once-list.result (λ h. h)
    c.at_most_once-list.ensures) in
    let all = both_only (IsOptionRefusal given)
    (Both given (Both given (IsRepository given) (IsManifest given))
    (Both given (IsObject given) (IsNotify given))) (Both given (IsIssuerUri given) (IsList given))
    c.both-below.result c.both-above.result c.both-all.result c.both-all.ensures.both
    c.both-all.ensures.refused below above in
    let none = when_err (IsOptionRefusal given) (ArePlaces given) c.both-all.result c.in-Err.why c.in-Err.is all in
    (none.0, λ not. places_none given (none.1 not))
