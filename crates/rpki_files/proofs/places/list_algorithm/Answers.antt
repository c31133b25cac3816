use Rattle.std.specs.Prelude.{is_ok}
use Rattle.std.proofs.Common.{ap, subst, sym}
use Rattle.rpki_crl.specs.Lists.{version_2}
use Rattle.rpki_der.specs.Place.{Place, remaining}
use Rattle.rpki_der.proofs.FormatAnswers.{answers_alone}
use Rattle.rpki_crl.proofs.ListFormats.{version_alone}
use Rattle.rpki_files.specs.StopPlaces.{HasAlgorithm}
use Rattle.rpki_files.proofs.TwoAlgorithms.{IsInside, inside_read, not_inside}
use Rattle.rpki_files.proofs.places.list_algorithm.Goals as goal

pub returns-in-Ok : goal.returns-in-Ok
returns-in-Ok c =
    let v = c.list_version in
    let r = c.x509_take_from in
    let old = c.fork-rest.result in
    let answers = answers_alone (λ x. x) version_2 old v.result v.new.cursor version_alone v.ensures.octets
    v.ensures.reads v.ensures.keeps in
    subst (λ (p : Place). IsInside (remaining p) r.result) c.fork-rest.ensures.same
    (inside_read old v.new.cursor r.new.cursor v.result r.result answers.encoded r.ensures.encoded (ap is_ok c.in-Ok.is))

pub returns-in-Err : goal.returns-in-Err
returns-in-Err c = λ a inside.
    let v = c.list_version in
    let old = c.fork-rest.result in
    let answers = answers_alone (λ x. x) version_2 old v.result v.new.cursor version_alone v.ensures.octets
    v.ensures.reads v.ensures.keeps in
    not_inside old v.new.cursor v.result answers.encoded (ap is_ok c.in-Err.is) a
    (subst (λ (p : Place). HasAlgorithm a (remaining p)) (sym c.fork-rest.ensures.same) inside)
