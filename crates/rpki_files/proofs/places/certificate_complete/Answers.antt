use Rattle.std.proofs.Common.{◌≡◌, false, refl}
use Rattle.rpki_der.specs.Place.{remaining}
use Rattle.rpki_der.proofs.Answering.{memory_alone}
use Rattle.rpki_files.specs.StopPlaces.{AreComplete}
use Rattle.rpki_files.specs.declared.expected.Part.TheVariants as part
use Rattle.rpki_files.proofs.StopWalks.{stops_for}
use Rattle.rpki_files.proofs.places.certificate_complete.Goals as goal

pub returns-in-Err-clause-stop : goal.returns-in-Err-clause-stop
returns-in-Err-clause-stop c =
    let elements = remaining c.args.inside.now in
    stops_for (λ stop from. (AreComplete false elements → ⊥) × (stop ≡ part.Extensions) × (from ≡ c.args.octet))
    part.Extensions c.args.octet c.in-Err.fault c.stopped.result c.stopped.ensures
    (λ other. ((λ all. other (memory_alone c.in-Err.fault c.in-Err.ensures.means (λ none. none all.0 all.1))), refl, refl))
