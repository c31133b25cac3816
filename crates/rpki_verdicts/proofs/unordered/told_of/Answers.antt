use Rattle.std.specs.Prelude.{slice_get, Some}
use Rattle.std.proofs.Common.{◌≡◌, length, refl}
use Rattle.std.proofs.lemmas.Option.{slice_get_read}
use Rattle.rpki_verdicts.proofs.FilesAt.{mapped_at}
use Rattle.rpki_verdicts.proofs.unordered.told_of.Goals as goal

pub returns : goal.returns
returns c =
    let certs = c.args.certs.now in
    let place = c.args.candidate.now.place in
    let file = c.index-certs-place.result in
    let there : slice_get certs place ≡ Some file = slice_get_read certs (length certs) place file refl c.requires c.index-certs-place.is in
    record {
      place_is = refl;
      stands = mapped_at (λ f. f.now) certs place file there;
      reason_is = c.in_ok-fault.ensures;
    }
