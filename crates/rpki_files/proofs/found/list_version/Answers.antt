use Rattle.std.proofs.Common.{Some, None}
use Rattle.rpki_der.specs.Place.{remaining}
use Rattle.rpki_der.specs.Tags.{INTEGER}
use Rattle.rpki_files.specs.Flaws.{Encloses, IsFlaw, IsVersionFlaw, list_version_flaws}
use Rattle.rpki_files.specs.declared.flaws.Flaw.TheVariants as flaw
use Rattle.rpki_files.proofs.FirstTrue.{first_image}
use Rattle.rpki_files.proofs.found.list_version.Goals as goal

pub returns-in-Some : goal.returns-in-Some
returns-in-Some c = λ is_list part.
    let octets = remaining c.args.at.now in
    first_image (λ f. Encloses INTEGER (λ n. IsVersionFlaw 1 n f) octets) (IsFlaw is_list part octets)
    flaw.ListVersion list_version_flaws (Some c.in-Some.flaw) (λ f p. p) (λ f p. p) c.in-Some.ensures

pub returns-in-None : goal.returns-in-None
returns-in-None c = λ is_list part.
    let octets = remaining c.args.at.now in
    first_image (λ f. Encloses INTEGER (λ n. IsVersionFlaw 1 n f) octets) (IsFlaw is_list part octets)
    flaw.ListVersion list_version_flaws None (λ f p. p) (λ f p. p) c.in-None.ensures
