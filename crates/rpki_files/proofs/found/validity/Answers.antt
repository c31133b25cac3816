use Rattle.std.proofs.Common.{Some, None, map}
use Rattle.rpki_der.specs.Place.{remaining}
use Rattle.rpki_der.specs.Tags.{SEQUENCE}
use Rattle.rpki_files.specs.Flaws.{Encloses, IsFlaw, IsSecondTimeFlaw, IsTimeFlaw, time_flaws}
use Rattle.rpki_files.specs.declared.flaws.Flaw.TheVariants as flaw
use Rattle.rpki_files.proofs.FirstTrue.{first_behind, first_image, first_in_front}
use Rattle.rpki_files.proofs.found.validity.Goals as goal

pub returns-in-Some : goal.returns-in-Some
returns-in-Some c = λ is_list part.
    let octets = remaining c.args.at.now in
    first_in_front (IsFlaw is_list part octets) (map flaw.NotBefore time_flaws) (map flaw.NotAfter time_flaws)
    (flaw.NotBefore c.in-Some.flaw)
    (first_image (λ f. Encloses SEQUENCE (λ times. IsTimeFlaw times f) octets) (IsFlaw is_list part octets)
    flaw.NotBefore time_flaws (Some c.in-Some.flaw) (λ f p. p) (λ f p. p) c.in-Some.ensures)

pub returns-in-Some-in_not_after : goal.returns-in-Some-in_not_after
returns-in-Some-in_not_after c = λ is_list part.
    let octets = remaining c.args.at.now in
    first_behind (IsFlaw is_list part octets) (map flaw.NotBefore time_flaws) (map flaw.NotAfter time_flaws)
    (Some (flaw.NotAfter c.in-Some-in_not_after.flaw))
    (first_image (λ f. Encloses SEQUENCE (λ times. IsTimeFlaw times f) octets) (IsFlaw is_list part octets)
    flaw.NotBefore time_flaws None (λ f p. p) (λ f p. p) c.in-None.ensures)
    (first_image (λ f. Encloses SEQUENCE (λ times. IsSecondTimeFlaw times f) octets) (IsFlaw is_list part octets)
    flaw.NotAfter time_flaws (Some c.in-Some-in_not_after.flaw) (λ f p. p) (λ f p. p)
    c.in-Some-in_not_after.ensures)

pub returns-in-None-in_not_after : goal.returns-in-None-in_not_after
returns-in-None-in_not_after c = λ is_list part.
    let octets = remaining c.args.at.now in
    first_behind (IsFlaw is_list part octets) (map flaw.NotBefore time_flaws) (map flaw.NotAfter time_flaws) None
    (first_image (λ f. Encloses SEQUENCE (λ times. IsTimeFlaw times f) octets) (IsFlaw is_list part octets)
    flaw.NotBefore time_flaws None (λ f p. p) (λ f p. p) c.in-None.ensures)
    (first_image (λ f. Encloses SEQUENCE (λ times. IsSecondTimeFlaw times f) octets) (IsFlaw is_list part octets)
    flaw.NotAfter time_flaws None (λ f p. p) (λ f p. p) c.in-None-in_not_after.ensures)
