use Rattle.std.proofs.Common.{rules, ◌≡◌, ℕ, sym, subst}
use Rattle.rpki_folder.specs.Folders.{IsFirstPlaceOf}
use Rattle.rpki_folder.specs.FirstPlaces.{first_place_of}
use Rattle.rpki_folder.proofs.FirstSteps.{is_first_of}
use Rattle.rpki_folder.proofs.firsts.Firsts.first_of.Goals as goal

pub returns-in-Some-clause-first : goal.returns-in-Some-clause-first
returns-in-Some-clause-first c = λ certs are low.
    let same : c.in-Some.first.now ≡ first_place_of c.args.self.now c.args.place = search rules in
    subst (λ (n : ℕ). IsFirstPlaceOf certs c.args.place n) (sym same)
    (is_first_of c.unambiguous.ensures.certificate c.octets_are_kept.ensures certs c.args.self.now are
    c.args.place low)

pub returns-in-None-clause-first : goal.returns-in-None-clause-first
returns-in-None-clause-first c = λ certs are low.
    let same : c.args.place ≡ first_place_of c.args.self.now c.args.place = search rules in
    subst (λ (n : ℕ). IsFirstPlaceOf certs c.args.place n) (sym same)
    (is_first_of c.unambiguous.ensures.certificate c.octets_are_kept.ensures certs c.args.self.now are
    c.args.place low)
