use Rattle.rpki_folder.specs.FirstPlaces.{first_place_of}
use Rattle.rpki_isolation.proofs.FirstPlaces.{first_itself, first_once, stands_first}
use Rattle.rpki_isolation.proofs.laws.admitted_once.Goals as goal

pub returns-clause-all : goal.returns-clause-all
returns-clause-all g c = λ verifier keys certs cert others place stands above. (place, stands, tt)

pub returns-clause-all_once : goal.returns-clause-all_once
returns-clause-all_once g c = λ verifier keys certs once. (
  (λ cert others place stands above. (place, stands, tt)),
  (λ cert others above place other stands stands_too in_there in_other. once cert others place other stands stands_too),
)

pub returns-clause-firsts : goal.returns-clause-firsts
returns-clause-firsts g c = λ verifier keys certs table are.
    let law = c.unambiguous.ensures.certificate in (
      (λ cert others place stands above. (
        first_place_of table place,
        stands_first law certs table are cert place stands,
        first_itself law certs table are cert place stands,
      )),
      (λ cert others above place other here there is other_is. first_once law certs table are cert place other here there is other_is),
    )
