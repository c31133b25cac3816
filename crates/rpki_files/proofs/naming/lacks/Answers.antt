use Rattle.rpki_der.specs.Place.{remaining}
use Rattle.rpki_files.specs.PolicyPresence.{Lack}
use Rattle.rpki_files.specs.declared.policies.Wanted.TheVariants.{Named}
use Rattle.rpki_files.proofs.TaggedExtensions.{elements_are, none_are}
use Rattle.rpki_files.proofs.naming.lacks.Goals as goal

pub returns-in-Some : goal.returns-in-Some
returns-in-Some c =
    let a = c.args in
    elements_are a.is_list (Lack (Named a.field a.is_list)) (remaining a.at.now) (remaining c.in-Some.elements)
    c.lack.result c.in-Some.ensures c.lack.ensures

pub returns-in-None : goal.returns-in-None
returns-in-None c =
    let a = c.args in
    none_are a.is_list (Lack (Named a.field a.is_list)) (remaining a.at.now) c.in-None.ensures
