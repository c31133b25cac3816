use Rattle.rpki_der.specs.Place.{remaining}
use Rattle.rpki_files.specs.NamedFaults.{HasOtherMode}
use Rattle.rpki_files.proofs.TaggedExtensions.{elements_are, none_are}
use Rattle.rpki_files.proofs.naming.have_other_mode.Goals as goal

pub returns-in-Some : goal.returns-in-Some
returns-in-Some c =
    let a = c.args in
    elements_are a.is_list (HasOtherMode a.field) (remaining a.at.now) (remaining c.in-Some.elements)
    c.has_other_mode.result c.in-Some.ensures c.has_other_mode.ensures

pub returns-in-None : goal.returns-in-None
returns-in-None c =
    let a = c.args in
    none_are a.is_list (HasOtherMode a.field) (remaining a.at.now) c.in-None.ensures
