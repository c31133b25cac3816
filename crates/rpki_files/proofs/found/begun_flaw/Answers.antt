use Rattle.std.proofs.Common.{sym, ◌∙◌}
use Rattle.std.proofs.lemmas.Bool.{false≢true}
use Rattle.rpki_der.specs.Place.{remaining}
use Rattle.rpki_files.proofs.FoundFlaws.{first_other}
use Rattle.rpki_files.proofs.found.begun_flaw.Goals as goal

pub returns-else-may_open : goal.returns-else-may_open
returns-else-may_open c =
    let a = c.args in
    first_other a.is_list a.part a.identifier (remaining a.at.now) c.requires
    (λ opens. absurd (false≢true (sym c.if-may_open.false ∙ c.may_open.ensures.1 opens)))
