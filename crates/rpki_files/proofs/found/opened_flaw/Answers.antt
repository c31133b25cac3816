use Rattle.std.proofs.Common.{sym, ◌∙◌}
use Rattle.std.proofs.lemmas.Bool.{false≢true}
use Rattle.std.proofs.lemmas.Result.{IfOk-weaker}
use Rattle.rpki_der.specs.Place.{remaining}
use Rattle.rpki_files.proofs.FoundFlaws.{first_broken, first_own}
use Rattle.rpki_files.proofs.found.opened_flaw.Goals as goal

pub returns-then-stands_whole : goal.returns-then-stands_whole
returns-then-stands_whole c =
    let a = c.args in
    IfOk-weaker c.own_flaw.result
    _ _ (λ o is. first_own a.is_list a.part a.identifier (remaining a.at.now) o c.requires.first
    c.requires.opens (c.stands_whole.ensures.0 c.if-stands_whole.true) is) c.own_flaw.ensures

pub returns-else-stands_whole : goal.returns-else-stands_whole
returns-else-stands_whole c =
    let a = c.args in
    first_broken a.is_list a.part a.identifier (remaining a.at.now) c.requires.first c.requires.opens
    (λ tag content means. absurd (false≢true (sym c.if-stands_whole.false ∙ c.stands_whole.ensures.1 (tag, content, means))))
