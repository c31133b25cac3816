use Rattle.std.proofs.Common.{subst, sym, ◌∙◌}
use Rattle.std.proofs.lemmas.Bool.{false≢true}
use Rattle.std.proofs.lemmas.Result.{IfOk-weaker}
use Rattle.rpki_der.specs.Place.{remaining}
use Rattle.rpki_files.specs.Flaws.{IsContentFlaw}
use Rattle.rpki_files.specs.KnownKinds.{MayHaveFlag}
use Rattle.rpki_files.specs.declared.kinds.Kind.{Kind}
use Rattle.rpki_files.proofs.FoundFlaws.{first_content, first_flag}
use Rattle.rpki_files.proofs.found.of_extension.Goals as goal

pub returns-then-may_be : goal.returns-then-may_be
returns-then-may_be c =
    let a = c.args in
    let content = remaining a.content.now in
    let may = subst (λ (k : Kind). MayHaveFlag a.is_list k a.critical) c.of-kind.ensures (c.may_be.ensures.0 c.if-may_be.true) in
    IfOk-weaker c.of_content.result _ _
    (λ o is. first_content a.is_list a.identifier.now content o a.critical may
    (subst (λ (k : Kind). IsContentFlaw k content o) c.of-kind.ensures is)) c.of_content.ensures

pub returns-else-may_be : goal.returns-else-may_be
returns-else-may_be c =
    let a = c.args in
    rw c.of_flag.ensures
    (first_flag a.is_list a.identifier.now a.critical (remaining a.content.now)
    (λ may. let yes = c.may_be.ensures.1
    (subst (λ (k : Kind). MayHaveFlag a.is_list k a.critical) (sym c.of-kind.ensures) may) in
    absurd (false≢true (sym c.if-may_be.false ∙ yes))))
