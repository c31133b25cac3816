use Rattle.std.proofs.Common.{List, subst, sym}
use Rattle.std.proofs.lemmas.Result.{IfOk-weaker}
use Rattle.rpki_der.specs.Place.{remaining}
use Rattle.rpki_files.specs.Flaws.{IsFirstTrue, IsFlaw}
use Rattle.rpki_files.specs.declared.expected.Part.TheVariants as part
use Rattle.rpki_files.specs.declared.flaws.Flaw.{Flaw}
use Rattle.rpki_files.proofs.FoundFlaws.{flaws_of_kind}
use Rattle.rpki_files.proofs.found.of_kind.Goals as goal

pub returns-in_default : goal.returns-in_default
returns-in_default c =
    let a = c.args in
    IfOk-weaker c.extension_flaw.result _ _
    (λ o is. subst (λ (flaws : List Flaw). IsFirstTrue (IsFlaw a.is_list (part.Kind a.kind) (remaining a.at.now))
    flaws o) (sym (flaws_of_kind a.kind c.in_default.not-NoList)) is)
    (c.extension_flaw.ensures (part.Kind a.kind))
