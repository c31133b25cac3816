use Rattle.std.proofs.Common.{ℕ, List, subst, ◌∙◌, ◌≡◌, drop}
use Rattle.std.proofs.lemmas.Result.{IfOk-weaker}
use Rattle.rpki_files.specs.Flaws.{IsFirstFlaw}
use Rattle.rpki_files.proofs.FoundFlaws.{to_the_end}
use Rattle.rpki_files.proofs.found.flaw_at.Goals as goal

pub returns : goal.returns
returns c =
    let a = c.args in
    let rest : c.in_ok-rest.rest ≡ drop a.octet a.octets.now = c.in_ok-rest.ensures.ok ∙
    (rw c.len.ensures.value (to_the_end a.octets.now a.octet)) in
    IfOk-weaker c.flaw_of-found.result _ _ (λ o is. subst (λ (l : List ℕ). IsFirstFlaw a.is_list a.part l o) rest is)
    c.flaw_of-found.ensures
