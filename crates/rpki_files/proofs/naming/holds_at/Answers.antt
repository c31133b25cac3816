use Rattle.std.specs.Prelude.{◌↔◌, IsTrue}
use Rattle.std.proofs.Common.{ℕ, List, subst, ◌∙◌, ◌≡◌, drop}
use Rattle.rpki_files.specs.NamedFaults.{NamesTruly}
use Rattle.rpki_files.proofs.FoundFlaws.{to_the_end}
use Rattle.rpki_files.proofs.naming.holds_at.Goals as goal

pub returns : goal.returns
returns c =
    let a = c.args in
    let rest : c.in_ok-rest.rest ≡ drop a.octet a.octets.now = c.in_ok-rest.ensures.ok ∙
    (rw c.len.ensures.value (to_the_end a.octets.now a.octet)) in
    subst (λ (l : List ℕ). IsTrue c.begins_truly-holds.result ↔ NamesTruly a.is_list a.part l a.fault.now) rest c.begins_truly-holds.ensures
