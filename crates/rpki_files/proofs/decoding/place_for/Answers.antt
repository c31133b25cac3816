use Rattle.std.specs.Prelude.{◌↔◌, IsTrue}
use Rattle.std.proofs.Common.{drop, subst, sym}
use Rattle.rpki_files.specs.NamedFaults.{NamesTruly}
use Rattle.rpki_files.specs.declared.expected.Part.{Part}
use Rattle.rpki_files.proofs.decoding.place_for.Goals as goal

pub returns-clause-told : goal.returns-clause-told
returns-clause-told c =
    let a = c.args in
    let stops = c.in_ok-part.ensures.stops in
    let is_true = c.in_ok-is_true in
    let rest = drop c.in_ok-part.place.octet a.octets.now in
    (stops.0, subst (λ (p : Part). IsTrue is_true.is_true ↔ NamesTruly a.is_list p rest a.fault.now) (sym stops.1) is_true.ensures)
