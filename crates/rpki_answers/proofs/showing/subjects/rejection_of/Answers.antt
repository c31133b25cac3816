use Rattle.std.specs.Prelude.{IsTrue}
use Rattle.std.proofs.Common.{◌≢◌, ◌↔◌, ℕ, List, subst, sym}
use Rattle.rpki_der.specs.declared.error.DecodeError.{DecodeError}
use Rattle.rpki_der.specs.declared.error.DecodeError.TheVariants.{Memory}
use Rattle.rpki_files.specs.FaultRules.{rule_of}
use Rattle.rpki_files.specs.Misreads.{StopsFor}
use Rattle.rpki_files.proofs.KeptFaults.{kept_not_memory, stops_for_kept}
use Rattle.rpki_answers.specs.ShownFiles.{IsToldAsList, IsToldRule}
use Rattle.rpki_answers.proofs.showing.subjects.rejection_of.Goals as goal

pub returns : goal.returns
returns c =
    let read = c.args.fault.now in
    let fault = c.told-fault.result.now in
    let sort = c.sort-sort.result in
    let is_list = c.is_told_as_list-is_list.result in
    let rule = c.rule_of_file-rule.result in
    let it = c.in_ok-place in
    let kept = sym c.told-fault.ensures in
    let octets = c.octets-octets.ensures in
    let stops = subst (λ (f : DecodeError). StopsFor is_list c.octets-octets.result.now f it.place) kept
    (stops_for_kept is_list c.octets-octets.result.now read it.place it.is_true it.ensures.told) in
    record {
      sort_is = c.sort-sort.ensures;
      fault = fault;
      not_memory = subst (λ (f : DecodeError). f ≢ Memory) kept (kept_not_memory read it.is_true c.requires);
      is_list = is_list;
      is_list_by = subst (λ (o : List ℕ). IsTrue is_list ↔ IsToldAsList sort o) octets c.is_told_as_list-is_list.ensures;
      rule_is = subst (λ (o : List ℕ). IsToldRule sort is_list fault o (rule_of rule)) octets c.rule_of_file-rule.ensures;
      place_is = subst (λ (o : List ℕ). StopsFor is_list o fault it.place) octets stops;
    }
