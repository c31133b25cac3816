use Rattle.std.proofs.Common.{◌≡◌, inl, inr, ap, ◌∙◌, arith}
use Rattle.rpki_files.specs.FaultTable.{FaultFields}
use Rattle.rpki_c.specs.FaultNumbers.{part_added}
use Rattle.rpki_c.proofs.FaultTables.{memory_or_more}
use Rattle.rpki_c.proofs.faults.of_decoding.Goals as goal

pub returns : goal.returns
returns c =
    let told = c.of_reading.ensures in
    let number = ap (λ (it : FaultFields). it.number) told.fault in
    let added = c.part_added.ensures in
    let none = λ (memory : c.of_reading.result.now.number ≡ 1). added.number ∙ ap part_added (told.memory.0 memory) in
    elim (memory_or_more c.of_reading.result.now.number c.part_added.result told.great none) [
      | inl one ↦
          record {
            number = omega (arith, number, added.number);
            memory = ((λ is. told.memory.0 one.0), (λ is. omega (arith, one.0, one.1)));
            fault = λ is. omega (arith, is, one.0);
            no_bad_call = λ is. omega (arith, is, one.0, one.1);
            small = omega (arith, one.0, one.1);
          }
      | inr more ↦
          record {
            number = omega (arith, number, added.number);
            memory = ((λ is. absurd (omega (arith, is, more))), (λ is. absurd (omega (arith, told.memory.1 is, more))));
            fault = λ is. omega (arith, is, more);
            no_bad_call = λ is. omega (arith, is, more);
            small = omega (arith, told.small, added.small);
          }
    ]
