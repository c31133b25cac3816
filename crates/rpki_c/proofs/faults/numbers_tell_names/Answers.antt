use Rattle.rpki_c.proofs.FaultTables.{decoding_told, inspections, verifications, revocations, locators, next_lists}
use Rattle.rpki_c.proofs.faults.numbers_tell_names.Goals as goal

pub returns : goal.returns
returns c =
    record {
      decoding = decoding_told;
      inspection = inspections;
      verification = verifications;
      revocation = revocations;
      locator = locators;
      next_list = next_lists;
    }
