use Rattle.rpki_files.proofs.FaultTables.{readings, inspections, verifications, revocations, locators, parts}
use Rattle.rpki_files.proofs.faults.faults_are_found.Goals as goal

pub returns : goal.returns
returns c =
    record {
      reading = readings;
      inspection = λ e. (inspections e).1;
      verification = λ e. (verifications e).1;
      revocation = λ e. (revocations e).1;
      locator = λ e. (locators e).1;
      part = parts;
    }
