use Rattle.rpki_blocks.proofs.ResourcesWritten.{ip_made, as_resources_made, written_families, present_is}
use Rattle.rpki_blocks.proofs.laws.written_is_read.Goals as goal

pub returns : goal.returns
returns c = record {
  addresses = λ i content e v4 whole v6 short. (
    written_families i,
    (ip_made i content e v4 whole v6 short).0,
    λ j. record { v4 = present_is i.v4 j; v6 = present_is i.v6 j },
  );
  numbers = λ r content e fits short. (as_resources_made r content e fits short).0;
}
