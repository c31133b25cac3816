use Rattle.std.specs.Int.Digits.{number_from_digits}
use Rattle.std.proofs.Common.{◌≡◌, ◌<◌, ◌^◌, take}
use Rattle.rpki_blocks.proofs.ip_resources.lower.Given as goal

abbrev pub invariant-loop-octet : goal.invariant-loop-octet
invariant-loop-octet l =
    record {
      same : l.number ≡ number_from_digits 256 (take l.octet-index l.octets);
      below : l.number < 256 ^
          l.octet-index;
    }
