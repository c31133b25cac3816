use Rattle.std.specs.Prelude.{All}
use Rattle.std.proofs.Common.{[], map, take}
use Rattle.rpki_cert.specs.Verification.{context}
use Rattle.rpki_keys.specs.RsaSignatures.{IsSignedByRsa}
use Rattle.rpki_verdicts.specs.TreeParts.{AreFirstOfKeys, IsPartOf}
use Rattle.rpki_verdicts.specs.Trees.{asked_of}
use Rattle.rpki_verdicts.proofs.parts.parts_of.Given as goal

-- those of the locators so far
abbrev pub invariant-loop-place : goal.invariant-loop-place
invariant-loop-place l = record {
  locators : AreFirstOfKeys [] (take l.place l.question.locators.now) (map (λ part. part.locator.now) l.parts.items);
  parts : All (IsPartOf (context IsSignedByRsa l.question.at l.question.strict) (asked_of l.question)) l.parts.items;
}
