use Rattle.std.specs.Prelude.{All, IsTrue, map}
use Rattle.std.proofs.Common.{◌↔◌, take}
use Rattle.serde_json.specs.View.{view}
use Rattle.rpki_files.specs.ToBeSigned.{CanBeShown}
use Rattle.rpki_files.specs.Files.{contents}
use Rattle.rpki_answers.specs.ShownFiles.{Grows, IsFileItem}
use Rattle.rpki_answers.specs.VerdictTexts.{SaysOfEach}
use Rattle.rpki_answers.proofs.showing.push_values.Given as goal

abbrev pub invariant-loop-object : goal.invariant-loop-object
invariant-loop-object l = record {
  shows : IsTrue l.can_be_shown ↔ All (CanBeShown l.options.strict) (take l.object-index (contents l.objects));
  pushed : Grows (SaysOfEach (IsFileItem l.options) (take l.object-index l.objects)) (map view l.fn.values.items) (map view l.values.items);
}
