use Rattle.std.specs.Prelude.{All, IsTrue, string_bytes}
use Rattle.std.proofs.Common.{◌↔◌, take}
use Rattle.rpki_files.specs.ToBeSigned.{CanBeShown}
use Rattle.rpki_files.specs.Files.{contents}
use Rattle.rpki_answers.specs.ShownFiles.{Grows, IsFurtherText}
use Rattle.rpki_answers.specs.VerdictTexts.{SaysOfEach}
use Rattle.rpki_answers.proofs.showing.show_more.Given as goal

abbrev pub invariant-loop-object : goal.invariant-loop-object
invariant-loop-object l = record {
  shows : IsTrue l.can_be_shown ↔ All (CanBeShown l.options.strict) (take l.object-index (contents l.objects));
  text : Grows (SaysOfEach (IsFurtherText l.options) (take l.object-index l.objects)) (string_bytes l.fn.out) (string_bytes l.out);
}
