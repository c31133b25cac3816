use Rattle.std.specs.Fmt.{HasWritten, IsPlainFormatter}
use Rattle.std.specs.List.{flat_map}
use Rattle.rpki_answers.specs.JsonTexts.{ascii_character}
use Rattle.rpki_answers.proofs.as_json.ascii.write_ascii.Given as goal

abbrev pub invariant-loop-character : goal.invariant-loop-character
invariant-loop-character g l =
    IsPlainFormatter l.initial.f → HasWritten g.W.Write.write_str_gives l.initial.f (flat_map ascii_character l.yielded) l.f
