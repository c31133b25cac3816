use Rattle.std.proofs.Common.{◌<◌, ◌^◌, Option, IfSome, length, subst, sym}
use Rattle.rpki_c.specs.FaultTexts.{ToldFields}
use Rattle.rpki_c.proofs.Sentences.{sentence_is_short}
use Rattle.rpki_c.proofs.telling.rpki_fault_sentence.Goals as goal

pub put_sentence-requires : goal.put_sentence-requires
put_sentence-requires c =
    subst (λ (o : Option ToldFields). IfSome o (λ it. length it.sentence < 2 ^ 32)) (sym c.in-Some.ensures)
    (sentence_is_short c.args.number)
