use Rattle.std.proofs.Common.{◌∙◌, sym, eq-eqb}
use Rattle.std.proofs.lemmas.Bool.{eqb-true}
use Rattle.std.proofs.lemmas.List.{length-map}
use Rattle.rpki_command.proofs.NamedFiles.{all_read, as_many}
use Rattle.rpki_command.proofs.answering.are_read.Goals as goal

pub returns : goal.returns
returns c = λ files named count_is.
    let same = length-map c.args.names.now (λ name. name.now) in (
      (λ yes. all_read _ files named (sym count_is ∙ eqb-true _ _ yes ∙ sym same)),
      (λ are. eq-eqb _ _ (count_is ∙ as_many _ files are ∙ same)),
    )
