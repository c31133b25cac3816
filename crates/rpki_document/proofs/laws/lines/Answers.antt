use Rattle.rpki_document.proofs.RowTexts.{rows_are, same_lines, text_is}
use Rattle.rpki_document.proofs.laws.lines.Goals as goal

pub returns : goal.returns
returns c = record {
  own = λ d made. record { lines = text_is d; visible = rows_are d made };
  tells = same_lines;
}
