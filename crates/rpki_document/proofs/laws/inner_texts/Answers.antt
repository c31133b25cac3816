use Rattle.rpki_document.proofs.CharacterTexts.{inner_apart}
use Rattle.rpki_document.proofs.RowTexts.{inner_unseparated, text_visible}
use Rattle.rpki_document.specs.declared.leaves.Escape.TheVariants.{Inner}
use Rattle.rpki_document.proofs.laws.inner_texts.Goals as goal

pub returns : goal.returns
returns c = record { visible = text_visible Inner; unseparated = inner_unseparated; apart = inner_apart }
