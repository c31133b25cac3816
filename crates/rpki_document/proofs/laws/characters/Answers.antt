use Rattle.rpki_document.proofs.CharacterTexts.{same_octets}
use Rattle.rpki_document.proofs.RowTexts.{text_visible}
use Rattle.rpki_document.specs.declared.leaves.Escape.TheVariants.{Text}
use Rattle.rpki_document.proofs.laws.characters.Goals as goal

pub returns : goal.returns
returns c = record { visible = text_visible Text; apart = same_octets }
