use Rattle.std.specs.Option.{option_map}
use Rattle.std.specs.Prelude.{codes, if◌then◌else◌, OnOk, Option}
use Rattle.std.proofs.Common.{◌≡◌, ◌∙◌, ℕ, Bool, true, List, [], ◌∷◌, sym, ap, subst}
use Rattle.rpki_blocks.specs.AddressBits.{is_prefix, prefix_bits}
use Rattle.rpki_blocks.specs.Sets.{Block}
use Rattle.rpki_document.specs.Building.{Adds}
use Rattle.rpki_document.specs.Documents.{Node, text}
use Rattle.rpki_text.specs.BlockLines.{family_address_text, family_text}
use Rattle.rpki_text.specs.declared.blocks.Family.{Family}
use Rattle.rpki_answers.specs.ToldValues.{addresses_node, ends_node, single_node}
use Rattle.rpki_answers.proofs.told.add_ip_block.Goals as goal

of_prefix : (family : Family) (label : Option (List ℕ)) (b : Block) → is_prefix b (prefix_bits b) ≡ true
    → addresses_node family label b ≡ single_node label (codes "ip_prefix") (text (family_text family b))
of_prefix family label b is =
    ap (λ (yes : Bool). if yes then single_node label (codes "ip_prefix") (text (family_text family b))
    else ends_node label (codes "ip_range") (text (family_address_text family b.min)) (text (family_address_text family b.max))) is

pub returns-then-is_prefix : goal.returns-then-is_prefix
returns-then-is_prefix c =
    let is : is_prefix c.args.it (prefix_bits c.args.it) ≡ true = sym c.is_prefix.ensures ∙ c.if-is_prefix.true in
    subst (λ (n : Node). OnOk c.add_single.result (Adds (n ∷ []) c.args.parts.now.items c.add_single.new.parts.items))
    (sym (of_prefix c.args.family (option_map (λ l. l.now) c.args.label) c.args.it is))
    (rw c.in_ok-leaf.ensures at c.add_single.ensures)
