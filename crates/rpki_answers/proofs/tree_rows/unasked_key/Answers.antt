use Rattle.std.specs.Prelude.{Option, Some, None}
use Rattle.std.proofs.Common.{◌≡◌, ◌↔◌, ◌∙◌, true, ℕ, List, refl, sym}
use Rattle.rpki_files.specs.Files.{FileFields}
use Rattle.rpki_folder.specs.Folders.{NamesSigner}
use Rattle.rpki_answers.specs.TreeRows.{IsUnaskedKey, is_unasked}
use Rattle.rpki_answers.specs.declared.tree_rows.Said.{Said}
use Rattle.rpki_answers.proofs.tree_rows.unasked_key.Goals as goal

-- the key that a file names as its signer's, if that has no CRL that can be asked
named : (file : FileFields) (said : Said) (key : Option (List ℕ)) → is_unasked said ≡ true →
    ((k : List ℕ) → NamesSigner k file.octets ↔ (key ≡ Some k)) → IsUnaskedKey file said key
named file said None is says = λ asked k names. let never : None ≡ Some k = (says k).0 names in absurd cc
named file said (Some k) is says = (is, (says k).1 refl)

pub returns-then-is_unasked : goal.returns-then-is_unasked
returns-then-is_unasked c =
    named c.args.file.now c.args.said.now c.signer_of.result (sym c.is_unasked.ensures ∙ c.if-is_unasked.true) c.signer_of.ensures
