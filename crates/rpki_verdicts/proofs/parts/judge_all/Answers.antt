use Rattle.std.proofs.Common.{refl, sym, subst, []}
use Rattle.rpki_folder.specs.Folders.{FolderFields}
use Rattle.rpki_verdicts.specs.Trees.{IsFolderOf}
use Rattle.rpki_verdicts.proofs.parts.judge_all.Goals as goal

pub filed-requires : goal.filed-requires
filed-requires c = subst (λ (f : FolderFields). IsFolderOf [] [] f) (sym c.new-folder.ensures)
    (record { certs_are = refl; octets_are = refl; lists_are = refl })
