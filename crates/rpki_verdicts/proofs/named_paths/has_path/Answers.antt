use Rattle.std.proofs.Common.{◌∙◌, List, sym, ap}
use Rattle.rpki_folder.specs.KeptLines.{has_path}
use Rattle.rpki_folder.specs.declared.find.FoundPath.{FoundPath}
use Rattle.rpki_folder.proofs.KeptPaths.{or_false}
use Rattle.rpki_verdicts.proofs.named_paths.has_path.Goals as goal

pub returns : goal.returns
returns c =
    or_false _ _ _ (sym c.is_down.ensures ∙ c.if-is_down.false)
    (c.has_other.ensures ∙ ap (λ (l : List FoundPath). has_path l c.args.above.now) c.deref.ensures.value)
