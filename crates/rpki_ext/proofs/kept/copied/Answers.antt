use Rattle.std.proofs.Common.{ap, sym, ◌∙◌, Some}
use Rattle.std.proofs.lemmas.Fn.{gave_at}
use Rattle.rpki_ext.proofs.kept.copied.Goals as goal

pub returns-in_ok-copy-in-Some : goal.returns-in_ok-copy-in-Some
returns-in_ok-copy-in-Some g c =
    ap Some (c.requires.same _ _ (gave_at g.F.FnOnce c.copy.ensures c.in_ok-copy-in-Some.was)) ∙ sym c.in-Some.is
