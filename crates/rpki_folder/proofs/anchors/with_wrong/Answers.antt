use Rattle.std.proofs.Common.{refl, sym, subst}
use Rattle.rpki_folder.specs.FoundAnchors.Steps.{IsKeptFound}
use Rattle.rpki_folder.specs.declared.anchors.FoundAnchor.{FoundAnchor}
use Rattle.rpki_folder.specs.declared.anchors.FoundAnchor.TheVariants as found
use Rattle.rpki_folder.specs.declared.anchors.Tried.TheVariants as tried
use Rattle.rpki_folder.proofs.anchors.with_wrong.Goals as goal

pub returns-in_ok-push-in-Wrong : goal.returns-in_ok-push-in-Wrong
returns-in_ok-push-in-Wrong c =
    let wrong = c.args.wrong in
    subst (λ (f : FoundAnchor). IsKeptFound f wrong.place (tried.Wrong wrong.error) (found.Wrong c.push.new.self))
    (sym c.in-Wrong.is)
    (c.push.new.self, refl, c.in_ok-push-in-Wrong.ensures.items)
