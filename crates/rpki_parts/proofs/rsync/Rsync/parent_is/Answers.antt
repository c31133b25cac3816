use Rattle.std.proofs.Common.{refl, sym, subst}
use Rattle.rpki_parts.specs.Uris.{HasNoPath, IsParent, AreIdentical}
use Rattle.rpki_parts.proofs.UriParents.{never_both, the_parent}
use Rattle.rpki_parts.proofs.rsync.Rsync.parent_is.Goals as goal

pub returns-in-Some : goal.returns-in-Some
returns-in-Some c =
    let parent = c.in-Some.parent.now in
    let is = subst (λ u. IsParent u parent) c.as_bytes.ensures.octets c.in-Some.ensures.some in
    let other = c.as_bytes-in-Some.ensures.octets in (
      λ e. record { parent = parent; is = is; identical = subst (AreIdentical parent) other (c.are_identical.ensures.0 e) },
      λ h. c.are_identical.ensures.1 (subst (AreIdentical parent) (sym other) (the_parent c.args.self.now parent c.args.other.now is h)),
    )

pub returns-in-None : goal.returns-in-None
returns-in-None c =
    let none = subst HasNoPath c.as_bytes.ensures.octets (c.in-None.ensures.none.0 refl) in
    (λ e. absurd cc, λ h. absurd (never_both c.args.self.now h.parent none h.is))
