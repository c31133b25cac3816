use Rattle.std.proofs.Common.{◌∙◌, refl, arith}
use Rattle.std.proofs.lemmas.List.{drop_all}
use Rattle.rpki_parts.proofs.DotSegments.{no_dots_from}
use Rattle.rpki_parts.proofs.uri.may_have_dots.Goals as goal

pub returns : goal.returns
returns c = λ h. no_dots_from c.args.path.now
    (c.loop-octet.invariant ∙ rw (h, drop_all c.loop-octet.octet-index c.args.path.now (omega arith)) refl)
