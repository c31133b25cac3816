use Rattle.std.proofs.Common.{◌≡◌, ◌++◌, refl, sym, ◌∙◌, rules}
use Rattle.rpki_issuing.specs.AskedFields.{router_text}
use Rattle.rpki_issuing.proofs.RouterNames.{before_text, name-text}
use Rattle.rpki_issuing.proofs.wanted.making.router_octets.Goals as goal

pub returns : goal.returns
returns c =
    let text = router_text c.args.number in
    let written : c.in_ok-from_vec.field-0 ≡ before_text ++ text = search rules in
    written ∙ sym (name-text text refl)
