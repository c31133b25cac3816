use Rattle.std.proofs.Common.{◌≡◌, ◌++◌, rules, sym, ◌∙◌, ap}
use Rattle.rpki_parts.specs.Names.{is_name}
use Rattle.rpki_parts.specs.KeyNames.{hexadecimal}
use Rattle.rpki_parts.proofs.KeyNames.{IsKeyName, before_digits, key_name}
use Rattle.rpki_parts.proofs.name.Name.of_key.Goals as goal

pub invariant_of-result : goal.invariant_of-result
invariant_of-result c =
    let id = c.args.identifier.now in
    let k : IsKeyName id = key_name id c.as_octets.ensures.size c.as_octets.ensures.octets in
    let is : c.from-octets.result ≡ before_digits ++ hexadecimal id = search rules in
    ap is_name (is ∙ sym k.is) ∙ k.name
