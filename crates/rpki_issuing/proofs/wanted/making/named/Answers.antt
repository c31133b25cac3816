use Rattle.std.proofs.Common.{refl}
use Rattle.rpki_issuing.proofs.wanted.making.named.Goals as goal

pub returns-in-Ok : goal.returns-in-Ok
returns-in-Ok c =
    rw (
      c.set_places.ensures,
      c.set_numbers.ensures,
      c.set_authority_key_identifier.ensures,
      c.set_basic_ca.ensures,
      c.in-Ok.ensures,
      c.flag.ensures,
      c.issuer_key.ensures,
      c.new-validity.ensures,
    ) refl
