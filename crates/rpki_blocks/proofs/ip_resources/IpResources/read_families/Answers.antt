use Rattle.std.proofs.Common.{◌≡◌, [], None, refl, rules}
use Rattle.rpki_der.specs.Place.{remaining}
use Rattle.rpki_der.specs.Values.Reading.{value_at}
use Rattle.rpki_blocks.specs.Addresses.{ip_address_family_format, ip_addr_blocks_format}
use Rattle.rpki_blocks.proofs.ip_resources.IpResources.read_families.Goals as goal

no_family : ip_address_family_format.read [] ≡ None
unfolding ip_address_family_format value_at
no_family = refl

pub returns-then-is_empty-clause-reads : goal.returns-then-is_empty-clause-reads
unfolding ip_addr_blocks_format
returns-then-is_empty-clause-reads c =
    let nil : remaining c.in_ok-content.content ≡ [] = c.if-is_empty.ensures.0 refl in
    let none : ip_address_family_format.read (remaining c.in_ok-content.content) ≡ None = rw nil no_family in
    search rules
