use Rattle.std.proofs.Common.{[], ◌∷◌, ◌++◌}
use Rattle.rpki_document.proofs.Built.{then_ended}
use Rattle.rpki_answers.specs.ShownCertificates.{field_nodes, kind_line, own_key_nodes, own_resource_nodes}
use Rattle.rpki_answers.specs.ShownCertificates.{place_nodes, profile_nodes, validity_nodes}
use Rattle.rpki_answers.proofs.showing.certificates.add_found.Goals as goal

pub returns : goal.returns
returns c =
    let last = c.add_profiles.result in
    let f = c.args.fields.now in
    let o = c.args.options.now in
    let found = c.args.found.now in
    let new = c.add_profiles.new.parts.items in
    let profiles = profile_nodes o.all found in
    let resources = own_resource_nodes f.extensions ++ profiles in
    let places = place_nodes f.extensions ++ resources in
    let keys = own_key_nodes f found.key ++ places in
    let validity = validity_nodes f.validity o.at ++ keys in
    then_ended last c.args.parts.now.items c.add_kind.new.parts.items new (kind_line found.kind ∷ []) (field_nodes f ++ validity)
    c.in_ok-add_kind.ensures
    (then_ended last c.add_kind.new.parts.items c.add_fields.new.parts.items new (field_nodes f) validity
    c.in_ok-add_fields.ensures
    (then_ended last c.add_fields.new.parts.items c.add_validity.new.parts.items new (validity_nodes f.validity o.at) keys
    (rw c.validity.ensures at c.in_ok-add_validity.ensures)
    (then_ended last c.add_validity.new.parts.items c.add_keys.new.parts.items new (own_key_nodes f found.key) places
    c.in_ok-add_keys.ensures
    (then_ended last c.add_keys.new.parts.items c.add_places.new.parts.items new (place_nodes f.extensions) resources
    c.in_ok-add_places.ensures
    (then_ended last c.add_places.new.parts.items c.add_resources.new.parts.items new (own_resource_nodes f.extensions) profiles
    c.in_ok-add_resources.ensures c.add_profiles.ensures)))))
