use Rattle.std.proofs.Common.{rules, ◌≡◌, List, ℕ, ap, ◌∙◌}
use Rattle.rpki_cert.specs.Rearranging.Steps.{joined}
use Rattle.rpki_cert.proofs.SequencesBuilt.{passed_on_long, elements_made, sequence_too_long}
use Rattle.rpki_cert.proofs.rearranging.make_sequence.Goals as goal

pub returns-in_err-places-clause-too_long : goal.returns-in_err-places-clause-too_long
returns-in_err-places-clause-too_long c =
    passed_on_long _ c.from_residual.result _ c.from_residual.ensures.1
    (λ long. sequence_too_long _ _ _ c.requires (c.in_err-places.ensures.too_long long))

pub returns-clause-ok : goal.returns-clause-ok
returns-clause-ok c =
    let same : c.deref.result.now ≡ c.in_ok-places.places.items = search rules in
    c.in_ok-sequence_octets.ensures ∙ ap (λ (s : List (List ℕ)). joined c.args.order.now s c.args.old.now) same
    ∙ elements_made c.args.order.now c.in_ok-places.places.items c.args.old.now c.args.extras.now c.requires
    c.in_ok-places.ensures.len c.in_ok-places.ensures.places
