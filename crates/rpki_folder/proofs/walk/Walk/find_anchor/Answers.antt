use Rattle.std.proofs.Common.{◌≡◌, ◌<◌, ℕ, length, ap, subst, arith}
use Rattle.rpki_cert.specs.Verification.{context}
use Rattle.rpki_path.specs.AskedLists.{by_named_lists}
use Rattle.rpki_folder.specs.FoundAnchors.Steps.{IsFoundAmong}
use Rattle.rpki_folder.proofs.TriedAnchors.{none_tried, one_tried, all_tried}
use Rattle.rpki_folder.proofs.walk.Walk.find_anchor.Goals as goal

pub loop-place-init : goal.loop-place-init
loop-place-init g c =
    let w = c.args.self.now in
    let x = context (g.V.Verifier.verifies w.verifier.now) w.at w.strict in
    none_tried x (by_named_lists w.names x w.folder.now.lists) w.names c.args.tal.now w.folder.now.certs
    c.new.result c.new.ensures.items

pub loop-place-preserved : goal.loop-place-preserved
loop-place-preserved g c =
    let w = c.args.self.now in
    let x = context (g.V.Verifier.verifies w.verifier.now) w.at w.strict in
    let certs = w.folder.now.certs in
    let count : length c.certs-count.result.now ≡ length certs = ap length c.certs-count.ensures in
    let less = c.loop-place-test.true in
    let low : c.loop-place.place < length certs = omega (arith, less, count) in
    one_tried x (by_named_lists w.names x w.folder.now.lists) w.names c.args.tal.now certs
    c.unambiguous.ensures.certificate c.loop-place.place low
    c.loop-place.found c.in_ok-found.found c.in_ok-tried.tried c.loop-place.invariant c.in_ok-tried.ensures
    c.in_ok-found.ensures

pub returns : goal.returns
returns g c =
    let w = c.args.self.now in
    let x = context (g.V.Verifier.verifies w.verifier.now) w.at w.strict in
    let asked = by_named_lists w.names x w.folder.now.lists in
    let certs = w.folder.now.certs in
    let count : length c.certs-count.result.now ≡ length certs = ap length c.certs-count.ensures in
    let high = c.loop-place-test.false in
    let end : c.loop-place.place ≡ length certs = omega (arith, high, c.loop-place.auto.place-end, count) in
    all_tried x asked w.names c.args.tal.now certs c.loop-place.found
    (subst (λ (n : ℕ). IsFoundAmong x asked w.names c.args.tal.now certs n c.loop-place.found) end
    c.loop-place.invariant)
