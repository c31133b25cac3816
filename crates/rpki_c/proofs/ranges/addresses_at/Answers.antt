use Rattle.std.proofs.Common.{◌∙◌, ◌+◌, ◌<◌, ◌≤◌, length, slice_range, refl, sym, arith}
use Rattle.std.proofs.lemmas.List.{get_or_default}
use Rattle.std.proofs.lemmas.List.Edits.{length-between}
use Rattle.rpki_c.specs.Writing.{ip_struct}
use Rattle.rpki_c.proofs.Writings.{same_next}
use Rattle.rpki_c.proofs.ranges.addresses_at.Goals as goal

pub loop-at-preserved : goal.loop-at-preserved
loop-at-preserved c =
    let blocks = c.args.blocks.now in
    let all = c.args.all.now in
    let place = c.args.place in
    let i = c.loop-at.at in
    let b = c.index-blocks-at.result in
    let low : i < length blocks = c.loop-at-test.true in
    let inside : place + length blocks ≤ length all = omega (arith, c.if-place-all.false, c.if-blocks-all.false) in
    let size = length-between all place (place + length blocks) inside in
    let part = slice_range all place (place + length blocks) in
    let room : i < length part = omega (arith, size, low) in
    let same = c.is_range.ensures c.if-not-is_range.false in
    same_next ip_struct blocks part i b (ip_struct b) low room c.index-blocks-at.is
    (sym same ∙ get_or_default part i _ (ip_struct b) room) refl c.loop-at.invariant
