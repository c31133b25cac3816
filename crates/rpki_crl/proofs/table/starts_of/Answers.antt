use Rattle.std.proofs.Common.{◌≡◌, ℕ, ◌*◌, ◌^◌, ◌<◌, ◌≤◌, ◌⊎◌, List, [], ◌∷◌, length, get_or, sym, ap, subst, ◌∙◌, arith, length-append}
use Rattle.std.proofs.lemmas.Grind.{get_or_default_zero}
use Rattle.rpki_crl.specs.SerialBuckets.{bucket_of}
use Rattle.rpki_crl.proofs.Buckets.{AreBegun, in_scale, last_is_last, one_begun, one_inside}
use Rattle.rpki_crl.proofs.table.starts_of.Goals as goal

pub unreachable-requires : goal.unreachable-requires
unreachable-requires c =
    let xs = c.args.serials.now in
    let i = c.loop-i.i in
    let inside : i < length xs = c.loop-i-test.true in
    let stands : c.index-serials-i.result ≡ get_or xs i 0 = c.index-serials-i.is ∙
    get_or_default_zero xs i c.index-serials-i.result inside in
    let outside = subst (λ (x : ℕ). (x < c.args.base * 2 ^ 32) ⊎ (2 ^ 96 ≤ bucket_of c.args.base c.args.shift x))
    stands c.in_default.ensures.none in
    in_scale c.args.base c.args.shift xs c.requires.ascending i inside c.requires.scale (omega arith) outside

pub loop-bucket-preserved : goal.loop-bucket-preserved
loop-bucket-preserved c =
    let xs = c.args.serials.now in
    let i = c.loop-i.i in
    let starts = c.loop-bucket.starts.items in
    let inside : i < length xs = c.loop-i-test.true in
    let stands : c.index-serials-i.result ≡ get_or xs i 0 = c.index-serials-i.is ∙
    get_or_default_zero xs i c.index-serials-i.result inside in
    let bucket : c.in-Some.bucket ≡ bucket_of c.args.base c.args.shift (get_or xs i 0) = c.in-Some.ensures.some ∙
    ap (bucket_of c.args.base c.args.shift) stands in
    let next : length starts ≤ bucket_of c.args.base c.args.shift (get_or xs i 0) =
    omega (arith, bucket, c.len.ensures, c.loop-bucket.starts.ok, c.loop-bucket-test.true) in
    let last = last_is_last c.args.base c.args.shift xs c.requires.ascending i inside in
    let more = one_begun c.args.base c.args.shift xs c.requires.ascending i inside starts c.loop-bucket.invariant.begun next in
    record {
      begun = subst (λ (s : List ℕ). AreBegun c.args.base c.args.shift xs s i) (sym c.in_ok-push.ensures.items) more;
      few = omega (arith, next, last, ap length c.in_ok-push.ensures.items, length-append starts (i ∷ []));
    }

pub loop-i-preserved : goal.loop-i-preserved
loop-i-preserved c =
    let xs = c.args.serials.now in
    let i = c.loop-i.i in
    let starts = c.loop-bucket.starts.items in
    let inside : i < length xs = c.loop-i-test.true in
    let stands : c.index-serials-i.result ≡ get_or xs i 0 = c.index-serials-i.is ∙
    get_or_default_zero xs i c.index-serials-i.result inside in
    let bucket : c.in-Some.bucket ≡ bucket_of c.args.base c.args.shift (get_or xs i 0) = c.in-Some.ensures.some ∙
    ap (bucket_of c.args.base c.args.shift) stands in
    let last : bucket_of c.args.base c.args.shift (get_or xs i 0) < length starts =
    omega (arith, bucket, c.len.ensures, c.loop-bucket.starts.ok, c.loop-bucket-test.false) in
    record {
      begun = one_inside c.args.base c.args.shift xs c.requires.ascending i inside starts c.loop-bucket.invariant.begun last;
      few = c.loop-bucket.invariant.few;
    }
