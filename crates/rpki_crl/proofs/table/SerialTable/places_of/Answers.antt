use Rattle.std.proofs.Common.{arith, ◌≡◌, ◌+◌, ◌-◌, ◌<◌, ◌∙◌, ℕ, List, length, get_or, inl, subst, sym}
use Rattle.std.proofs.lemmas.List.{get_or_default}
use Rattle.rpki_crl.specs.SerialBuckets.{AreBuckets, bucket_of}
use Rattle.rpki_crl.specs.SerialSearches.{IsRange}
use Rattle.rpki_crl.specs.SerialTables.{AreAscending}
use Rattle.rpki_crl.proofs.table.SerialTable.places_of.Goals as goal

-- the range of a serial whose bucket isn't the last
in_bucket : (base shift : ℕ) (starts xs : List ℕ) (serial bucket low high : ℕ) → AreBuckets base shift starts xs →
    bucket ≡ bucket_of base shift serial → bucket < length starts - 1 → get_or starts bucket 0 ≡ low →
    get_or starts (bucket + 1) 0 ≡ high → IsRange xs serial low high
in_bucket base shift starts xs serial bucket low high all is inside begins ends = record {
  base = base;
  shift = shift;
  scale = all.scale;
  places = inl (record {
    earlier = omega (arith, is, all.all);
    begins = rw (← begins, ← is) (all.starts_are bucket (omega (arith, inside)));
    ends = rw (← ends, ← is) (all.starts_are (bucket + 1) (omega (arith, inside)));
  });
}

pub returns-in_default-clause-ascending : goal.returns-in_default-clause-ascending
returns-in_default-clause-ascending c = subst AreAscending c.self.view_is c.self.invariant.0

pub returns-then-count-lt2-clause-ascending : goal.returns-then-count-lt2-clause-ascending
returns-then-count-lt2-clause-ascending c = subst AreAscending c.self.view_is c.self.invariant.0

pub returns-clause-ascending : goal.returns-clause-ascending
returns-clause-ascending c = subst AreAscending c.self.view_is c.self.invariant.0

pub returns-clause-range : goal.returns-clause-range
returns-clause-range c =
    let t = c.self.inside in
    let inside : c.in-Some.bucket < length t.starts.items - 1 = omega (arith, c.if-bucket-count.false, c.len-count.ensures) in
    let is : c.in-Some.bucket ≡ bucket_of t.base t.shift c.args.serial = c.in-Some.ensures.some in
    let begins : get_or t.starts.items c.in-Some.bucket 0 ≡ c.index.result.now =
    get_or_default t.starts.items c.in-Some.bucket 0 c.index.result.now (omega (arith, inside)) ∙
    sym c.index.ensures in
    let ends : get_or t.starts.items (c.in-Some.bucket + 1) 0 ≡ c.index-2.result.now =
    get_or_default t.starts.items (c.in-Some.bucket + 1) 0 c.index-2.result.now (omega (arith, inside)) ∙
    sym c.index-2.ensures in
    subst (λ (xs : List ℕ). IsRange xs c.args.serial c.index.result.now c.index-2.result.now) c.self.view_is
    (in_bucket t.base t.shift t.starts.items t.serials.items c.args.serial c.in-Some.bucket c.index.result.now
    c.index-2.result.now c.self.invariant.1 is inside begins ends)
