use Rattle.std.proofs.Common.{sym, ◌∙◌, arith, below_more}
use Rattle.std.proofs.lemmas.Bool.{false≢true}
use Rattle.std.proofs.lemmas.List.{length-map}
use Rattle.std.proofs.lemmas.Option.{slice_get_within}
use Rattle.rpki_verdicts.specs.Trees.{certs_of}
use Rattle.rpki_verdicts.proofs.search.first_keyed.Goals as goal

pub loop-place-preserved : goal.loop-place-preserved
loop-place-preserved c =
    below_more _ _ c.loop-place.invariant (λ has. false≢true (sym c.if-has_key_at.false ∙ c.has_key_at.ensures.1 has))

pub returns-then-has_key_at-clause-first : goal.returns-then-has_key_at-clause-first
returns-then-has_key_at-clause-first c = (c.has_key_at.ensures.0 c.if-has_key_at.true, c.loop-place.invariant)

pub returns-clause-first : goal.returns-clause-first
returns-clause-first c = λ k has.
    let certs = c.args.tree.now.certs.items in
    let low = slice_get_within (certs_of c.args.tree.now) k has.0.0 has.0.1 in
    let same = length-map certs (λ f. f.now) in
    c.loop-place.invariant k (omega (arith, low, same, c.loop-place-test.false)) has
