use Rattle.std.specs.Prelude.{All}
use Rattle.std.proofs.Common.{◌∙◌, refl, sym, subst}
use Rattle.std.proofs.lemmas.Bool.{false≢true}
use Rattle.std.proofs.lemmas.List.{take_all}
use Rattle.rpki_issuing.proofs.CertifiedKeys.{Apart, key_there, none_further}
use Rattle.rpki_issuing.proofs.wanted.rules.is_no_key_of.Goals as goal

pub returns-then-branch : goal.returns-then-branch
returns-then-branch c =
    key_there c.args.key.now c.args.path.now c.loop-octets.octets-index c.octets-item.result c.loop-octets-test.true
    c.octets-item.is (c.in_ok-certifies.ensures.0 c.if-branch.true)

pub loop-octets-preserved : goal.loop-octets-preserved
loop-octets-preserved c =
    none_further c.args.key.now c.args.path.now c.loop-octets.octets-index c.octets-item.result
    c.loop-octets-test.true c.octets-item.is c.loop-octets.invariant
    (λ h. false≢true (sym c.if-branch.false ∙ c.in_ok-certifies.ensures.1 h))

pub returns : goal.returns
returns c =
    let all = subst (All (Apart c.args.key.now))
    (take_all c.loop-octets.octets-index c.args.path.now c.loop-octets-test.false) c.loop-octets.invariant in
    ((λ yes. all), (λ all. refl))
