use Rattle.std.proofs.Common.{refl, sym, inr, ◌∙◌}
use Rattle.std.proofs.lemmas.Bool.{true≢false, false≢true}
use Rattle.rpki_cert.specs.Verification.{context}
use Rattle.rpki_path.proofs.AskedNamedList.{wrong_key, unsigned, not_begun}
use Rattle.rpki_path.proofs.revocation.given.why_none.Goals as goal

pub returns-then-is_err : goal.returns-then-is_err
returns-then-is_err g c =
    let x = context (g.V.Verifier.verifies c.args.verifier.now) c.args.now c.args.strict in
    let list = c.in-Some.list.now in
    wrong_key c.args.names x c.args.lists.now c.args.issuer.now.cert.fields c.args.cert.now list
    (inr (c.requires, c.in-Some.ensures.0, c.in-Some.ensures.1))
    (λ names. true≢false (sym (c.verify_issuer_claim.ensures.ok.1 names) ∙ c.if-is_err.ensures.negation))

pub returns-then-not-are_signed : goal.returns-then-not-are_signed
returns-then-not-are_signed g c =
    let x = context (g.V.Verifier.verifies c.args.verifier.now) c.args.now c.args.strict in
    let list = c.in-Some.list.now in
    let names = c.verify_issuer_claim.ensures.ok.0 c.if-is_err.ensures.negation in
    unsigned c.args.names x c.args.lists.now c.args.issuer.now.cert.fields c.args.cert.now c.requires list
    c.in-Some.ensures names (λ each. false≢true (c.if-not-are_signed.ensures.1 each))

pub returns : goal.returns
returns g c =
    let x = context (g.V.Verifier.verifies c.args.verifier.now) c.args.now c.args.strict in
    let list = c.in-Some.list.now in
    let names = c.verify_issuer_claim.ensures.ok.0 c.if-is_err.ensures.negation in
    not_begun c.args.names x c.args.lists.now c.args.issuer.now.cert.fields c.args.cert.now c.requires list
    c.in-Some.ensures names (c.if-not-are_signed.ensures.0 refl)
