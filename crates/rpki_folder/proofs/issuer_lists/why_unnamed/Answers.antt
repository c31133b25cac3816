use Rattle.std.proofs.lemmas.Bool.{both_ways}
use Rattle.rpki_cert.specs.Verification.{context}
use Rattle.rpki_folder.proofs.IssuersList.{none_signed, one_signed}
use Rattle.rpki_folder.proofs.issuer_lists.why_unnamed.Goals as goal

pub returns-then-has_signed_if_known : goal.returns-then-has_signed_if_known
returns-then-has_signed_if_known g c = λ names now strict none cert below eligible.
    let x = context (g.V.Verifier.verifies c.args.verifier.now) now strict in
    one_signed names x c.args.lists.now c.args.issuer.now.cert.fields cert below none
    (c.has_signed_if_known.ensures.0 c.if-has_signed_if_known.true)

pub returns : goal.returns
returns g c = λ names now strict none cert below eligible.
    let x = context (g.V.Verifier.verifies c.args.verifier.now) now strict in
    none_signed names x c.args.lists.now c.args.issuer.now.cert.fields cert below none
    (λ is. both_ways c.has_signed_if_known.result c.if-has_signed_if_known.false
    (c.has_signed_if_known.ensures.1 is))
