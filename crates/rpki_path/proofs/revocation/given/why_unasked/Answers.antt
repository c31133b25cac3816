use Rattle.rpki_cert.specs.Verification.{context}
use Rattle.rpki_path.proofs.AskedNamedList.{no_list, other_name}
use Rattle.rpki_path.proofs.revocation.given.why_unasked.Goals as goal

pub returns-in-Some : goal.returns-in-Some
returns-in-Some g c =
    let x = context (g.V.Verifier.verifies c.args.verifier.now) c.args.now c.args.strict in
    let list = c.in-Some.field-0.now in
    other_name c.args.names x c.args.lists.now c.args.issuer.now.cert.fields c.args.cert.now c.requires list
    c.in-Some.ensures.0 c.in-Some.ensures.1.0 c.in-Some.ensures.1.1

pub returns-in-None : goal.returns-in-None
returns-in-None g c =
    let x = context (g.V.Verifier.verifies c.args.verifier.now) c.args.now c.args.strict in
    no_list c.args.names x c.args.lists.now c.args.issuer.now.cert.fields c.args.cert.now c.requires c.in-None.ensures
