use Rattle.std.specs.Prelude.{Err}
use Rattle.rpki_cert.specs.Verification.{context}
use Rattle.rpki_crl.specs.Revocation.{IsUnderUri}
use Rattle.rpki_crl.specs.declared.revocation_error.RevocationError.TheVariants.{NoCrl}
use Rattle.rpki_crl.proofs.Earliest.{one_earliest, no_earliest, tests_of, no_list}
use Rattle.rpki_crl.proofs.NamedLists.{ok_unrevoked}
use Rattle.rpki_crl.proofs.store.CrlStore.check.Goals as goal

pub returns-in-Some : goal.returns-in-Some
returns-in-Some g c =
    let x = context (g.V.Verifier.verifies c.args.verifier.now) c.args.now c.args.strict in
    let issuer = c.args.issuer.now.cert.fields in
    let pairs = c.args.self.now.pairs in
    let uri = c.args.crl_uri.now in
    let crl = c.in-Some.crl.now in
    let tests = tests_of x issuer c.args.serial (IsUnderUri pairs uri) crl c.in-Some.ensures
    (λ d at. one_earliest pairs uri d crl at c.in-Some.ensures) c.check.result c.check.ensures in
    record {
      checks = tests;
      unrevoked = λ cert number named. ok_unrevoked x pairs issuer cert uri named c.args.serial
          number c.check.result tests;
    }

pub returns-in-None : goal.returns-in-None
returns-in-None g c =
    let x = context (g.V.Verifier.verifies c.args.verifier.now) c.args.now c.args.strict in
    let issuer = c.args.issuer.now.cert.fields in
    let pairs = c.args.self.now.pairs in
    let uri = c.args.crl_uri.now in
    let first = no_list x issuer c.args.serial (IsUnderUri pairs uri) (no_earliest pairs uri c.in-None.ensures) in
    record {
      checks = first;
      unrevoked = λ cert number named. ok_unrevoked x pairs issuer cert uri named c.args.serial
          number (Err NoCrl) first;
    }
