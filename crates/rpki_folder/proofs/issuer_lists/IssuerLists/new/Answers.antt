use Rattle.std.proofs.Common.{List, map, sym, ap, subst}
use Rattle.rpki_cert.specs.Verification.{context}
use Rattle.rpki_crl.specs.Lists.{CrlState}
use Rattle.rpki_folder.specs.IssuerLists.{ArePicked, IsOfIssuer}
use Rattle.rpki_folder.proofs.IssuersList.{eligible_there}
use Rattle.rpki_folder.proofs.issuer_lists.IssuerLists.new.Goals as goal

pub returns : goal.returns
returns g c = λ strict.
    let x = context (g.V.Verifier.verifies c.args.verifier.now) c.args.now strict in
    let lists = c.args.lists.now in
    let issuer = c.args.issuer.now.cert.fields in
    let names = c.args.names in
    let of_issuer = λ (ls : List CrlState). ArePicked (IsOfIssuer names issuer) lists ls in
    let first = ap (λ rs. map (λ r. r.now) rs) c.deref.ensures.value in
    let second = ap (λ rs. map (λ r. r.now) rs) c.deref-2.ensures.value in
    record {
      eligible = eligible_there names x lists issuer (map (λ r. r.now) c.deref.result.now)
          (map (λ r. r.now) c.in_ok-eligible.eligible.items)
          (subst of_issuer (sym first) c.in_ok-named.ensures) c.in_ok-eligible.ensures;
      otherwise = c.why_none-otherwise.ensures names strict (subst of_issuer (sym second) c.in_ok-named.ensures);
    }
