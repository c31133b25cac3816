use Rattle.std.specs.Prelude.{Err, option_map}
use Rattle.std.proofs.Common.{◌≡◌, ℕ, List, Bor, Option, inl, inr, rules, sym, subst}
use Rattle.rpki_cert.specs.Verification.{ResourceFields}
use Rattle.rpki_files.specs.Files.{contents}
use Rattle.rpki_path.specs.Asking.{RevocationChecks}
use Rattle.rpki_requests.specs.Fulfilment.{Prepares, PreparesBelow, context_of}
use Rattle.rpki_requests.specs.RequestFiles.{AreOneIssuer, IsSoAsked}
use Rattle.rpki_requests.specs.RequestWords.Views.{asked_fields}
use Rattle.rpki_requests.proofs.AskedLists.{none_to_sign}
use Rattle.rpki_requests.proofs.AskedSources.{so_moved}
use Rattle.rpki_requests.proofs.OneIssuers.{prepares_moved}
use Rattle.rpki_requests.specs.RefusedErrands.{IsSoOfCertificate, IsSoOfPrepared}
use Rattle.rpki_requests.specs.declared.refusals.Refusal.{Refusal}
use Rattle.rpki_requests.proofs.fulfilling.prepared.Goals as goal

pub returns-in_err-issuer-clause-refused : goal.returns-in_err-issuer-clause-refused
returns-in_err-issuer-clause-refused c =
    let same : c.from_residual.result ≡ Err c.in_err-issuer.field-0.0 = search rules in
    rw same (λ not. none_to_sign (Prepares c.args.kind (asked_fields c.args.order.now) c.args.inputs.now c.args.at)
    (λ octets p. c.in_err-issuer.ensures.none not p.issuer p.issuer_is))

pub returns-clause-prepared : goal.returns-clause-prepared
returns-clause-prepared c =
    let asked = asked_fields c.args.order.now in
    let x = context_of asked c.args.at in
    let above = option_map (λ (r : Bor ResourceFields). r.now) c.as_ref.result in
    let keys : contents c.inputs.inside.keys.now ≡ c.args.inputs.now.keys = search rules in
    let lists : contents c.inputs.inside.lists.now ≡ c.args.inputs.now.lists = search rules in
    let octets = c.in_ok-octets.field-0 in
    record {
      issuer = c.in_ok-issuer.issuer;
      issuer_is = c.in_ok-issuer.ensures.issuer;
      prepares =
          subst (λ (l : List (List ℕ)).
          IsSoAsked x l
          (λ checks. PreparesBelow c.args.kind asked c.args.inputs.now.keys c.args.inputs.now.issuers checks
          c.args.at c.in_ok-issuer.issuer octets)) lists
          (subst (λ (o : Option ResourceFields). IsSoAsked x (contents c.inputs.inside.lists.now)
          (λ checks. PreparesBelow c.args.kind asked c.args.inputs.now.keys c.args.inputs.now.issuers checks
          c.args.at o octets)) c.as_ref.ensures.value
          (subst (λ (l : List (List ℕ)). IsSoAsked x (contents c.inputs.inside.lists.now)
          (λ checks. PreparesBelow c.args.kind asked l c.args.inputs.now.issuers checks c.args.at above
          octets)) keys
          (subst (λ (l : List (List ℕ)). IsSoAsked x (contents c.inputs.inside.lists.now)
          (λ checks. PreparesBelow c.args.kind asked (contents c.inputs.inside.keys.now) l checks c.args.at
          above octets)) c.requires c.in_ok-octets.ensures.prepared)));
    }

pub returns-in_err-octets-clause-refused : goal.returns-in_err-octets-clause-refused
returns-in_err-octets-clause-refused c =
    let asked = asked_fields c.args.order.now in
    let x = context_of asked c.args.at in
    let read = contents c.inputs.inside.keys.now in
    let keys : read ≡ c.args.inputs.now.keys = search rules in
    let lists : contents c.inputs.inside.lists.now ≡ c.args.inputs.now.lists = search rules in
    let same : c.from_residual-in_err-octets.result ≡ Err c.in_err-octets.field-0.0 = search rules in
    rw same (λ not. none_to_sign (Prepares c.args.kind asked c.args.inputs.now c.args.at) (λ octets p.
    let one = subst (λ (o : Option ResourceFields). AreOneIssuer p.issuer o) (sym c.as_ref.ensures.value)
    (c.in_ok-issuer.ensures.only p.issuer p.issuer_is) in
    let given = subst (λ (l : List (List ℕ)).
    IsSoAsked x l
    (λ checks. PreparesBelow c.args.kind asked c.args.inputs.now.keys c.args.inputs.now.issuers checks
    c.args.at p.issuer octets)) (sym lists) p.prepares in
    c.in_err-octets.ensures.refused not octets
    (so_moved x (contents c.inputs.inside.lists.now)
    (λ (checks : RevocationChecks). PreparesBelow c.args.kind asked c.args.inputs.now.keys c.args.inputs.now.issuers
    checks c.args.at p.issuer octets)
    (λ (checks : RevocationChecks). PreparesBelow c.args.kind asked read c.args.path.now checks c.args.at
    (option_map (λ (r : Bor ResourceFields). r.now) c.as_ref.result) octets)
    (λ checks q. prepares_moved asked c.args.path.now checks c.args.at c.args.kind read octets p.issuer
    c.as_ref.result one
    (subst (λ (l : List (List ℕ)). PreparesBelow c.args.kind asked read l checks c.args.at p.issuer octets)
    (sym c.requires)
    (subst (λ (l : List (List ℕ)). PreparesBelow c.args.kind asked l c.args.inputs.now.issuers checks c.args.at
    p.issuer octets) (sym keys) q))) given)))

pub returns-in_err-issuer-clause-so : goal.returns-in_err-issuer-clause-so
returns-in_err-issuer-clause-so c =
    let same : c.from_residual.result ≡ Err c.in_err-issuer.field-0.0 = search rules in
    rw same (inl c.in_err-issuer.ensures.of_path)

pub returns-in_err-octets-clause-so : goal.returns-in_err-octets-clause-so
returns-in_err-octets-clause-so c =
    let asked = asked_fields c.args.order.now in
    let x = context_of asked c.args.at in
    let above = option_map (λ (r : Bor ResourceFields). r.now) c.as_ref.result in
    let why = c.in_err-octets.field-0.0 in
    let keys : contents c.inputs.inside.keys.now ≡ c.args.inputs.now.keys = search rules in
    let lists : contents c.inputs.inside.lists.now ≡ c.args.inputs.now.lists = search rules in
    let same : c.from_residual-in_err-octets.result ≡ Err why = search rules in
    rw same (elim c.in_err-octets.ensures.so [
      | inl memory ↦ subst (λ (w : Refusal). IsSoOfPrepared c.args.kind asked c.args.inputs.now c.args.at w)
          (sym memory) (inl tt)
      | inr so ↦ inr (record {
        issuer = c.in_ok-issuer.issuer;
        issuer_is = c.in_ok-issuer.ensures.issuer;
        is_so =
            subst (λ (l : List (List ℕ)).
            IsSoAsked x l
            (λ checks. IsSoOfCertificate c.args.kind asked c.args.inputs.now.keys c.args.inputs.now.issuers
            checks c.args.at c.in_ok-issuer.issuer why)) lists
            (subst (λ (o : Option ResourceFields). IsSoAsked x (contents c.inputs.inside.lists.now)
            (λ checks. IsSoOfCertificate c.args.kind asked c.args.inputs.now.keys c.args.inputs.now.issuers
            checks c.args.at o why)) c.as_ref.ensures.value
            (subst (λ (l : List (List ℕ)). IsSoAsked x (contents c.inputs.inside.lists.now)
            (λ checks. IsSoOfCertificate c.args.kind asked l c.args.inputs.now.issuers checks c.args.at above
            why)) keys
            (subst (λ (l : List (List ℕ)). IsSoAsked x (contents c.inputs.inside.lists.now)
            (λ checks. IsSoOfCertificate c.args.kind asked (contents c.inputs.inside.keys.now) l checks
            c.args.at above why)) c.requires so)));
      })
    ])
