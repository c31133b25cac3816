use Rattle.std.specs.Prelude.{Err, option_map}
use Rattle.std.proofs.Common.{◌≡◌, ℕ, List, [], ◌∷◌, Bor, Option, inl, inr, refl, rules, sym, subst, ◌∙◌}
use Rattle.rpki_cert.specs.Verification.{ResourceFields}
use Rattle.rpki_files.specs.Files.{contents}
use Rattle.rpki_issuing.proofs.SameRoles.{on_ok, on_err}
use Rattle.rpki_path.specs.Asking.{RevocationChecks}
use Rattle.rpki_requests.specs.Fulfilment.{CompletesAs, IsAcceptedMade, context_of}
use Rattle.rpki_requests.specs.RefusedErrands.{IsSoOfCompletion, IsSoOfEither}
use Rattle.rpki_requests.specs.RequestFiles.{AreOneIssuer, IsSoAsked}
use Rattle.rpki_requests.specs.RequestWords.Views.{asked_fields}
use Rattle.rpki_requests.specs.declared.refusals.Refusal.{Refusal}
use Rattle.rpki_requests.proofs.AcceptedFiles.{accepted_of}
use Rattle.rpki_requests.proofs.AskedLists.{completes_as_moved}
use Rattle.rpki_requests.proofs.AskedSources.{so_moved}
use Rattle.rpki_requests.proofs.fulfilling.completed.Goals as goal

pub returns-in_default-clause-refused : goal.returns-in_default-clause-refused
returns-in_default-clause-refused c = λ not given p.
    let files : contents c.inputs.inside.files.now ≡ c.args.inputs.now.files = search rules in
    c.in_default.ensures p.prepared p.signature (files ∙ p.files_are)

pub returns-clause-completed : goal.returns-clause-completed
returns-clause-completed c =
    let asked = asked_fields c.args.order.now in
    let x = context_of asked c.args.at in
    let above = option_map (λ (r : Bor ResourceFields). r.now) c.as_ref.result in
    let files : contents c.inputs.inside.files.now ≡ c.args.inputs.now.files = search rules in
    let lists : contents c.inputs.inside.lists.now ≡ c.args.inputs.now.lists = search rules in
    let prepared = c.in-Some.prepared.now in
    let signature = c.in-Some.signature.now in
    on_ok _ _ (Unit {0}) c.made_asking-made.result c.made_asking-made.ensures.completed (λ _. tt)
    (λ given below _. record {
      issuer = c.in_ok-issuer.issuer;
      issuer_is = c.in_ok-issuer.ensures.issuer;
      prepared = prepared;
      signature = signature;
      files_are = sym files ∙ c.in-Some.ensures;
      completes =
          subst (λ (l : List (List ℕ)).
          IsSoAsked x l
          (λ checks. CompletesAs asked c.args.inputs.now.issuers checks c.args.at c.in_ok-issuer.issuer
          prepared signature given)) lists
          (subst (λ (o : Option ResourceFields). IsSoAsked x (contents c.inputs.inside.lists.now)
          (λ checks. CompletesAs asked c.args.inputs.now.issuers checks c.args.at o prepared signature given))
          c.as_ref.ensures.value
          (subst (λ (l : List ℕ). IsSoAsked x (contents c.inputs.inside.lists.now)
          (λ checks. CompletesAs asked c.args.inputs.now.issuers checks c.args.at above prepared l given))
          c.deref.ensures
          (subst (λ (l : List (List ℕ)). IsSoAsked x (contents c.inputs.inside.lists.now)
          (λ checks. CompletesAs asked l checks c.args.at above prepared c.deref.result.now given)) c.requires
          below)));
    })

pub returns-clause-accepted : goal.returns-clause-accepted
returns-clause-accepted c =
    let asked = asked_fields c.args.order.now in
    let x = context_of asked c.args.at in
    let lists : contents c.inputs.inside.lists.now ≡ c.args.inputs.now.lists = search rules in
    on_ok _ _ (Unit {0}) c.made_asking-made.result c.made_asking-made.ensures.accepted (λ _. tt)
    (λ given below _.
    accepted_of c.unambiguous.ensures.certificate c.unambiguous-2.ensures.list asked c.args.inputs.now c.args.at
    c.in_ok-issuer.issuer c.in_ok-issuer.ensures.issuer given
    (subst (λ (l : List (List ℕ)). IsSoAsked x l (λ checks. IsAcceptedMade x checks c.in_ok-issuer.issuer given)) lists
    (subst (λ (o : Option ResourceFields). IsSoAsked x (contents c.inputs.inside.lists.now)
    (λ checks. IsAcceptedMade x checks o given)) c.as_ref.ensures.value below)))

pub returns-clause-refused : goal.returns-clause-refused
returns-clause-refused c =
    let asked = asked_fields c.args.order.now in
    let x = context_of asked c.args.at in
    let files : contents c.inputs.inside.files.now ≡ c.args.inputs.now.files = search rules in
    let lists : contents c.inputs.inside.lists.now ≡ c.args.inputs.now.lists = search rules in
    on_err _ _ c.made_asking-made.result c.made_asking-made.ensures.refused
    (λ why below not given p.
    let both : p.prepared ∷ p.signature ∷ [] ≡ c.in-Some.prepared.now ∷ c.in-Some.signature.now ∷ [] =
    sym p.files_are ∙ sym files ∙ c.in-Some.ensures in
    let first : p.prepared ≡ c.in-Some.prepared.now = cc in
    let second : p.signature ≡ c.in-Some.signature.now = cc in
    let one = subst (λ (o : Option ResourceFields). AreOneIssuer p.issuer o) (sym c.as_ref.ensures.value)
    (c.in_ok-issuer.ensures.only p.issuer p.issuer_is) in
    let asking = subst (λ (l : List (List ℕ)).
    IsSoAsked x l
    (λ checks. CompletesAs asked c.args.inputs.now.issuers checks c.args.at p.issuer p.prepared p.signature
    given)) (sym lists) p.completes in
    below not given (so_moved x (contents c.inputs.inside.lists.now)
    (λ (checks : RevocationChecks). CompletesAs asked c.args.inputs.now.issuers checks c.args.at p.issuer p.prepared
    p.signature given)
    (λ (checks : RevocationChecks). CompletesAs asked c.args.path.now checks c.args.at
    (option_map (λ (r : Bor ResourceFields). r.now) c.as_ref.result) c.in-Some.prepared.now c.deref.result.now
    given)
    (λ checks q. completes_as_moved asked c.args.at c.args.path.now c.in-Some.prepared.now c.deref.result.now checks
    p.issuer c.as_ref.result given one
    (subst (λ (l : List (List ℕ)). CompletesAs asked l checks c.args.at p.issuer c.in-Some.prepared.now
    c.deref.result.now given) (sym c.requires)
    (subst (λ (l : List ℕ). CompletesAs asked c.args.inputs.now.issuers checks c.args.at p.issuer l
    c.deref.result.now given) first
    (subst (λ (l : List ℕ). CompletesAs asked c.args.inputs.now.issuers checks c.args.at p.issuer p.prepared l
    given) (second ∙ sym c.deref.ensures) q)))) asking))

pub returns-in_default-clause-so : goal.returns-in_default-clause-so
returns-in_default-clause-so c =
    let files : contents c.inputs.inside.files.now ≡ c.args.inputs.now.files = search rules in
    inl (refl, λ prepared signature are. c.in_default.ensures prepared signature (files ∙ are))

pub returns-in_err-issuer-clause-so : goal.returns-in_err-issuer-clause-so
returns-in_err-issuer-clause-so c =
    let same : c.from_residual.result ≡ Err c.in_err-issuer.field-0.0 = search rules in
    rw same (inr (inl c.in_err-issuer.ensures.of_path))

pub returns-clause-so : goal.returns-clause-so
returns-clause-so c =
    let asked = asked_fields c.args.order.now in
    let x = context_of asked c.args.at in
    let above = option_map (λ (r : Bor ResourceFields). r.now) c.as_ref.result in
    let prepared = c.in-Some.prepared.now in
    let signature = c.in-Some.signature.now in
    let files : contents c.inputs.inside.files.now ≡ c.args.inputs.now.files = search rules in
    let lists : contents c.inputs.inside.lists.now ≡ c.args.inputs.now.lists = search rules in
    on_err _ _ c.made_asking-made.result c.made_asking-made.ensures.so
    (λ why below. elim below [
      | inl memory ↦ subst (λ (w : Refusal). IsSoOfCompletion asked c.args.inputs.now c.args.at w) (sym memory)
          (inr (inl tt))
      | inr so ↦ inr (inr (record {
        issuer = c.in_ok-issuer.issuer;
        issuer_is = c.in_ok-issuer.ensures.issuer;
        is_so = record {
          prepared = prepared;
          signature = signature;
          files_are = sym files ∙ c.in-Some.ensures;
          either =
              subst (λ (l : List (List ℕ)).
              IsSoAsked x l
              (λ checks. IsSoOfEither asked c.args.inputs.now.issuers checks c.args.at c.in_ok-issuer.issuer
              prepared signature why)) lists
              (subst (λ (o : Option ResourceFields). IsSoAsked x (contents c.inputs.inside.lists.now)
              (λ checks. IsSoOfEither asked c.args.inputs.now.issuers checks c.args.at o prepared signature
              why)) c.as_ref.ensures.value
              (subst (λ (l : List ℕ). IsSoAsked x (contents c.inputs.inside.lists.now)
              (λ checks. IsSoOfEither asked c.args.inputs.now.issuers checks c.args.at above prepared l why))
              c.deref.ensures
              (subst (λ (l : List (List ℕ)). IsSoAsked x (contents c.inputs.inside.lists.now)
              (λ checks. IsSoOfEither asked l checks c.args.at above prepared c.deref.result.now why))
              c.requires so)));
        };
      }))
    ])
