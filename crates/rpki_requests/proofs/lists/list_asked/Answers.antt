use Rattle.std.specs.Prelude.{Err, option_map, Option}
use Rattle.std.proofs.Common.{◌≡◌, ◌≢◌, ℕ, List, Bor, inl, inr, rules, sym, subst}
use Rattle.rpki_cert.specs.Certificates.{TbsFields}
use Rattle.rpki_crl.specs.Lists.{CrlFields, CrlState, ListFields}
use Rattle.rpki_crl.specs.RevokedEntries.{Revoked}
use Rattle.rpki_files.specs.Files.{contents}
use Rattle.rpki_issuing.specs.OnlyValues.{IsOnly}
use Rattle.rpki_issuing.specs.WantedLists.{IsListWanted, IsNoList}
use Rattle.rpki_issuing.specs.declared.wanted.preparing.WantedError.{WantedError}
use Rattle.rpki_requests.specs.OptionValues.{GivesList}
use Rattle.rpki_requests.specs.RequestFiles.{IsPreviousOf}
use Rattle.rpki_requests.specs.RequestWords.Views.{asked_fields}
use Rattle.rpki_requests.specs.RefusedErrands.{MayNotFollow}
use Rattle.rpki_requests.specs.ToldRefusals.{IsOtherList, IsWantedFault}
use Rattle.rpki_requests.specs.declared.refusals.Refusal.TheVariants.{Memory}
use Rattle.rpki_requests.proofs.AskedLists.{asks_list, asks_no_list, fields_before}
use Rattle.rpki_requests.proofs.RefusalCases.{unfit_so}
use Rattle.rpki_requests.proofs.lists.list_asked.Goals as goal

pub returns-in-Err : goal.returns-in-Err
returns-in-Err c =
    let files : contents c.inputs.inside.previous.now ≡ c.args.inputs.now.previous = search rules in
    let other = subst (λ (l : List (List ℕ)). IsOtherList c.args.issuer.now.cert.fields l c.in-Err.why) files
    c.in-Err.ensures.0 in (
      inl other,
      λ not f h. c.in-Err.ensures.1 not h.previous
          (subst (λ (l : List (List ℕ)). IsPreviousOf c.args.issuer.now.cert.fields l h.previous) (sym files)
          h.previous_is),
    )

pub returns-in_err-wanted : goal.returns-in_err-wanted
returns-in_err-wanted c =
    let asked = asked_fields c.args.order.now in
    let files : contents c.inputs.inside.revoked.now ≡ c.args.inputs.now.revoked = search rules in
    let issuer : c.as_tbs.result.now ≡ c.args.issuer.now.cert.fields = search rules in
    let why = c.in_err-wanted.field-0.0 in
    let fault = subst (λ (l : List (List ℕ)). IsWantedFault asked.given l c.args.issuer.now.cert.fields why) files
    (subst (λ (i : TbsFields). IsWantedFault asked.given (contents c.inputs.inside.revoked.now) i why) issuer
    c.in_err-wanted.ensures.0) in
    let same : c.from_residual.result ≡ Err why = search rules in
    rw same (
      inr (inl fault),
      λ not f h. c.in_err-wanted.ensures.1 not h.wanted
          (subst (λ (i : TbsFields). GivesList asked.given (contents c.inputs.inside.revoked.now) i c.args.at
          h.wanted) (sym issuer)
          (subst (λ (l : List (List ℕ)). GivesList asked.given l c.args.issuer.now.cert.fields c.args.at h.wanted)
          (sym files) h.wanted_is)),
    )

pub returns-in-Ok-list : goal.returns-in-Ok-list
returns-in-Ok-list c =
    let asked = asked_fields c.args.order.now in
    let above = c.args.issuer.now.cert.fields in
    let before = option_map (λ (l : Bor CrlState). l.now.list) c.in-Ok.previous in
    let previous : contents c.inputs.inside.previous.now ≡ c.args.inputs.now.previous = search rules in
    let revoked : contents c.inputs.inside.revoked.now ≡ c.args.inputs.now.revoked = search rules in
    let issuer : c.as_tbs.result.now ≡ above = search rules in
    let one = subst (λ (l : List (List ℕ)). IsOnly (IsPreviousOf above l) before) previous c.in-Ok.ensures in
    let only = subst (λ (l : List (List ℕ)). IsOnly (GivesList asked.given l above c.args.at) c.in_ok-wanted.wanted)
    revoked
    (subst (λ (i : TbsFields). IsOnly (GivesList asked.given (contents c.inputs.inside.revoked.now) i c.args.at)
    c.in_ok-wanted.wanted) issuer c.in_ok-wanted.ensures) in
    asks_list asked c.args.inputs.now c.args.at above before one c.in_ok-wanted.wanted only c.in-Ok-list.list
    (subst (λ (o : Option (ListFields Revoked)). IsListWanted c.in_ok-wanted.wanted o above c.in-Ok-list.list)
    (sym (fields_before c.in-Ok.previous)) c.in-Ok-list.ensures.wanted)

pub returns-in-Err-list : goal.returns-in-Err-list
returns-in-Err-list c =
    let asked = asked_fields c.args.order.now in
    let above = c.args.issuer.now.cert.fields in
    let before = option_map (λ (l : Bor CrlState). l.now.list) c.in-Ok.previous in
    let previous : contents c.inputs.inside.previous.now ≡ c.args.inputs.now.previous = search rules in
    let revoked : contents c.inputs.inside.revoked.now ≡ c.args.inputs.now.revoked = search rules in
    let issuer : c.as_tbs.result.now ≡ above = search rules in
    let one = subst (λ (l : List (List ℕ)). IsOnly (IsPreviousOf above l) before) previous c.in-Ok.ensures in
    let only = subst (λ (l : List (List ℕ)). IsOnly (GivesList asked.given l above c.args.at) c.in_ok-wanted.wanted)
    revoked
    (subst (λ (i : TbsFields). IsOnly (GivesList asked.given (contents c.inputs.inside.revoked.now) i c.args.at)
    c.in_ok-wanted.wanted) issuer c.in_ok-wanted.ensures) in
    let none : c.unfit.result ≢ Memory → (f : ListFields Revoked) →
    IsListWanted c.in_ok-wanted.wanted (option_map (λ (l : CrlFields). l.fields) before) above f →
    ⊥ = λ not f is.
    c.in-Err-list.ensures.refused (c.unfit.ensures.memory not) f
    (subst (λ (o : Option (ListFields Revoked)). IsListWanted c.in_ok-wanted.wanted o above f)
    (fields_before c.in-Ok.previous) is) in
    let reason = subst (λ (o : Option (ListFields Revoked)). IsNoList c.in_ok-wanted.wanted o c.in-Err-list.error)
    (sym (fields_before c.in-Ok.previous)) c.in-Err-list.ensures.told in
    let Is : WantedError → Type 0 = MayNotFollow asked.given c.args.inputs.now c.args.at above in
    let follows = unfit_so Is _ _ c.unfit.ensures.told
    (λ not. record {
      previous = before;
      previous_is = one.0;
      wanted = c.in_ok-wanted.wanted;
      wanted_is =
          only.0;
      none = none not;
      reason = reason;
    }) in (
      inr (inr follows),
      λ not. asks_no_list asked c.args.inputs.now c.args.at above before one c.in_ok-wanted.wanted
          only (none not),
    )
