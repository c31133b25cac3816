use Rattle.std.specs.Prelude.{option_map}
use Rattle.std.proofs.Common.{Bor, Option, ap, inl, inr, refl, ◌∙◌}
use Rattle.std.proofs.lemmas.Result.{err_from_is_err_and}
use Rattle.rpki_cert.specs.Certificates.{TbsFields}
use Rattle.rpki_cert.specs.Verification.{ResourceFields}
use Rattle.rpki_files.specs.Files.{contents}
use Rattle.rpki_issuing.specs.AskedFields.{fields_asked}
use Rattle.rpki_requests.specs.OptionValues.{GivesWanted}
use Rattle.rpki_requests.specs.RequestFiles.{IsKeyFile}
use Rattle.rpki_requests.specs.RequestWords.Views.{asked_fields}
use Rattle.rpki_requests.proofs.OneFields.{Says, asks_only, asks_none}
use Rattle.rpki_requests.proofs.OnlyAnswers.{both_only, may_be, when_ok, when_err}
use Rattle.rpki_requests.specs.RefusedErrands.{HasNoName, IsFieldsFault}
use Rattle.rpki_requests.specs.ToldRefusals.{IsKeyFault, IsOptionRefusal}
use Rattle.rpki_requests.proofs.fulfilling.fields_of.Goals as goal

pub returns-in-Some : goal.returns-in-Some
returns-in-Some c =
    let asked = asked_fields c.args.order.now in
    let keys = contents c.args.keys.now in
    let issuer = option_map (λ (r : Bor ResourceFields). r.now) c.args.issuer in
    let MayBe = IsFieldsFault c.args.kind asked.given keys in
    let first = may_be (IsOptionRefusal asked.given) MayBe (GivesWanted asked.given) c.wanted-wanted.result
    (λ why h. inl h) c.wanted-wanted.ensures in
    let second = may_be (IsKeyFault keys) MayBe (IsKeyFile keys) c.subject_key-key.result (λ why h. inr (inl h))
    c.subject_key-key.ensures in
    let says = both_only MayBe (GivesWanted asked.given) (IsKeyFile keys) c.wanted-wanted.result
    c.subject_key-key.result c.both.result c.both.ensures.both c.both.ensures.refused first second in
    let only = when_ok MayBe (Says asked keys) c.both.result (c.in-Ok.wanted, c.in-Ok.key) c.in-Ok.is says in
    let made = rw c.in-Some.is at c.in_ok-tbs-in-Ok.ensures in
    let above = ap (λ (above : Option TbsFields). fields_asked c.args.kind asked.trims c.in-Ok.wanted above
    c.in-Ok.key) c.above.ensures in
    asks_only c.args.kind asked keys issuer c.in-Ok.wanted c.in-Ok.key only c.in-Some.tbs c.subject.result.now
    (made ∙ above) c.subject.ensures c.as_bytes-octets.ensures.valid

pub returns-in-None : goal.returns-in-None
returns-in-None c =
    let asked = asked_fields c.args.order.now in
    let keys = contents c.args.keys.now in
    let issuer = option_map (λ (r : Bor ResourceFields). r.now) c.args.issuer in
    let MayBe = IsFieldsFault c.args.kind asked.given keys in
    let first = may_be (IsOptionRefusal asked.given) MayBe (GivesWanted asked.given) c.wanted-wanted.result
    (λ why h. inl h) c.wanted-wanted.ensures in
    let second = may_be (IsKeyFault keys) MayBe (IsKeyFile keys) c.subject_key-key.result (λ why h. inr (inl h))
    c.subject_key-key.ensures in
    let says = both_only MayBe (GivesWanted asked.given) (IsKeyFile keys) c.wanted-wanted.result
    c.subject_key-key.result c.both.result c.both.ensures.both c.both.ensures.refused first second in
    let only = when_ok MayBe (Says asked keys) c.both.result (c.in-Ok.wanted, c.in-Ok.key) c.in-Ok.is says in
    let unnamed = rw c.in-None.is at c.in_ok-tbs-in-Ok.ensures in
    let name : HasNoName c.args.kind asked.given keys =
    record {
      wanted = c.in-Ok.wanted;
      wanted_is = only.0.0;
      key = c.in-Ok.key;
      key_is = only.0.1;
      unnamed =
          unnamed;
    } in
    (inr (inr (refl, name)), λ not. asks_none c.args.kind asked keys issuer c.in-Ok.wanted c.in-Ok.key only unnamed)

pub returns-in-Err : goal.returns-in-Err
returns-in-Err c =
    let asked = asked_fields c.args.order.now in
    let keys = contents c.args.keys.now in
    let MayBe = IsFieldsFault c.args.kind asked.given keys in
    let first = may_be (IsOptionRefusal asked.given) MayBe (GivesWanted asked.given) c.wanted-wanted.result
    (λ why h. inl h) c.wanted-wanted.ensures in
    let second = may_be (IsKeyFault keys) MayBe (IsKeyFile keys) c.subject_key-key.result (λ why h. inr (inl h))
    c.subject_key-key.ensures in
    let says = both_only MayBe (GivesWanted asked.given) (IsKeyFile keys) c.wanted-wanted.result
    c.subject_key-key.result c.both.result c.both.ensures.both c.both.ensures.refused first second in
    let none = when_err MayBe (Says asked keys) c.both.result c.in-Err.why c.in-Err.is says in
    (none.0, λ not f h. none.1 not (h.wanted, h.key) (h.wanted_is, h.key_is))

pub returns-in_err-tbs-in-Ok : goal.returns-in_err-tbs-in-Ok
returns-in_err-tbs-in-Ok c =
    let gives = err_from_is_err_and c.from_residual.result c.from_residual.ensures.1 in
    rw (gives.1, gives.2) (inl tt, λ not. absurd (not refl))
