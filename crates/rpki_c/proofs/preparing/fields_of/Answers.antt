use Rattle.std.specs.Prelude.{Err, option_map}
use Rattle.std.proofs.Common.{◌≡◌, ℕ, List, Bor, Option, ap, rules, subst, ◌∙◌}
use Rattle.rpki_cert.specs.Certificates.{TbsFields}
use Rattle.rpki_cert.specs.Verification.{ResourceFields}
use Rattle.rpki_parts.specs.Keys.{KeyFields}
use Rattle.rpki_parts.specs.Names.{IsName}
use Rattle.rpki_issuing.specs.AskedFields.{fields_asked}
use Rattle.rpki_issuing.specs.Issuers.{fields_above}
use Rattle.rpki_issuing.specs.declared.wanted.wanted.Wanted.{Wanted}
use Rattle.rpki_c.specs.WantedAnswers.{subject_of}
use Rattle.rpki_c.proofs.AnsweredWants.{value_fields}
use Rattle.rpki_c.proofs.preparing.fields_of.Goals as goal

pub returns-in_err-wanted : goal.returns-in_err-wanted
returns-in_err-wanted c =
    let e = c.in_err-wanted.field-0.0 in
    let same : c.from_residual.result ≡ Err e = search rules in
    rw same (value_fields c.args.w.now c.args.terms (option_map (λ (r : Bor ResourceFields). r.now) c.args.issuer) e
    c.in_err-wanted.ensures)

pub returns-in_default : goal.returns-in_default
returns-in_default c = (
  (c.in_ok-wanted.wanted, c.in_ok-wanted.key),
  c.in_ok-wanted.ensures,
  rw c.in_default.is at c.in_ok-tbs.ensures,
)

pub returns : goal.returns
returns c =
    let t = c.args.terms in
    let values : Wanted × KeyFields = (c.in_ok-wanted.wanted, c.in_ok-wanted.key) in
    let made = rw c.in-Some.is at c.in_ok-tbs.ensures in
    let fields : c.in-Some.tbs ≡ fields_asked t.kind t.trims values.0
    (fields_above (option_map (λ (r : Bor ResourceFields). r.now) c.args.issuer)) values.1 =
    made ∙ ap (λ (above : Option TbsFields). fields_asked t.kind t.trims values.0 above values.1)
    c.above.ensures in
    let subject : c.subject.result.now ≡ subject_of t values = c.subject.ensures ∙ ap (λ (f : TbsFields). f.subject)
    fields in
    record {
      values = values;
      given = c.in_ok-wanted.ensures;
      named = subst (λ (name : List ℕ). IsName name name) subject c.as_bytes-octets.ensures.valid;
      fields_are = fields;
    }
