use Rattle.std.specs.Prelude.{Err}
use Rattle.std.proofs.Common.{◌≡◌, refl, rules, sym, ap, subst, ◌∙◌}
use Rattle.std.proofs.lemmas.Bool.{false≢true}
use Rattle.rpki_cert.specs.Certificates.{TbsFields}
use Rattle.rpki_keys.specs.KeyForms.{IsUsableKey}
use Rattle.rpki_parts.specs.Keys.{KeyFields}
use Rattle.rpki_requests.proofs.keys.to_sign.Goals as goal

pub returns-in_err-tbs : goal.returns-in_err-tbs
returns-in_err-tbs c =
    let same : c.from_residual.result ≡ Err c.in_err-tbs.field-0.0 = search rules in
    rw same (c.in_err-tbs.ensures.0, λ not f h. c.in_err-tbs.ensures.1 not f h.is_data)

pub returns-then-is_usable : goal.returns-then-is_usable
returns-then-is_usable c = (
  record {
    is_data = c.in_ok-tbs.ensures.0;
    usable = subst (λ (k : KeyFields). IsUsableKey k) c.subject_public_key_info-key.ensures
        (c.is_usable.ensures.0 c.if-is_usable.true);
  },
  λ w h. c.in_ok-tbs.ensures.1 w h.is_data,
)

pub returns : goal.returns
returns c =
    let tbs = c.in_ok-tbs.tbs in
    let key : c.subject_public_key_info-key.result.now ≡ tbs.key = c.subject_public_key_info-key.ensures in
    let not_usable : (k : KeyFields) → k ≡ tbs.key → IsUsableKey k → ⊥ = λ k same usable.
    false≢true (sym c.if-is_usable.false ∙
    c.is_usable.ensures.1 (subst (λ (l : KeyFields). IsUsableKey l) (same ∙ sym key) usable)) in
    let format = ap (λ (k : KeyFields). k.format) (sym key) ∙ sym c.algorithm-format.ensures in (
      (tbs, c.in_ok-tbs.ensures.0, format, not_usable tbs.key refl),
      λ not f h. not_usable f.key (ap (λ (g : TbsFields). g.key) (c.in_ok-tbs.ensures.1 f h.is_data)) h.usable,
    )
