use Rattle.std.specs.Prelude.{Err}
use Rattle.std.proofs.Common.{◌≡◌, inl, inr, refl, rules}
use Rattle.rpki_c.proofs.list_completing.complete_list.Goals as goal

pub returns-in_err-above : goal.returns-in_err-above
returns-in_err-above c =
    let e = c.in_err-above.field-0.0 in
    let same : c.from_residual.result ≡ Err e = search rules in
    rw same (inr (c.in-Some.terms, c.in-Some.ensures.terms, inl (e, refl, c.in_err-above.ensures.none)))

pub returns : goal.returns
returns c = inr (
  c.in-Some.terms,
  c.in-Some.ensures.terms,
  inr (c.in_ok-above.above, c.in_ok-above.ensures.authority, c.completed_below.ensures),
)

pub authority_of-requires : goal.authority_of-requires
authority_of-requires c = c.in-Some.ensures.terms.path_is
