use Rattle.std.proofs.Common.{◌≡◌, ◌++◌, List, ℕ, ap, sym, ◌∙◌, append_assoc, arith, rules}
use Rattle.std.specs.List.{concat}
use Rattle.std.proofs.lemmas.List.Folds.{concat-append}
use Rattle.rpki_der.specs.Tags.{SEQUENCE}
use Rattle.rpki_blocks.specs.Addresses.{family}
use Rattle.rpki_blocks.proofs.Enclosing.{enclosed_long}
use Rattle.rpki_blocks.proofs.Lengths.{passed_long, families_longer}
use Rattle.rpki_blocks.proofs.encode.put_families.Goals as goal

pub returns-in_err-put_family-clause-too_long : goal.returns-in_err-put_family-clause-too_long
returns-in_err-put_family-clause-too_long c = passed_long c.from_residual.result _ _ _ c.from_residual.ensures.1
    c.in_err-put_family.ensures.too_long (omega (arith, families_longer c.args.v4.now c.args.v6.now))

pub returns-in_err-put_family-2-clause-too_long : goal.returns-in_err-put_family-2-clause-too_long
returns-in_err-put_family-2-clause-too_long c = passed_long c.from_residual-in_err-put_family-2.result
    _ _ _ c.from_residual-in_err-put_family-2.ensures.1 c.in_err-put_family-2.ensures.too_long
    (omega (arith, families_longer c.args.v4.now c.args.v6.now))

pub returns-clause-too_long : goal.returns-clause-too_long
returns-clause-too_long c =
    let four = family 1 c.args.v4.now in
    let six = family 2 c.args.v6.now in
    let out : c.put_family-2.new.out.items ≡ c.args.out.now.items ++ concat (family 1 c.args.v4.now ++ family 2 c.args.v6.now) =
    c.in_ok-put_family-2.ensures.ok ∙ ap (λ (b : List ℕ). b ++ concat six) c.in_ok-put_family.ensures.ok ∙
    append_assoc c.args.out.now.items (concat four) (concat six) ∙
    ap (λ (b : List ℕ). c.args.out.now.items ++ b) (sym (concat-append four six)) in
    enclosed_long c.enclose.result SEQUENCE c.len-start.result c.args.out.now.items _ _ c.enclose.ensures.too_long.0 (search rules) out
