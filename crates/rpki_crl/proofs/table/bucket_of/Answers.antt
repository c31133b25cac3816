use Rattle.std.proofs.Common.{◌≡◌, ℕ, ◌+◌, ◌-◌, ◌*◌, ◌/◌, ◌^◌, sym, ap, ◌∙◌, arith}
use Rattle.std.proofs.lemmas.Nat.{shr-shr}
use Rattle.rpki_crl.proofs.table.bucket_of.Goals as goal

pub returns-then-shift-ge32-clause-some : goal.returns-then-shift-ge32-clause-some
returns-then-shift-ge32-clause-some c =
    let shift = c.args.shift in
    let above = c.args.serial - c.args.base * 2 ^ 32 in
    let front : above / 2 ^ 32 ≡ c.in_ok-front.front =
    omega (arith, c.parts_of-front.ensures.front, c.octets.ensures.number, c.in_ok-front.ensures) in
    let more : 32 + (shift - 32) ≡ shift = omega arith in
    ap (λ (n : ℕ). n / 2 ^ (shift - 32)) (sym front) ∙ shr-shr above 32 (shift - 32) ∙ ap (λ (k : ℕ). above / 2 ^ k) more
