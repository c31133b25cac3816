use Rattle.std.proofs.Common.{◌≡◌, ℕ, ◌-◌, ◌^◌, min, sym, ap, ◌∙◌, arith}
use Rattle.rpki_blocks.specs.Sets.{Block}
use Rattle.rpki_blocks.proofs.AddressBits.{foot, prefix_yes, prefix_no}
use Rattle.rpki_blocks.proofs.encode_ip.prefix_bits.Goals as goal

pub returns-then-max-min : goal.returns-then-max-min
returns-then-max-min c =
    let b : Block = record { min = c.args.min; max = c.args.max } in
    let last : c.min-last.result ≡ foot b = c.min-last.ensures ∙ (λ i. min (c.zero_bits.ensures.is i) (c.one_bits.ensures.is i)) in
    let is = prefix_yes b c.requires (c.if-max-min.true ∙ c.low_ones.ensures ∙ ap (λ (k : ℕ). 2 ^ k - 1) last) in
    record { prefix = (is.0, last ∙ sym is.1); most = omega (arith, c.min-last.ensures, c.zero_bits.ensures.most) }

pub returns-else-max-min : goal.returns-else-max-min
returns-else-max-min c =
    let b : Block = record { min = c.args.min; max = c.args.max } in
    let last : c.min-last.result ≡ foot b = c.min-last.ensures ∙ (λ i. min (c.zero_bits.ensures.is i) (c.one_bits.ensures.is i)) in
    record {
      prefix = prefix_no b c.requires
          (λ size. c.if-max-min.false (size ∙ ap (λ (k : ℕ). 2 ^ k - 1) (sym last) ∙ sym c.low_ones.ensures));
      most =
          tt;
    }
