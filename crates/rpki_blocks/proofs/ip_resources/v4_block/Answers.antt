use Rattle.std.proofs.Common.{◌∙◌, arith}
use Rattle.rpki_blocks.proofs.FirstBits.{v4_ends}
use Rattle.rpki_blocks.proofs.ip_resources.v4_block.Goals as goal

pub of_ends-requires : goal.of_ends-requires
of_ends-requires c =
    let ends = v4_ends c.args.unused c.args.octets.now c.requires.few c.requires.none c.requires.zero_bits
    (omega arith) c.from-first.result c.from-2.result c.from-3.result (omega arith) (omega arith)
    c.requires.short (omega arith) (omega arith) in
    ends.2

pub returns : goal.returns
returns c =
    let ends = v4_ends c.args.unused c.args.octets.now c.requires.few c.requires.none c.requires.zero_bits
    (omega arith) c.from-first.result c.from-2.result c.from-3.result (omega arith) (omega arith)
    c.requires.short (omega arith) (omega arith) in
    c.of_ends.ensures ∙ (λ i. record { min = ends.0 i; max = ends.1 i })
