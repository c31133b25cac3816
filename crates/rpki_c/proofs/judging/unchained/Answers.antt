use Rattle.std.proofs.lemmas.Bool.{false≢true}
use Rattle.rpki_path.specs.NameChains.{strings_below}
use Rattle.rpki_path.proofs.UnchainedNames.{all_read}
use Rattle.rpki_c.proofs.judging.unchained.Goals as goal

pub unreachable-requires : goal.unreachable-requires
unreachable-requires c =
    let g = c.args.path.now in
    let begin = c.requires in
    false≢true (c.if-not-is_memory.ensures.1
    (all_read g.anchor (strings_below g) begin.0 begin.1 c.in-Err.error c.in-Err.ensures.names))
