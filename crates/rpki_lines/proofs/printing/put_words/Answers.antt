use Rattle.std.specs.Prelude.{◌≡◌, [], string_bytes}
use Rattle.std.proofs.Common.{◌∙◌}
use Rattle.std.proofs.lemmas.Bool.{false≢true}
use Rattle.rpki_lines.proofs.PrintedRanges.{on_ok, ranges_some}
use Rattle.rpki_lines.proofs.printing.put_words.Goals as goal

pub returns-clause-put : goal.returns-clause-put
returns-clause-put g c =
    let some : c.args.chain.now ≡ [] → ⊥ = λ none. false≢true (c.if-is_empty.ensures.1 none) in
    on_ok c.put_ranges.result (λ e. e ∙ ranges_some g.E.Ends.text (string_bytes c.args.out.now) c.args.chain.now some)
    c.put_ranges.ensures.put
