use Rattle.std.specs.Prelude.{◌≡◌, [], ◌∷◌, codes, string_bytes}
use Rattle.std.proofs.Common.{rules}
use Rattle.rpki_lines.specs.Program.{output_of}
use Rattle.rpki_lines.proofs.report.no_list.Goals as goal

pub returns-clause-text : goal.returns-clause-text
returns-clause-text c =
    let name = c.in_ok-name.name.now in
    let printed_is : string_bytes c.in_ok-text.text ≡ output_of (codes "refused decode " ∷ name ∷ []) = search rules in
    (name, c.in_ok-name.ensures.named, printed_is)
