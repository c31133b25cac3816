use Rattle.std.proofs.Common.{◌≡◌, ◌+◌, ◌≤◌, length, drop, ap, sym, ◌∙◌, arith}
use Rattle.std.proofs.lemmas.List.Edits.{length-between}
use Rattle.bytes.proofs.Ranges.{drop-slice_range}
use Rattle.rpki_der.specs.Place.{Place, remaining}
use Rattle.rpki_der.proofs.cursor.Cursor.advance.Goals as goal

pub returns-clause-remaining : goal.returns-clause-remaining
returns-clause-remaining c =
    let p : Place = record { source = c.self.inside.source.now; from = c.self.inside.from; to = c.self.inside.to } in
    let here : remaining p ≡ remaining c.args.self.now = ap remaining c.self.view_is in
    let fits : p.from + c.args.count ≤ p.to = omega (arith, c.requires, ap length here, length-between p.source p.from p.to) in
    sym (drop-slice_range p.source p.from p.to c.args.count fits) ∙ ap (drop c.args.count) here
