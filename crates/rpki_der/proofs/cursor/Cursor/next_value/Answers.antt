use Rattle.std.proofs.Common.{◌≡◌, Some, subst, arith}
use Rattle.rpki_der.specs.Place.{Place, remaining}
use Rattle.rpki_der.specs.Values.Reading.{value_at}
use Rattle.rpki_der.proofs.Places.{placed}
use Rattle.rpki_der.proofs.cursor.Cursor.next_value.Goals as goal

pub returns-clause-reads : goal.returns-clause-reads
returns-clause-reads c =
    let p : Place = record { source = c.self.inside.source.now; from = c.self.inside.from; to = c.self.inside.to } in
    let here : c.args.self.now ≡ p = cc in
    let content = c.in_ok-content.content.now in
    let after = c.in_ok-content.after.now in
    let read : value_at c.args.tag (remaining c.args.self.now) ≡ Some (content, after) =
    rw (← c.rest-rest.ensures.remaining) (c.in_ok-content.ensures.reads) in
    let at = placed c.args.tag p content after (omega arith) (omega arith)
    (subst (λ (q : Place). value_at c.args.tag (remaining q) ≡ Some (content, after)) here read) in
    rw (at.content, at.after) read
