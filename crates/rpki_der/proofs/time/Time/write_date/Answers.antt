use Rattle.std.proofs.Common.{refl}
use Rattle.std.proofs.Output.{has_written_append}
use Rattle.rpki_der.proofs.time.Time.write_date.Goals as goal

pub returns : goal.returns
returns g c = λ plain ok.
    let took = g.W.Write.write_str_gives in
    let one = c.in_ok-write_year.ensures plain refl in
    let two = c.in_ok-write_behind.ensures one.plain refl in
    let three = c.write_behind-2.ensures two.plain ok in
    let front = has_written_append took _ _ _ _ _ one two in
    rw (← c.year.ensures.year, ← c.self.view_is) (has_written_append took _ _ _ _ _ front three)
