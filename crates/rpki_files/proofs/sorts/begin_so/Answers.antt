use Rattle.std.specs.Prelude.{Some}
use Rattle.std.proofs.Common.{◌≡◌, List, ap, drop, sym, subst, ◌∙◌}
use Rattle.std.proofs.lemmas.Bool.{false≢true}
use Rattle.std.proofs.lemmas.List.{at_drop_all}
use Rattle.rpki_der.specs.Place.{remaining}
use Rattle.rpki_der.specs.Values.{AreOctets}
use Rattle.rpki_files.specs.FileSorts.Reading.{all_turned}
use Rattle.rpki_files.specs.declared.sorts.Turn.{Turn}
use Rattle.rpki_files.proofs.Turns.{turns_taken, turn_more, turn_stops}
use Rattle.rpki_files.proofs.sorts.begin_so.Goals as goal

pub loop-turn-init : goal.loop-turn-init
loop-turn-init c = ap (all_turned c.args.turns.now) c.new-at.ensures.all

pub loop-turn-preserved : goal.loop-turn-preserved
loop-turn-preserved c =
    let l = c.loop-turn in
    turn_more c.args.turns.now c.args.octets.now (remaining l.at) l.turn-index _ c.loop-turn-test.true l.invariant
    (remaining c.in-Some.next) c.in-Some.ensures

pub returns-in-None : goal.returns-in-None
returns-in-None c =
    let l = c.loop-turn in
    let stops = turn_stops c.args.turns.now c.args.octets.now (remaining l.at) l.turn-index _ c.loop-turn-test.true
    l.invariant c.in-None.ensures in
    ((λ yes. absurd (false≢true yes)), (λ stand. absurd (stops stand)))

pub returns : goal.returns
returns c =
    let l = c.loop-turn in
    let turns = c.args.turns.now in
    let octets = c.args.octets.now in
    let rest = remaining l.at in
    let fits : AreOctets octets = subst AreOctets (c.rest-octets.ensures.remaining ∙ c.new.ensures.all) c.rest-octets.ensures.octets in
    let done : all_turned (drop l.turn-index turns) rest ≡ Some rest =
    at_drop_all (λ (ts : List Turn). all_turned ts rest) turns l.turn-index c.loop-turn-test.false in
    turns_taken turns octets rest fits (sym done ∙ l.invariant)
