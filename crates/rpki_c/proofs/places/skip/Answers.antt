use Rattle.rpki_c.proofs.PlacesFound.{none_left, none_next, one_less, stays, twice}
use Rattle.rpki_c.proofs.places.skip.Goals as goal

pub loop-tag-init : goal.loop-tag-init
loop-tag-init c = record { left = λ rest stand. stand; moves = stays c.args.cursor.now }

pub loop-tag-preserved : goal.loop-tag-preserved
loop-tag-preserved c =
    let l = c.loop-tag in
    let read = c.in_ok-take_value.ensures.answers in
    record {
      left = one_less c.args.tags.now l.tag-index _ c.args.cursor.now l.cursor c.loop-tag-test.true l.invariant.left
          c.take_value.new.self _ read.encoded;
      moves = twice c.args.cursor.now l.cursor c.take_value.new.self l.invariant.moves read.keeps;
    }

pub returns-clause-behind : goal.returns-clause-behind
returns-clause-behind c =
    let l = c.loop-tag in
    none_left c.args.tags.now l.tag-index c.args.cursor.now l.cursor c.loop-tag-test.false l.invariant.left

pub returns-in_err-take_value-clause-there : goal.returns-in_err-take_value-clause-there
returns-in_err-take_value-clause-there c = λ rest stand.
    let l = c.loop-tag in
    absurd (none_next c.args.tags.now l.tag-index _ c.args.cursor.now l.cursor c.loop-tag-test.true l.invariant.left
    c.in_err-take_value.ensures.answers.encoded.1 rest stand)
