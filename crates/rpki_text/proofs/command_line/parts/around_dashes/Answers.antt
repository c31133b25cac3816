use Rattle.std.proofs.Common.{◌≡◌, ◌<◌, ◌≤◌, [], true, false, length, get_or, ap, sym, ◌∙◌, arith, below_more}
use Rattle.rpki_text.specs.WordParts.{is_dashes}
use Rattle.rpki_text.specs.CommandLines.Views.{word_octets}
use Rattle.rpki_text.proofs.AroundDashes.{dashes_by, before_place, behind_place, before_none, behind_none}
use Rattle.rpki_text.proofs.WordByWord.{octets_at}
use Rattle.rpki_text.proofs.command_line.parts.around_dashes.Goals as goal

pub returns-then-is-clause-before : goal.returns-then-is-clause-before
returns-then-is-clause-before c =
    let words = c.args.words.now in
    let i = c.loop-place.place in
    let low : i < length words = omega arith in
    let here : is_dashes (get_or (word_octets words) i []) ≡ true =
    ap is_dashes (octets_at words i c.index-words-place.result [] low c.index-words-place.is ∙
    sym c.as_slice.ensures.value) ∙ dashes_by c.as_slice.result.now c.is.result c.is.ensures ∙ c.if-is.true in
    before_place words i c.loop-place.invariant low here

pub returns-then-is-clause-behind : goal.returns-then-is-clause-behind
returns-then-is-clause-behind c =
    let words = c.args.words.now in
    let i = c.loop-place.place in
    let low : i < length words = omega arith in
    let here : is_dashes (get_or (word_octets words) i []) ≡ true =
    ap is_dashes (octets_at words i c.index-words-place.result [] low c.index-words-place.is ∙
    sym c.as_slice.ensures.value) ∙ dashes_by c.as_slice.result.now c.is.result c.is.ensures ∙ c.if-is.true in
    behind_place words i c.loop-place.invariant low here

pub loop-place-preserved : goal.loop-place-preserved
loop-place-preserved c =
    let words = c.args.words.now in
    let i = c.loop-place.place in
    let low : i < length words = omega arith in
    let here : is_dashes (get_or (word_octets words) i []) ≡ false =
    ap is_dashes (octets_at words i c.index-words-place.result [] low c.index-words-place.is ∙
    sym c.as_slice.ensures.value) ∙ dashes_by c.as_slice.result.now c.is.result c.is.ensures ∙ c.if-is.false in
    below_more _ _ c.loop-place.invariant here

pub returns-clause-before : goal.returns-clause-before
returns-clause-before c =
    let high : length c.args.words.now ≤ c.loop-place.place = omega arith in
    before_none c.args.words.now c.loop-place.place c.loop-place.invariant high

pub returns-clause-behind : goal.returns-clause-behind
returns-clause-behind c =
    let high : length c.args.words.now ≤ c.loop-place.place = omega arith in
    behind_none c.args.words.now c.loop-place.place c.loop-place.invariant high
