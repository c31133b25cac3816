use Rattle.std.specs.Prelude.{Contains}
use Rattle.std.specs.declared.vec.Vec.{Vec}
use Rattle.std.proofs.Common.{◌≡◌, ◌<◌, ◌≤◌, ℕ, List, length, get_or, refl, sym, ◌∙◌, arith, below_more}
use Rattle.std.proofs.lemmas.Bool.{false≢true}
use Rattle.rpki_text.specs.CommandLines.Views.{word_octets}
use Rattle.rpki_text.proofs.WordByWord.{octets_at, octets_length}
use Rattle.rpki_requests.proofs.words.has_word.Goals as goal

module _ {Z : Type 0} (words : List (Vec ℕ Z)) (i : ℕ) (text : List ℕ) where
  -- the text stands there
  stands : (word : Vec ℕ Z) → i < length words → word ≡ get_or words i word → word.items ≡ text →
      Contains (word_octets words) text
  stands word low there same =
      (i, omega (arith, low, octets_length words), octets_at words i word text low there ∙ same)

  -- it stands nowhere
  stands_nowhere : length words ≤ i → ((k : ℕ) → k < i → get_or (word_octets words) k text ≡ text → ⊥) →
      Contains (word_octets words) text → ⊥
  stands_nowhere high none (k, low, same) = none k (omega (arith, low, high, octets_length words)) same

pub returns-then-is : goal.returns-then-is
returns-then-is c = (
  λ so. stands c.args.words.now c.loop-word.word-index c.args.text.now c.word-item.result c.loop-word-test.true
      c.word-item.is (sym c.as_slice.ensures.value ∙ c.is.ensures.0 c.if-is.true),
  λ has. refl,
)

pub loop-word-preserved : goal.loop-word-preserved
loop-word-preserved c =
    let words = c.args.words.now in
    let i = c.loop-word.word-index in
    let text = c.args.text.now in
    below_more _ _ c.loop-word.invariant
    (λ same. false≢true (sym c.if-is.false ∙
    c.is.ensures.1
    (c.as_slice.ensures.value ∙
    sym (octets_at words i c.word-item.result text c.loop-word-test.true c.word-item.is) ∙ same)))

pub returns : goal.returns
returns c = (
  λ so. absurd (false≢true so),
  λ has. absurd (stands_nowhere c.args.words.now c.loop-word.word-index c.args.text.now c.loop-word-test.false
      c.loop-word.invariant has),
)
