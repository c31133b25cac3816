use Rattle.std.proofs.Common.{◌≡◌, ◌<◌, ℕ, slice_index_or}
use Rattle.rpki_text.specs.CommandLines.Views.{word_octets}
use Rattle.rpki_requests.proofs.words.has_word.Given as goal

-- none of those so far is the text
abbrev pub invariant-loop-word : goal.invariant-loop-word
invariant-loop-word l = (k : ℕ) → k < l.word-index → slice_index_or (word_octets l.words) k l.text ≡ l.text → ⊥
