use Rattle.std.proofs.Common.{◌≡◌, ◌<◌, ℕ, [], false, get_or}
use Rattle.rpki_text.specs.WordParts.{is_dashes}
use Rattle.rpki_text.specs.CommandLines.Views.{word_octets}
use Rattle.rpki_text.proofs.command_line.parts.around_dashes.Given as goal

-- no word so far is `--`
abbrev pub invariant-loop-place : goal.invariant-loop-place
invariant-loop-place l = (k : ℕ) → k < l.place → is_dashes (get_or (word_octets l.words) k []) ≡ false
