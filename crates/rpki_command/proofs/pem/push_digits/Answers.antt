use Rattle.std.proofs.Common.{◌≡◌, ◌++◌, ◌∷◌, ℕ, List, [], length}
use Rattle.std.proofs.lemmas.List.{take-append-drop}
use Rattle.std.proofs.lemmas.List.Elements.{All-push}
use Rattle.rpki_command.specs.PemTexts.{ended}
use Rattle.rpki_command.proofs.PemLines.{more_digits, more_text}
use Rattle.rpki_command.proofs.pem.push_digits.Goals as goal

pub loop-rest-preserved : goal.loop-rest-preserved
loop-rest-preserved c =
    let (lines, whole, digits, text) = c.loop-rest.invariant in
    let rest = c.loop-rest.rest.now in
    let line = c.split_at.result.0.now in
    let behind = c.split_at.result.1.now in
    let both = take-append-drop 64 rest in
    let parts : rest ≡ line ++ behind = cc (both, c.split_at.ensures.front, c.split_at.ensures.back) in (
      lines ++ line ∷ [],
      All-push (λ (l : List ℕ). length l ≡ 64) lines line whole c.split_at.ensures.front_len,
      more_digits c.args.digits.now rest line behind lines digits parts,
      more_text ended c.args.text.now.items c.loop-rest.text.items c.push_line.new.text.items line lines text c.in_ok-push_line.ensures,
    )
