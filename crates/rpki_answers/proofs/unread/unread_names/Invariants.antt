use Rattle.std.proofs.Common.{◌≡◌, ◌++◌, drop, map}
use Rattle.rpki_answers.specs.UnreadNames.{unread_names}
use Rattle.rpki_answers.proofs.unread.unread_names.Given as goal

-- those so far, and those among the rest
abbrev pub invariant-loop-name : goal.invariant-loop-name
invariant-loop-name l =
    unread_names (map (λ name. name.now) l.names) l.files ≡ map (λ name. name.now) l.unread.items ++
    unread_names (map (λ name. name.now) (drop l.name-index l.names)) (drop l.next l.files)
