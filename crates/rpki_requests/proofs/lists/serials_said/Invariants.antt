use Rattle.std.proofs.Common.{ℕ, List, take, map}
use Rattle.std.specs.List.{AllZip}
use Rattle.rpki_issuing.specs.OnlyValues.{IsOnly}
use Rattle.rpki_issuing.specs.ValueTexts.{IsSerialText}
use Rattle.rpki_requests.proofs.lists.serials_said.Given as goal

-- of the texts so far these are the only ones
abbrev pub invariant-loop-text : goal.invariant-loop-text
invariant-loop-text l =
    IsOnly (λ (vs : List ℕ). AllZip IsSerialText vs (map (λ t. t.now) (take l.text-index l.texts)))
    l.serials.items
