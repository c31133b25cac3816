use Rattle.std.proofs.Common.{rules, ◌≡◌, [], ℕ, List, sym, subst, ◌∙◌}
use Rattle.rpki_c.specs.PathKeys.{AreKeysOf}
use Rattle.rpki_c.proofs.KeysGathered.{no_keys}
use Rattle.rpki_c.proofs.keys.keys_among.Goals as goal

pub returns : goal.returns
returns c =
    let empty : c.new-keys.result.items ≡ [] = search rules in
    let none = subst (λ (ks : List (List ℕ)). AreKeysOf [] ks) (sym empty) no_keys in
    subst (λ (ss : List (List ℕ)). AreKeysOf ss c.add_all-added.new.keys.items)
    (c.deref.ensures.value ∙ c.in_ok-members.ensures) (c.in_ok-added.ensures [] none)
