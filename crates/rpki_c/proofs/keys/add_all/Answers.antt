use Rattle.std.proofs.Common.{◌≡◌, ◌++◌, [], ℕ, List, get_or, take, sym, subst, ◌∙◌}
use Rattle.std.proofs.lemmas.List.{append-nil, get_or_default}
use Rattle.rpki_crl.proofs.Loops.{taken_all}
use Rattle.rpki_c.specs.PathKeys.{AreKeysOf}
use Rattle.rpki_c.proofs.KeysGathered.{next_strings}
use Rattle.rpki_c.proofs.keys.add_all.Goals as goal

pub loop-member-init : goal.loop-member-init
loop-member-init c = λ strings are. subst (λ (ss : List (List ℕ)). AreKeysOf ss c.args.keys.now.items)
    (sym (append-nil strings)) are

pub loop-member-preserved : goal.loop-member-preserved
loop-member-preserved c = λ strings are.
    let l = c.loop-member in
    let members = c.args.members.now in
    let item : c.octets.result.now ≡ get_or members l.member-index [] = c.octets.ensures ∙ c.member-item.is ∙
    get_or_default members l.member-index c.member-item.result [] c.loop-member-test.true in
    subst (λ (ss : List (List ℕ)). AreKeysOf ss c.add_keys.new.keys.items)
    (next_strings strings members l.member-index c.octets.result.now c.loop-member-test.true item)
    (c.in_ok-add_keys.ensures (strings ++ take l.member-index members) (l.invariant strings are))

pub returns : goal.returns
returns c = λ strings are.
    let l = c.loop-member in
    let members = c.args.members.now in
    subst (λ (ms : List (List ℕ)). AreKeysOf (strings ++ ms) l.keys.items)
    (taken_all members l.member-index c.loop-member-test.false) (l.invariant strings are)
