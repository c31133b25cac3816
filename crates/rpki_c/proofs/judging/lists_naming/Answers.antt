use Rattle.std.specs.Prelude.{Contains}
use Rattle.std.proofs.lemmas.Result.{IfErr-weaker, IfOk-weaker}
use Rattle.rpki_c.specs.Verdicts.{IsKeyOf}
use Rattle.rpki_c.proofs.CallersLists.{naming_so, unread_so}
use Rattle.rpki_c.proofs.judging.lists_naming.Goals as goal

pub returns-clause-lists : goal.returns-clause-lists
returns-clause-lists c =
    IfOk-weaker c.lists_of-lists.result
    _ _ (λ lists naming. naming_so (Contains c.in_ok-keys.keys.items) (IsKeyOf c.args.strings.now)
    c.in_ok-keys.ensures c.args.octets.now lists.items naming)
    (rw c.deref.ensures.value at c.lists_of-lists.ensures.lists)

pub returns-clause-unread : goal.returns-clause-unread
returns-clause-unread c =
    IfErr-weaker c.lists_of-lists.result
    _ _ (λ refusal unread. unread_so (Contains c.in_ok-keys.keys.items) (IsKeyOf c.args.strings.now)
    c.in_ok-keys.ensures c.args.octets.now refusal unread)
    (rw c.deref.ensures.value at c.lists_of-lists.ensures.unread)
