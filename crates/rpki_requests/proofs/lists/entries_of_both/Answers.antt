use Rattle.std.specs.Prelude.{IfOk, map}
use Rattle.std.proofs.Common.{◌≡◌, ◌++◌, ℕ, List, rules, subst}
use Rattle.rpki_requests.proofs.RevokedFiles.{entries_seen, made_at}
use Rattle.rpki_requests.proofs.lists.entries_of_both.Goals as goal

pub returns : goal.returns
returns c =
    let serials : c.deref.result.now ≡ c.args.by_files.now ++ c.args.by_numbers.now = search rules in
    entries_seen c.args.at (c.args.by_files.now ++ c.args.by_numbers.now) c.entries_at-all.result
    (subst (λ (l : List ℕ). IfOk c.entries_at-all.result (λ v. v.items ≡ map (made_at c.args.at) l)) serials
    c.entries_at-all.ensures)
