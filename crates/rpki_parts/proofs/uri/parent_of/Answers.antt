use Rattle.std.proofs.Common.{◌≡◌, ◌≢◌, ◌==◌, Bool, List, ℕ, [], length, refl, sym, ap, ◌∙◌, subst}
use Rattle.std.proofs.lemmas.Bool.{both_ways}
use Rattle.rpki_parts.specs.Uris.{IsParent, IsRsync}
use Rattle.rpki_parts.specs.Uris.Tests.{path_of, is_empty, through_slash}
use Rattle.rpki_parts.proofs.Slashes.{empty_is}
use Rattle.rpki_parts.proofs.UriTests.{empty_decides}
use Rattle.rpki_parts.proofs.UriParents.{no_path_decides, parent_takes, parent_rsync}
use Rattle.rpki_parts.proofs.uri.parent_of.Goals as goal

-- what `path.is_empty()` answers
path_test : (uri path : List ℕ) (r : Bool) → r ≡ (length path == 0) → path ≡ path_of uri → is_empty (path_of uri) ≡ r
path_test uri path r e p = sym (empty_is (path_of uri)) ∙ (ap (λ (l : List ℕ). length l == 0) (sym p) ∙ sym e)

pub returns-then-is_empty : goal.returns-then-is_empty
returns-then-is_empty c =
    let uri = c.args.uri.now in
    let test = path_test uri c.module_and_path.result.1.now c.is_empty.result c.is_empty.ensures
    c.module_and_path.ensures.path ∙ c.if-is_empty.true in
    record { none = (λ _. (no_path_decides uri c.requires).0 test, λ _. refl); some = tt; valid = tt }

pub returns-else-is_empty : goal.returns-else-is_empty
returns-else-is_empty c =
    let uri = c.args.uri.now in
    let test = path_test uri c.module_and_path.result.1.now c.is_empty.result c.is_empty.ensures
    c.module_and_path.ensures.path ∙ c.if-is_empty.false in
    let filled : path_of uri ≢ [] = λ e. both_ways (is_empty (path_of uri)) test ((empty_decides (path_of uri)).1 e) in
    let found = c.through_slash.ensures ∙ ap through_slash c.trimmed.ensures in
    record {
      none = (λ e. absurd cc, λ h. absurd (both_ways (is_empty (path_of uri)) test ((no_path_decides uri c.requires).1 h)));
      some = subst (IsParent uri) (sym found) (parent_takes uri c.requires filled);
      valid = subst IsRsync (sym found) (parent_rsync uri c.requires filled);
    }
