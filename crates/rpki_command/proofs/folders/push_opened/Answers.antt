use Rattle.std.specs.List.{count_by, filter}
use Rattle.std.specs.List.Sorted.{IsPermutation, IsSorted}
use Rattle.std.specs.Cmp.Lexicographic.{slice_cmp}
use Rattle.std.specs.Ordering.{nat_cmp}
use Rattle.std.proofs.Common.{◌≡◌, ◌≢◌, ◌∷◌, [], List, ℕ, refl, inl, inr, subst, rules}
use Rattle.rpki_text.specs.CommandLines.Views.{word_octets}
use Rattle.rpki_answers.specs.UnreadNames.{closed_name}
use Rattle.rpki_command.specs.ListedFolders.{IsNoFolder, barred, holds, is_passed, is_taken}
use Rattle.rpki_command.specs.UnreadFiles.{IsToldUnlisted}
use Rattle.rpki_command.specs.declared.files.Unread.TheVariants.{Memory}
use Rattle.rpki_command.proofs.WrittenTexts.{appends_none}
use Rattle.rpki_command.proofs.folders.push_opened.Goals as goal

pub returns-in_ok-passed-in-Ok-Some : goal.returns-in_ok-passed-in-Ok-Some
returns-in_ok-passed-in-Ok-Some g c =
    let lists = g.F.FileSource.lists c.args.files.now in
    let given = word_octets c.in-Ok-Some.given.items in
    let sorted = word_octets c.sorted.result.items in
    let lists_are : lists c.args.name.items (holds given) = rw (c.in-Ok-Some.field-0-is, c.as_slice.ensures.value)
    at c.in-Ok-Some.ensures.listed in (
      filter is_taken sorted,
      count_by is_passed sorted,
      [],
      inr (inr (
        given,
        sorted,
        lists_are,
        rw c.in-Ok-Some.field-0-is at c.sorted.ensures.permutation,
        c.sorted.ensures.sorted,
        refl,
        refl,
        refl,
      )),
      c.in_ok-passed-in-Ok-Some.ensures.taken,
      c.in_ok-passed-in-Ok-Some.ensures.passed,
      appends_none (g.E.Write.contents c.args.err.now),
    )

pub returns-in_ok-push-in-Ok-None : goal.returns-in_ok-push-in-Ok-None
returns-in_ok-push-in-Ok-None g c =
    let lists = g.F.FileSource.lists c.args.files.now in
    let none : IsNoFolder lists c.args.name.items = rw (c.in-Ok-None.field-0-is, c.as_slice.ensures.value)
    at c.in-Ok-None.ensures.listed in (
      c.args.name.items ∷ [],
      0,
      [],
      inl (none, refl, refl, refl),
      c.in_ok-push-in-Ok-None.ensures,
      refl,
      appends_none (g.E.Write.contents c.args.err.now),
    )

pub returns-in_ok-push-in-Err : goal.returns-in_ok-push-in-Err
returns-in_ok-push-in-Err g c =
    let lists = g.F.FileSource.lists c.args.files.now in
    let name = c.args.name.items in
    let known : c.in-Err.why ≢ Memory = search rules in
    let shut : lists name barred = rw c.as_slice.ensures.value at (c.in-Err.ensures.unlisted known) in
    let (line, told, appended) = c.in_ok-tell-in-Err.ensures in
    let said : IsToldUnlisted name line = (c.in-Err.why, known, rw c.as_slice-in-Err.ensures.value at told) in (
      closed_name name ∷ [],
      0,
      line,
      inr (inl (shut, said, refl, refl)),
      rw c.in_ok-closed-in-Err.ensures at c.in_ok-push-in-Err.ensures,
      refl,
      appended,
    )
