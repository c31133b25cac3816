use Rattle.std.proofs.Common.{◌≡◌, ◌+◌, ◌++◌, List, ℕ, ap, arith, subst, true}
use Rattle.rpki_text.specs.CommandLines.Views.{word_octets}
use Rattle.rpki_command.specs.ListedFolders.{AreOpened, told_count}
use Rattle.rpki_command.specs.Messages.{passed_message}
use Rattle.rpki_command.proofs.WrittenTexts.{appends_both}
use Rattle.rpki_command.proofs.folders.opened.Goals as goal

pub returns : goal.returns
returns g c =
    let lists = g.F.FileSource.lists c.args.files.now in
    let contents = g.E.Write.contents in
    let first = word_octets c.in_ok-first.first.all.items in
    let (in_first, of_first, opened, counted, told) = c.in_ok-first.ensures in
    let (in_further, of_further, down, counted_further, told_further) = c.in_ok-all.ensures in
    let passed = c.in_ok-all.field-0.passed in
    let count : passed ≡ told_count (in_first + in_further) = omega (arith, counted, counted_further) in
    let from_names = subst (λ (given : List (List ℕ)). AreOpened lists (λ _. true) given first in_first of_first)
    c.in_ok-copied.ensures opened in
    let so_far = appends_both (contents c.args.err.now) (contents c.level.new.err) (contents c.opened_down.new.err)
    of_first of_further told told_further in (
      of_first ++ of_further ++ passed_message passed,
      (
        first,
        in_first,
        in_further,
        of_first,
        of_further,
        from_names,
        down,
        ap (λ (n : ℕ). of_first ++ of_further ++ passed_message n) count,
      ),
      appends_both (contents c.args.err.now) (contents c.opened_down.new.err) (contents c.tell_passed.new.err)
          (of_first ++ of_further) (passed_message passed) so_far c.in_ok-tell_passed.ensures.said,
    )
