use Rattle.std.proofs.Common.{◌≡◌, ◌+◌, ◌++◌, [], ℕ, arith, rules, subst}
use Rattle.rpki_text.specs.CommandLines.Views.{word_octets}
use Rattle.rpki_command.specs.ListedFolders.{AreDown}
use Rattle.rpki_command.proofs.ListedNames.{down_none, down_more}
use Rattle.rpki_command.proofs.WrittenTexts.{appends_both, appends_none}
use Rattle.rpki_command.proofs.folders.opened_down.Goals as goal

pub loop-level-init : goal.loop-level-init
loop-level-init g c = (
  0,
  [],
  down_none (g.F.FileSource.lists c.args.files.now) (word_octets c.args.names.all.items),
  omega arith,
  appends_none (g.E.Write.contents c.args.err.now),
)

pub loop-level-preserved : goal.loop-level-preserved
loop-level-preserved g c =
    let contents = g.E.Write.contents in
    let (passed, said, down, count, appended) = c.loop-level.invariant in
    let (further, line, opened, counted, told) = c.in_ok-opened.ensures in (
      passed + further,
      said ++ line,
      down_more (g.F.FileSource.lists c.args.files.now) c.loop-level._level (word_octets c.args.names.all.items)
          (word_octets c.loop-level.opened.all.items) (word_octets c.in_ok-opened.opened.all.items) passed further said line down opened,
      omega (arith, count, counted),
      appends_both (contents c.args.err.now) (contents c.loop-level.err) (contents c.level.new.err) said line appended told,
    )

pub returns : goal.returns
returns g c =
    let all : c.loop-level._level ≡ 32 = search rules in
    let lists = g.F.FileSource.lists c.args.files.now in
    let (passed, said, down, count, appended) = c.loop-level.invariant in (
      passed,
      said,
      subst (λ (n : ℕ). AreDown lists n (word_octets c.args.names.all.items)
          (word_octets c.loop-level.opened.all.items) passed said) all down,
      count,
      appended,
    )
