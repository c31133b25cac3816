use Rattle.std.specs.Prelude.{All}
use Rattle.std.proofs.Common.{◌∙◌, ◌+◌, ◌++◌, List, ℕ, Bor, map, take, sym, ap, subst}
use Rattle.std.proofs.lemmas.List.{map-append}
use Rattle.std.proofs.lemmas.List.Elements.{All-append}
use Rattle.rpki_files.specs.Files.{FileFields}
use Rattle.rpki_verdicts.specs.GivenLocators.{LocatorFields, IsRead, locator_files}
use Rattle.rpki_command.specs.NamedFiles.{AreFilesRead}
use Rattle.rpki_command.specs.ReadFiles.{IsFileRead}
use Rattle.rpki_command.specs.UnreadFiles.{SaysUnread}
use Rattle.rpki_command.proofs.NamedFiles.{more_read}
use Rattle.rpki_command.proofs.WrittenTexts.{appends_both}
use Rattle.rpki_command.proofs.reading.read_locators.Goals as goal

pub loop-name-preserved : goal.loop-name-preserved
loop-name-preserved g c =
    let reads = g.F.FileSource.reads c.args.files.now in
    let contents = g.E.Write.contents in
    let most = c.args.most in
    let names = c.args.names.now in
    let i = c.loop-name.name-index in
    let before = c.loop-name.all.items in
    let its = c.in_ok-push_locator.ensures in
    let files = ap locator_files its.4 ∙ map-append (λ (l : LocatorFields). l.file) before its.0 in
    let (said, so_far, appended, are) = c.loop-name.invariant in (
      said ++ its.1,
      subst (λ (l : List FileFields). AreFilesRead reads most (map (λ name. name.now) (take (i + 1) names)) l (said ++ its.1)) (sym files)
          (more_read (IsFileRead reads most) (SaysUnread reads most) (λ (name : Bor (List ℕ)). name.now) names i
          _ c.loop-name-test.true (locator_files before) (locator_files its.0) said its.1 so_far its.2),
      appends_both (contents c.args.err.now) (contents c.loop-name.err) (contents c.push_locator.new.err) said its.1 appended its.5,
      subst (λ (l : List LocatorFields). All (IsRead c.args.strict) l) (sym its.4)
          (All-append (IsRead c.args.strict) before its.0 are its.3),
    )
