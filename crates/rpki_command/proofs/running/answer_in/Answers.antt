use Rattle.std.specs.Io.KnownBytes.{Appends}
use Rattle.std.specs.Prelude.{OnOk}
use Rattle.std.proofs.Common.{◌≡◌, ◌∙◌, ◌++◌, ℕ, List, ap, refl, subst}
use Rattle.rpki_text.specs.CommandLines.{RequestFields, with_files}
use Rattle.rpki_text.specs.CommandLines.Views.{fields_of, word_octets}
use Rattle.rpki_text.specs.declared.command_line.arguments.Task.TheVariants.{Tree}
use Rattle.rpki_command.specs.ListedFolders.{AreFilesOf, roots_of}
use Rattle.rpki_command.specs.Runs.{IsAnswerBy, IsAnswerIn, with_files_below}
use Rattle.rpki_command.specs.SoughtPaths.{IsPathSearch}
use Rattle.rpki_command.proofs.EndedRuns.{so_said}
use Rattle.rpki_command.proofs.WrittenTexts.{appends_both}
use Rattle.rpki_command.proofs.running.answer_in.Goals as goal

pub returns-clause-answer : goal.returns-clause-answer
returns-clause-answer g c =
    let reads = g.F.FileSource.reads c.args.files.now in
    let lists = g.F.FileSource.lists c.args.files.now in
    let contents = g.E.Write.contents in
    let r = fields_of c.args.request in
    let names = word_octets c.in_ok-names.names.items in
    let whole = fields_of c.in_ok-request.request in
    let sought = c.in_ok-sought.sought in
    let (of_folders, opened, first) = c.in_ok-names.ensures in
    let (of_search, search, second) = c.in_ok-sought.ensures in
    let among : AreFilesOf lists Tree r.folders names of_folders = rw c.deref.ensures.value at opened in
    let roots : word_octets c.in_ok-roots.roots.items ≡ roots_of r.folders = rw c.deref-2.ensures.value at c.in_ok-roots.ensures in
    let below = word_octets c.deref-4.result.now in
    let same : whole ≡ with_files_below r names = c.in_ok-request.ensures
    ∙ ap (λ (q : RequestFields). record q { folders = below }) c.in_ok-with_further.ensures
    ∙ ap (λ (l : List _). record (with_files r (word_octets l)) { folders = below }) c.deref-3.ensures.value
    ∙ ap (λ (f : List (List ℕ)). record (with_files r names) { folders = f }) (ap word_octets c.deref-4.ensures.value ∙ roots) in
    let both = appends_both (contents c.args.err.now) (contents c.opened.new.err) (contents c.names_sought.new.err)
    of_folders of_search first second in
    so_said (λ e text said. IsAnswerBy reads whole c.args.now sought e.outcome text said)
    (λ e text said. IsAnswerIn reads lists r c.args.now e.outcome text said)
    (λ e text. OnOk e.written (Appends (g.O.Write.contents c.args.out.now) (g.O.Write.contents c.answer_by.new.out) text))
    (contents c.args.err.now) (contents c.names_sought.new.err) (contents c.answer_by.new.err)
    (of_folders ++ of_search) c.answer_by.result both
    (λ e text said h. record {
      names = names;
      of_folders = of_folders;
      names_are = among;
      sought = sought;
      of_search = of_search;
      search = subst (λ (q : RequestFields). IsPathSearch reads q c.args.now sought of_search) same search;
      of_files = said;
      answer = subst (λ (q : RequestFields). IsAnswerBy reads q c.args.now sought e.outcome text said) same h;
      said_is = refl;
    })
    c.answer_by.ensures.answer
