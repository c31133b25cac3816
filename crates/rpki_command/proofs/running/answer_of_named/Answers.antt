use Rattle.std.specs.Io.KnownBytes.{Appends}
use Rattle.std.specs.Prelude.{OnOk}
use Rattle.std.proofs.Common.{◌≡◌, ◌∙◌, ℕ, List, ap, refl, subst}
use Rattle.rpki_text.specs.CommandLines.{RequestFields}
use Rattle.rpki_text.specs.CommandLines.Views.{fields_of, word_octets}
use Rattle.rpki_command.specs.ListedFolders.{roots_of}
use Rattle.rpki_command.specs.Runs.{IsRunAnswer, IsAnswerOfNamed}
use Rattle.rpki_command.proofs.EndedRuns.{so_said}
use Rattle.rpki_command.proofs.running.answer_of_named.Goals as goal

pub returns-clause-answer : goal.returns-clause-answer
returns-clause-answer g c =
    let reads = g.F.FileSource.reads c.args.files.now in
    let lists = g.F.FileSource.lists c.args.files.now in
    let contents = g.E.Write.contents in
    let r = fields_of c.args.request in
    let names = word_octets c.in_ok-names.names.items in
    let whole = fields_of c.in_ok-request.request in
    let of_folders = c.in_ok-names.ensures in
    let roots : word_octets c.in_ok-roots.roots.items ≡ roots_of r.files = rw c.deref.ensures.value at c.in_ok-roots.ensures in
    let below = word_octets c.deref-3.result.now in
    let same : whole ≡ record r { files = names; folders = roots_of r.files } = c.in_ok-request.ensures
    ∙ ap (λ (q : RequestFields). record q { folders = below }) c.in_ok-with_files.ensures
    ∙ ap (λ (l : List _). record r { files = word_octets l; folders = below }) c.deref-2.ensures.value
    ∙ ap (λ (f : List (List ℕ)). record r { files = names; folders = f }) (ap word_octets c.deref-3.ensures.value ∙ roots) in
    so_said (λ e text said. IsRunAnswer reads whole c.args.now e.outcome text said)
    (λ e text said. IsAnswerOfNamed reads lists r c.args.now e.outcome text said)
    (λ e text. OnOk e.written (Appends (g.O.Write.contents c.args.out.now) (g.O.Write.contents c.answer.new.out) text))
    (contents c.args.err.now) (contents c.file_names.new.err) (contents c.answer.new.err) of_folders.0 c.answer.result of_folders.2
    (λ e text said h. record {
      names = names;
      of_folders = of_folders.0;
      of_files = said;
      names_are = of_folders.1;
      answer = subst (λ (q : RequestFields). IsRunAnswer reads q c.args.now e.outcome text said) same h;
      said_is = refl;
    })
    c.answer.ensures.answer
