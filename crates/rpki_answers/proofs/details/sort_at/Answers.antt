use Rattle.std.specs.Prelude.{Some, None}
use Rattle.std.proofs.Common.{◌≡◌, ◌∙◌, length, refl, sym}
use Rattle.std.proofs.lemmas.Option.{slice_get_past, slice_get_read}
use Rattle.rpki_answers.proofs.ShownFiles.{sort_there}
use Rattle.rpki_answers.proofs.details.sort_at.Goals as goal

pub returns-in-Some : goal.returns-in-Some
returns-in-Some c =
    let files = c.args.files.now in
    let read = c.in-Some.file.now in
    let found = c.in-Some.ensures.lookup in
    let here = slice_get_read files (length files) c.args.place read refl found.3.0 found.1 in
    sort_there files c.args.place read c.sort.result here c.sort.ensures

pub returns-in-None : goal.returns-in-None
returns-in-None c = λ file there.
    let none = slice_get_past c.args.files.now c.args.place c.in-None.ensures.lookup.3 in
    let is : None ≡ Some file = sym none ∙ there in
    absurd cc
