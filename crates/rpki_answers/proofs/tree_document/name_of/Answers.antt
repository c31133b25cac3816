use Rattle.std.specs.Option.{option_map}
use Rattle.std.specs.Prelude.{Option, unwrap_or}
use Rattle.std.proofs.Common.{◌∙◌, [], length, refl, sym, ap}
use Rattle.std.proofs.lemmas.Option.{slice_get-map, slice_get_past, slice_get_read}
use Rattle.rpki_files.specs.Files.{FileFields}
use Rattle.rpki_answers.proofs.tree_document.name_of.Goals as goal

pub returns-in-Some : goal.returns-in-Some
returns-in-Some c =
    let certs = c.args.certs.now in
    let found = c.in-Some.ensures.lookup in
    let here = slice_get_read certs (length certs) c.args.place c.in-Some.file.now refl found.3.0 found.1 in
    let there = slice_get-map (λ f. f.now) certs c.args.place ∙ ap (option_map (λ f. f.now)) here in
    c.name.ensures ∙ sym (ap (λ (o : Option FileFields). unwrap_or (option_map (λ file. file.name) o) []) there)

pub returns-in-None : goal.returns-in-None
returns-in-None c =
    let certs = c.args.certs.now in
    let none = slice_get-map (λ f. f.now) certs c.args.place ∙
    ap (option_map (λ f. f.now)) (slice_get_past certs c.args.place c.in-None.ensures.lookup.3) in
    sym (ap (λ (o : Option FileFields). unwrap_or (option_map (λ file. file.name) o) []) none)
