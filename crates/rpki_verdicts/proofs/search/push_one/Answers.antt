use Rattle.std.specs.List.{cons_option}
use Rattle.std.specs.Option.{option_map}
use Rattle.std.specs.Prelude.{Option, Some, slice_get}
use Rattle.std.proofs.Common.{◌≡◌, ◌++◌, ◌∷◌, [], length, map, refl, sym, ap, ◌∙◌}
use Rattle.std.proofs.lemmas.List.{append-nil, map-append}
use Rattle.std.proofs.lemmas.Option.{slice_get-map, slice_get_past, slice_get_read}
use Rattle.rpki_verdicts.proofs.FilesAt.{mapped_at}
use Rattle.rpki_verdicts.proofs.search.push_one.Goals as goal

pub returns-in_ok-push-in-Some : goal.returns-in_ok-push-in-Some
returns-in_ok-push-in-Some c =
    let certs = c.args.certs.now in
    let file = c.in-Some.file.now in
    let old = map (λ f. f.now) c.args.path.now.items in
    let found = c.in-Some.ensures.lookup in
    let there : slice_get certs c.args.place ≡ Some file = slice_get_read certs (length certs) c.args.place file refl found.3.0 found.1 in
    ap (λ (l : _). map (λ f. f.now) l) c.in_ok-push-in-Some.ensures.items
    ∙ map-append (λ f. f.now) c.args.path.now.items (file ∷ [])
    ∙ ap (λ (o : Option _). old ++ cons_option o []) (sym (mapped_at (λ f. f.now) certs c.args.place file there))

pub returns-in-None : goal.returns-in-None
returns-in-None c =
    let certs = c.args.certs.now in
    let old = map (λ f. f.now) c.args.path.now.items in
    let there = slice_get_past certs c.args.place c.in-None.ensures.lookup.3 in
    sym (ap (λ (o : Option _). old ++ cons_option o [])
    (slice_get-map (λ f. f.now) certs c.args.place ∙ ap (option_map (λ f. f.now)) there) ∙ append-nil old)
