use Rattle.std.specs.Prelude.{option_map, slice_get}
use Rattle.std.proofs.Common.{◌≡◌, ◌∙◌, Some, refl, sym, ap, subst}
use Rattle.std.proofs.lemmas.Bool.{false≢true}
use Rattle.std.proofs.lemmas.Option.{slice_get-map, slice_get_read}
use Rattle.rpki_files.specs.Files.{FileFields}
use Rattle.rpki_verdicts.specs.Searches.{HasKeyNamed}
use Rattle.rpki_verdicts.specs.Trees.{certs_of}
use Rattle.rpki_verdicts.proofs.search.has_key_at.Goals as goal

pub returns-else-not-accepted : goal.returns-else-not-accepted
returns-else-not-accepted c =
    let certs = c.args.tree.now.certs.items in
    let place = c.args.place in
    let there = slice_get-map (λ f. f.now) certs place ∙
    ap (option_map (λ f. f.now)) (slice_get_read certs _ place c.index.result.now refl c.requires c.index.ensures) in (
      λ it. ((c.index.result.now.now, there, c.has_key.ensures.0 c.if-has_key.true), λ asks. c.is_accepted_at.ensures.0 it),
      λ has. c.is_accepted_at.ensures.1 (has.1 c.if-not-accepted.false),
    )

pub returns-else-has_key : goal.returns-else-has_key
returns-else-has_key c =
    let certs = c.args.tree.now.certs.items in
    let place = c.args.place in
    let file = c.index.result.now.now in
    let there : slice_get (certs_of c.args.tree.now) place ≡ Some file = slice_get-map (λ f. f.now) certs place ∙
    ap (option_map (λ f. f.now)) (slice_get_read certs _ place c.index.result.now refl c.requires c.index.ensures) in (
      λ it. absurd (false≢true (sym c.if-has_key.false ∙ it)),
      λ has.
          let at = has.0.1 in
          let same : has.0.0 ≡ file = cc in
          c.has_key.ensures.1 (subst (λ (f : FileFields). HasKeyNamed c.args.key.now f) same has.0.2),
    )
