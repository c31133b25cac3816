use Rattle.std.specs.Prelude.{MatchOption, Option, None, Some, slice_get}
use Rattle.std.proofs.Common.{◌≡◌, length, refl, sym, subst}
use Rattle.std.proofs.lemmas.Option.{slice_get_read}
use Rattle.std.proofs.lemmas.Result.{IfOk-weaker}
use Rattle.rpki_files.specs.Files.{FileFields}
use Rattle.rpki_verdicts.specs.ShownPaths.{IsNamedIn, placed, placed_of}
use Rattle.rpki_verdicts.proofs.FilesAt.{mapped_at}
use Rattle.rpki_verdicts.proofs.parts.Trees.named_by.Goals as goal

pub returns : goal.returns
returns c =
    let certs = placed_of c.args.self.now in
    let root = c.args.self.now.root.now in
    let items = c.deref.result.now in
    let file = c.in-Some.file.now in
    let found = c.in-Some.ensures.lookup in
    let here = mapped_at (λ f. placed root f.now) items c.args.place file
    (slice_get_read items (length items) c.args.place file refl found.3.0 found.1) in
    let there : slice_get certs c.args.place ≡ Some (placed root file.now) = rw c.deref.ensures.value at here in
    IfOk-weaker c.named_in.result
    _ _ (λ named is.
    subst (λ (o : Option FileFields). MatchOption o (named ≡ None) (λ f. IsNamedIn certs f.octets named)) (sym there)
    is) (c.named_in.ensures certs c.requires.by_uri)
