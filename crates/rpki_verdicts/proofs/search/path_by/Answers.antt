use Rattle.std.specs.Prelude.{All, Any}
use Rattle.std.proofs.Common.{◌≡◌, ◌∷◌, [], ◌++◌, map}
use Rattle.rpki_keys.specs.RsaSignatures.{IsSignedByRsa}
use Rattle.rpki_cert.specs.Verification.{context}
use Rattle.rpki_verdicts.specs.Searches.{DeniesFirst, IsAcceptedIn, IsNamedAmong, IsUnanchored, first_wrong}
use Rattle.rpki_verdicts.specs.ShownPaths.{placed_of}
use Rattle.rpki_verdicts.specs.TreeParts.{wrong_of}
use Rattle.rpki_verdicts.specs.Trees.{asked_of}
use Rattle.rpki_verdicts.proofs.SearchSteps.{named_sought, unanchored_sought, valid_among}
use Rattle.rpki_verdicts.proofs.search.path_by.Goals as goal

pub returns-in-Some : goal.returns-in-Some
returns-in-Some c =
    let q = c.args.question.now in
    let trees = c.args.trees.now in
    let file = c.args.file.now in
    let path = map (λ f. f.now) c.in-Some.path.items in
    let its : Any (λ part. IsAcceptedIn (placed_of trees) file path part.answer) trees.parts.items =
    rw (c.in-Some.is, c.deref.ensures.value) at c.in_ok-path.ensures in
    rw (c.whole.ensures.path, c.whole.ensures.ended)
    (valid_among c.unambiguous.ensures.certificate (context IsSignedByRsa q.at q.strict) (asked_of q) file
    c.requires.first.0 c.requires.first.1 c.requires.certificate trees c.requires.trees path its)

pub returns-in-Some-2 : goal.returns-in-Some-2
returns-in-Some-2 c =
    let q = c.args.question.now in
    let trees = c.args.trees.now in
    let file = c.args.file.now in
    let path = map (λ f. f.now) c.in-Some-2.path.items in
    let denies : All (λ part. DeniesFirst part.answer) trees.parts.items = rw (c.in_default.is, c.deref.ensures.value)
    at c.in_ok-path.ensures in
    let named : IsNamedAmong (placed_of trees) trees.parts.items file path = rw
    (c.in-Some-2.is, c.deref-2.ensures.value) at c.in_ok-path-2.ensures in
    named_sought c.unambiguous.ensures.certificate (context IsSignedByRsa q.at q.strict) (asked_of q) file
    c.requires.first.0 c.requires.first.1 c.requires.certificate trees c.requires.trees path denies named
    c.ended.result c.ended.ensures

pub returns : goal.returns
returns c =
    let q = c.args.question.now in
    let trees = c.args.trees.now in
    let file = c.args.file.now in
    let path = map (λ f. f.now) c.in_ok-path_without_anchor-in-None.field-0.items in
    let none : All (λ part. IsUnanchored part.answer) trees.parts.items = rw (c.in-None.is, c.deref-2.ensures.value)
    at c.in_ok-path-2.ensures in
    let path_is : path ≡ first_wrong (wrong_of trees.parts.items) ++ file ∷ [] =
    rw c.deref-in-None.ensures.value at c.in_ok-path_without_anchor-in-None.ensures in
    rw (c.whole-in-None.ensures.path, c.whole-in-None.ensures.ended)
    (unanchored_sought c.unambiguous.ensures.certificate (context IsSignedByRsa q.at q.strict) (asked_of q) file
    c.requires.first.0 c.requires.first.1 c.requires.certificate trees c.requires.trees path none path_is)
