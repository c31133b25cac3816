use Rattle.std.proofs.Common.{◌≡◌, ◌∙◌, true, false, sym}
use Rattle.rpki_files.specs.LocatorFiles.{looks_like_locator}
use Rattle.rpki_answers.proofs.showing.subjects.other_subject.Goals as goal

pub returns-then-looks_like_locator : goal.returns-then-looks_like_locator
returns-then-looks_like_locator c = λ strict why.
    let looks : looks_like_locator c.args.object.now.octets ≡ true = rw (c.as_slice.ensures ∙ c.octets.ensures)
    at (sym c.looks_like_locator.ensures ∙ c.if-looks_like_locator.true) in
    ((c.requires.none, looks), why)

pub returns : goal.returns
returns c = λ strict why.
    let other : looks_like_locator c.args.object.now.octets ≡ false = rw (c.as_slice.ensures ∙ c.octets.ensures)
    at (sym c.looks_like_locator.ensures ∙ c.if-looks_like_locator.false) in
    ((c.requires.none, why.2), (other, c.in_ok-rejection.ensures))
