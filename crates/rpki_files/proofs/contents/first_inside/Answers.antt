use Rattle.std.specs.Prelude.{slice_get}
use Rattle.std.proofs.Common.{rules, ◌≡◌, ◌∷◌, ℕ, List, Some, None, ap, ◌∙◌}
use Rattle.rpki_der.specs.Encoding.{Means}
use Rattle.rpki_der.specs.Place.{remaining}
use Rattle.rpki_der.specs.Tags.{SEQUENCE}
use Rattle.rpki_der.specs.Values.{IsEnc}
use Rattle.rpki_files.proofs.FirstInside.{first_found}
use Rattle.rpki_files.proofs.contents.first_inside.Goals as goal

pub returns-in_err-inside-clause-found : goal.returns-in_err-inside-clause-found
returns-in_err-inside-clause-found c = λ first h.
    let none : c.inside.result ≡ None = search rules in
    absurd (rw none at (c.inside.ensures.found h.outer (rw c.new.ensures.all h.begins)))

pub returns-in_err-data-clause-found : goal.returns-in_err-data-clause-found
returns-in_err-data-clause-found c = λ first h.
    let some : c.inside.result ≡ Some c.in_ok-inside.field-0 = search rules in
    let outer : remaining c.in_ok-inside.field-0 ≡ h.outer = rw some at (c.inside.ensures.found h.outer (rw c.new.ensures.all h.begins)) in
    let none : c.inside-2.result ≡ None = search rules in
    absurd (rw none at (c.inside-2.ensures.found h.inner (rw outer h.inside)))

pub returns-clause-found : goal.returns-clause-found
returns-clause-found c = λ first h.
    let some : c.inside.result ≡ Some c.in_ok-inside.field-0 = search rules in
    let outer : remaining c.in_ok-inside.field-0 ≡ h.outer = rw some at (c.inside.ensures.found h.outer (rw c.new.ensures.all h.begins)) in
    let some_data : c.inside-2.result ≡ Some c.in_ok-data.data = search rules in
    let inner : remaining c.in_ok-data.data ≡ h.inner = rw some_data at (c.inside-2.ensures.found h.inner (rw outer h.inside)) in
    let octets : c.rest.result.now ≡ first ∷ h.rest = c.rest.ensures.remaining ∙ inner ∙ h.first_is in
    c.copied.ensures ∙ c.first.ensures.value ∙ ap (λ (l : List ℕ). slice_get l 0) octets

pub returns-clause-means : goal.returns-clause-means
returns-clause-means c =
    let octets = c.args.octets.now in
    let outer = remaining c.in_ok-inside.field-0 in
    let inner = remaining c.in_ok-data.data in
    let some : c.inside.result ≡ Some c.in_ok-inside.field-0 = search rules in
    let some_data : c.inside-2.result ≡ Some c.in_ok-data.data = search rules in
    let begins : Means (IsEnc SEQUENCE) outer octets = rw c.new.ensures.all at (rw some at c.inside.ensures.means) in
    let within : Means (IsEnc SEQUENCE) inner outer = rw some_data at c.inside-2.ensures.means in
    rw (c.copied.ensures ∙ c.first.ensures.value ∙ ap (λ (l : List ℕ). slice_get l 0) c.rest.ensures.remaining)
    (first_found octets outer inner begins within)
