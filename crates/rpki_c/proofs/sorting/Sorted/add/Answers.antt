use Rattle.std.proofs.Common.{◌≡◌, ℕ, [], ◌∷◌, ◌++◌, length, ap, ◌∙◌}
use Rattle.rpki_folder.specs.declared.folder.Added.TheVariants.{Certificate}
use Rattle.rpki_c.proofs.SortedMore.{sorted_cert, sorted_list, sorted_neither}
use Rattle.rpki_c.proofs.sorting.Sorted.add.Goals as goal

pub returns-in_ok-push-in-Certificate-2-clause-sorted : goal.returns-in_ok-push-in-Certificate-2-clause-sorted
returns-in_ok-push-in-Certificate-2-clause-sorted c = λ strings old.
    let s = c.args.self.now in
    let is = rw c.in-Certificate.is at c.in_ok-place.ensures.ok in
    let origin : c.len-origin.result ≡ length strings = c.len-origin.ensures ∙ s.added.ok.0 ∙ old.count in
    sorted_cert strings c.args.octets s.folder s.added.items s.origins.items old is.2.0 is.2.1 _ _ _ is.0
    (c.in_ok-push-in-Certificate.ensures.items ∙ ap (λ (n : ℕ). s.added.items ++ Certificate n ∷ []) is.1)
    (c.in_ok-push-in-Certificate-2.ensures.items ∙ ap (λ (n : ℕ). s.origins.items ++ n ∷ []) origin)

pub returns-in_ok-push-in-List-clause-sorted : goal.returns-in_ok-push-in-List-clause-sorted
returns-in_ok-push-in-List-clause-sorted c = λ strings old.
    let s = c.args.self.now in
    let is = rw c.in-List.is at c.in_ok-place.ensures.ok in
    sorted_list strings c.args.octets s.folder _ s.added.items _ s.origins.items old is.0.0
    (record { list_is = is.0.1; no_certificate = is.1 }) is.0.2 c.in_ok-push-in-List.ensures.items

pub returns-in_ok-push-in-Neither-clause-sorted : goal.returns-in_ok-push-in-Neither-clause-sorted
returns-in_ok-push-in-Neither-clause-sorted c = λ strings old.
    let s = c.args.self.now in
    let is = rw c.in-Neither.is at c.in_ok-place.ensures.ok in
    sorted_neither strings c.args.octets s.folder _ s.added.items _ s.origins.items old is.1 is.2 is.0
    c.in_ok-push-in-Neither.ensures.items
