use Rattle.std.proofs.Common.{rules, ◌≡◌, Some, refl, sym, ◌∙◌}
use Rattle.std.proofs.lemmas.Bool.{false≢true}
use Rattle.rpki_files.proofs.FirstInside.{list_first, certificate_first}
use Rattle.rpki_files.proofs.contents.looks_like.Goals as goal

pub returns-then-eq-clause-list : goal.returns-then-eq-clause-list
returns-then-eq-clause-list c = λ begins.
    let first : c.first_inside-first.result ≡ Some 2 = c.first_inside-first.ensures.found 2 (list_first c.args.octets.now begins) in
    let other : c.first_inside-first.result ≡ Some 160 = search rules in
    cc

pub returns-then-eq-2-clause-certificate : goal.returns-then-eq-2-clause-certificate
returns-then-eq-2-clause-certificate c = λ begins same.
    let first : c.first_inside-first.result ≡ Some 160 =
    c.first_inside-first.ensures.found 160 (certificate_first c.args.octets.now begins) in
    let other : c.first_inside-first.result ≡ Some 2 = search rules in
    cc

pub returns-else-eq-2-clause-list : goal.returns-else-eq-2-clause-list
returns-else-eq-2-clause-list c = λ begins.
    let first : c.first_inside-first.result ≡ Some 2 = c.first_inside-first.ensures.found 2 (list_first c.args.octets.now begins) in
    let differs = sym c.if-eq-2.false ∙ c.eq-else-eq.ensures in
    absurd (false≢true (rw first at differs))

pub returns-then-eq-clause-form : goal.returns-then-eq-clause-form
returns-then-eq-clause-form c = (
  (λ is. cc),
  (λ looks.
      let first : c.first_inside-first.result ≡ Some 2 = c.first_inside-first.ensures.found 2 looks in
      let other : c.first_inside-first.result ≡ Some 160 = search rules in
      cc),
)

pub returns-then-eq-2-clause-form : goal.returns-then-eq-2-clause-form
returns-then-eq-2-clause-form c =
    let first : c.first_inside-first.result ≡ Some 2 = search rules in
    ((λ is. rw first at c.first_inside-first.ensures.means), (λ looks. refl))

pub returns-else-eq-2-clause-form : goal.returns-else-eq-2-clause-form
returns-else-eq-2-clause-form c = (
  (λ is. cc),
  (λ looks.
      let first : c.first_inside-first.result ≡ Some 2 = c.first_inside-first.ensures.found 2 looks in
      let differs = sym c.if-eq-2.false ∙ c.eq-else-eq.ensures in
      absurd (false≢true (rw first at differs))),
)
