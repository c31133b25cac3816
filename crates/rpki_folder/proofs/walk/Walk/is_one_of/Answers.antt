use Rattle.std.specs.Prelude.{Contains}
use Rattle.std.proofs.Common.{ℕ, List, take, get_or, refl, sym, subst, ◌∙◌, inl, inr, arith}
use Rattle.std.proofs.lemmas.Bool.{both_ways}
use Rattle.std.proofs.lemmas.List.{take_more, take_all}
use Rattle.std.proofs.lemmas.List.Elements.{Contains-get_or, Contains-push_cases}
use Rattle.rpki_cert.specs.Certificates.{CertFields}
use Rattle.rpki_path.specs.Repeats.{AreOneEntity}
use Rattle.rpki_folder.specs.Walks.{StandsAt}
use Rattle.rpki_folder.proofs.walk.Walk.is_one_of.Goals as goal

pub returns-then-are_one_entity : goal.returns-then-are_one_entity
returns-then-are_one_entity g c = (
  (λ yes. (
    c.args.top.now.cert,
    inl refl,
    subst (λ (d : CertFields). AreOneEntity c.args.self.now.names d c.args.cert.now) c.as_cert.ensures
        (c.are_one_entity.ensures.0 c.if-are_one_entity.true),
  )),
  (λ repeated. refl),
)

pub loop-place-init : goal.loop-place-init
loop-place-init g c = λ p among. absurd (omega (arith, among.1))

pub is_one_at-requires : goal.is_one_at-requires
is_one_at-requires g c =
    let places = c.args.places.now in
    let i = c.loop-place.place-index in
    c.requires (get_or places i 0) (Contains-get_or places i 0 c.loop-place-test.true)

pub returns-then-is_one : goal.returns-then-is_one
returns-then-is_one g c =
    let places = c.args.places.now in
    let i = c.loop-place.place-index in
    let one = c.in_ok-is_one.ensures.0 c.if-is_one.true in (
      (λ yes. (one.0, inr (get_or places i 0, Contains-get_or places i 0 c.loop-place-test.true, one.1), one.2)),
      (λ repeated. refl),
    )

pub loop-place-preserved : goal.loop-place-preserved
loop-place-preserved g c = λ p among d stands one.
    let places = c.args.places.now in
    let i = c.loop-place.place-index in
    let certs = c.args.self.now.folder.now.certs in
    elim (Contains-push_cases (take i places) (get_or places i 0) p
    (subst (λ (l : List ℕ). Contains l p) (take_more places i 0 c.loop-place-test.true) among)) [
      | inl before ↦ c.loop-place.invariant p before d stands one
      | inr is ↦ both_ways c.in_ok-is_one.is_one c.if-is_one.false
          (c.in_ok-is_one.ensures.1 (d, subst (λ (q : ℕ). StandsAt certs q d) (sym is) stands, one))
    ]

pub returns : goal.returns
returns g c =
    let places = c.args.places.now in
    let all = take_all c.loop-place.place-index places c.loop-place-test.false in
    let names = c.args.self.now.names in (
      (λ yes. absurd cc),
      (λ repeated. elim repeated.1 [
        | inl is ↦ absurd (both_ways c.are_one_entity.result c.if-are_one_entity.false
            (c.are_one_entity.ensures.1
            (subst (λ (d : CertFields). AreOneEntity names d c.args.cert.now) (is ∙ sym c.as_cert.ensures)
            repeated.2)))
        | inr at ↦ absurd (c.loop-place.invariant at.0 (subst (λ (l : List ℕ). Contains l at.0) (sym all) at.1)
            repeated.0 at.2 repeated.2)
      ]),
    )
