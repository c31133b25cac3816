use Rattle.std.proofs.Common.{◌≡◌, inl, inr, ap, refl, subst, sym, ◌∙◌}
use Rattle.std.proofs.lemmas.Bool.{false≢true}
use Rattle.rpki_der.specs.Place.{remaining}
use Rattle.rpki_der.proofs.Answering.{memory_alone}
use Rattle.rpki_files.specs.KnownKinds.{HasContent, MayHaveFlag, known_kind}
use Rattle.rpki_files.specs.StopPlaces.{IsMisplaced, IsSecond}
use Rattle.rpki_files.specs.declared.expected.Part.TheVariants as part
use Rattle.rpki_files.specs.declared.kinds.Kind.{Kind}
use Rattle.rpki_files.proofs.StopWalks.{stops_for}
use Rattle.rpki_files.proofs.places.placed.Goals as goal

pub returns-then-is_second-clause-stop : goal.returns-then-is_second-clause-stop
returns-then-is_second-clause-stop c =
    let a = c.args in
    let is = c.of-kind.ensures in (
      refl,
      inl (
        ap (λ (k : Kind). part.Second k) is,
        subst (λ (k : Kind). IsSecond a.kinds.now k) is (c.is_second.ensures.0 c.if-is_second.true),
      ),
    )

pub returns-in-Ok-clause-read : goal.returns-in-Ok-clause-read
returns-in-Ok-clause-read c = (
  c.of-kind.ensures,
  record {
    flag = c.in-Ok.ensures.0;
    has_content = c.in-Ok.ensures.1;
    first = λ second. false≢true (sym c.if-is_second.false ∙ c.is_second.ensures.1 second);
  },
)

pub returns-in-Err-clause-stop : goal.returns-in-Err-clause-stop
returns-in-Err-clause-stop c =
    let a = c.args in
    let is = c.of-kind.ensures in
    let kind = known_kind a.is_list a.identifier.now in
    let content = remaining a.content.now in
    let first = λ (second : IsSecond a.kinds.now kind).
    false≢true (sym c.if-is_second.false ∙
    c.is_second.ensures.1 (subst (λ (k : Kind). IsSecond a.kinds.now k) (sym is) second)) in
    stops_for (λ stop from. (from ≡ a.octet) × IsMisplaced a.is_list a.kinds.now kind a.critical content stop)
    (part.Kind c.of-kind.result) a.octet c.in-Err.fault c.stopped.result c.stopped.ensures
    (λ other. (
      refl,
      inr (
        ap (λ (k : Kind). part.Kind k) is,
        first,
        λ may. other (memory_alone c.in-Err.fault c.in-Err.ensures
            (λ none. none
            (subst (λ (k : Kind). MayHaveFlag a.is_list k a.critical × HasContent k content) (sym is) may))),
      ),
    ))
