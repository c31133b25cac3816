use Rattle.std.proofs.Common.{◌≡◌, Err, inl, inr, rules}
use Rattle.rpki_der.specs.Tags.{SEQUENCE}
use Rattle.rpki_files.specs.StopPlaces.{HasTag, Opens, StopsAt, StopsBefore, StopsInside, whole_place}
use Rattle.rpki_files.specs.declared.expected.Part.TheVariants as part
use Rattle.rpki_files.proofs.StopWalks.{errs_so, passed, values_so}
use Rattle.rpki_files.proofs.places.signature_at.Goals as goal

pub returns-in_err-outer-clause-stop : goal.returns-in_err-outer-clause-stop
returns-in_err-outer-clause-stop c =
    let octets = c.args.octets.now in
    let same : c.from_residual.result ≡ Err c.in_err-outer.field-0.0 = search rules in
    passed (StopsBefore (HasTag SEQUENCE) part.Outer c.new-file.result) (StopsAt c.args.is_list octets) _ _ same
    c.in_err-outer.ensures.stop (λ stop octet s. inl (rw (← c.new-file.ensures.whole) s))

pub returns-clause-stop : goal.returns-clause-stop
returns-clause-stop c =
    let octets = c.args.octets.now in
    let outer = c.in_ok-outer.outer in
    let next = c.opened.new.cursor in
    let opens : Opens SEQUENCE (whole_place octets) outer next = rw (← c.new-file.ensures.whole) c.in_ok-outer.ensures.read in
    errs_so (StopsInside c.args.is_list outer) (StopsAt c.args.is_list octets) c.inside.result c.inside.ensures.stop
    (λ stop octet s. inr (outer, next, opens, s))

pub returns-clause-read : goal.returns-clause-read
returns-clause-read c =
    let octets = c.args.octets.now in
    let outer = c.in_ok-outer.outer in
    let next = c.opened.new.cursor in
    let opens : Opens SEQUENCE (whole_place octets) outer next = rw (← c.new-file.ensures.whole) c.in_ok-outer.ensures.read in
    values_so (StopsInside c.args.is_list outer part.Signature) (StopsAt c.args.is_list octets part.Signature)
    c.inside.result c.inside.ensures.read (λ octet s. inr (outer, next, opens, s))
