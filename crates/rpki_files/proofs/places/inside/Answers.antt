use Rattle.std.proofs.Common.{◌≡◌, Err, inl, inr, refl, rules}
use Rattle.rpki_der.specs.Tags.{SEQUENCE}
use Rattle.rpki_files.specs.StopPlaces.{HasTag, StopsAtAlgorithm, StopsBefore, StopsInSigned, StopsInside}
use Rattle.rpki_files.specs.declared.expected.Part.TheVariants as part
use Rattle.rpki_files.proofs.StopWalks.{passed}
use Rattle.rpki_files.proofs.places.inside.Goals as goal

pub returns-in_err-first-clause-stop : goal.returns-in_err-first-clause-stop
returns-in_err-first-clause-stop c =
    let old = c.args.outer.now in
    let same : c.from_residual.result ≡ Err c.in_err-first.field-0.0 = search rules in
    passed (StopsBefore (HasTag SEQUENCE) part.Signed old) (StopsInside c.args.is_list old) _ _ same
    c.in_err-first.ensures.stop (λ stop octet s. inl s)

pub returns-in_err-signed-clause-stop : goal.returns-in_err-signed-clause-stop
returns-in_err-signed-clause-stop c =
    let old = c.args.outer.now in
    let next = c.opened.new.cursor in
    let first = c.in_ok-first.first in
    let same : c.from_residual-in_err-signed.result ≡ Err c.in_err-signed.field-0.0 = search rules in
    passed (StopsInSigned c.args.is_list first) (StopsInside c.args.is_list old) _ _ same c.in_err-signed.ensures.stop
    (λ stop octet s. inr (first, next, c.in_ok-first.ensures.read, inl s))

pub returns-in_err-signature_algorithm-clause-stop : goal.returns-in_err-signature_algorithm-clause-stop
returns-in_err-signature_algorithm-clause-stop c =
    let old = c.args.outer.now in
    let next = c.opened.new.cursor in
    let first = c.in_ok-first.first in
    let same : c.from_residual-in_err-signature_algorithm.result ≡ Err c.in_err-signature_algorithm.field-0.0 = search rules in
    let stops = rw c.fork-begin.ensures.same at c.in_err-signature_algorithm.ensures.stop in
    passed (StopsAtAlgorithm c.args.is_list first next) (StopsInside c.args.is_list old) _ _ same stops
    (λ stop octet s. inr (first, next, c.in_ok-first.ensures.read, inr (c.in_ok-signed.ensures.read, inl s)))

pub returns-clause-read : goal.returns-clause-read
returns-clause-read c =
    let next = c.opened.new.cursor in
    let first = c.in_ok-first.first in
    let reads = rw c.fork-begin.ensures.same at c.in_ok-signature_algorithm.ensures.read in
    inr (
      first,
      next,
      c.in_ok-first.ensures.read,
      inr (c.in_ok-signed.ensures.read, inr (c.signature_algorithm.new.cursor, reads, refl, c.at.ensures.octet)),
    )
