use Rattle.std.proofs.Common.{◌≡◌, ◌++◌, ◌∷◌, [], Err, refl, rules, subst}
use Rattle.std.proofs.lemmas.Bool.{false≢true}
use Rattle.rpki_der.specs.Place.{Place}
use Rattle.rpki_crl.specs.RevokedEntries.{AreEntries, IsEntry}
use Rattle.rpki_files.specs.StopPlaces.{Passes, StopsInEntries}
use Rattle.rpki_files.proofs.StopWalks.{at_end, encodings_more, goes_on, not_at_end, passed, passed_all, stays}
use Rattle.rpki_files.proofs.places.each_entry.Goals as goal

pub loop-rest-init : goal.loop-rest-init
loop-rest-init c =
    let at = c.fork-rest.result in (
      [],
      subst (λ (p : Place). Passes (AreEntries []) p at) c.fork-rest.ensures.same
          (stays (AreEntries []) at c.at-first.ensures.order c.at-first.ensures.within refl),
    )

pub loop-rest-preserved : goal.loop-rest-preserved
loop-rest-preserved c =
    let so_far = c.loop-rest.invariant in
    let next = c.in_ok-next_entry.ensures.read in (
      so_far.0 ++ next.0 ∷ [],
      goes_on (AreEntries so_far.0) (IsEntry next.0) (AreEntries (so_far.0 ++ next.0 ∷ []))
          c.args.inside.now c.loop-rest.rest c.next_entry.new.rest
          (λ a b are is. encodings_more IsEntry so_far.0 next.0 a b are is) so_far.1 next.1,
    )

pub returns-in_err-next_entry-clause-stop : goal.returns-in_err-next_entry-clause-stop
returns-in_err-next_entry-clause-stop c =
    let so_far = c.loop-rest.invariant in
    let same : c.from_residual.result ≡ Err c.in_err-next_entry.field-0.0 = search rules in
    passed _ (StopsInEntries c.args.inside.now) _ _ same c.in_err-next_entry.ensures.stop (λ stop octet s. record {
      entries = so_far.0;
      next = c.loop-rest.rest;
      read = so_far.1;
      left = not_at_end c.loop-rest.rest so_far.1.order (λ none. false≢true (c.loop-rest-test.ensures.1 none));
      stops = s;
    })

pub returns-clause-read : goal.returns-clause-read
returns-clause-read c =
    let so_far = c.loop-rest.invariant in
    let end = at_end c.loop-rest.rest so_far.1.order so_far.1.within (c.loop-rest-test.ensures.0 refl) in
    (so_far.0, passed_all (AreEntries so_far.0) c.args.inside.now c.loop-rest.rest so_far.1 end)
