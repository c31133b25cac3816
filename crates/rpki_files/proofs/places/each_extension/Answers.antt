use Rattle.std.proofs.Common.{◌≡◌, ◌++◌, ◌∷◌, [], List, Err, ap, refl, rules, subst, ◌∙◌}
use Rattle.std.proofs.lemmas.Bool.{false≢true}
use Rattle.rpki_der.specs.Extensions.{IsExtension}
use Rattle.rpki_der.specs.Place.{Place}
use Rattle.rpki_files.specs.StopPlaces.{AreWellPlaced, MayStand, Passes, StopsAtExtension, StopsInExtensions, extension_kind}
use Rattle.rpki_files.specs.declared.kinds.Kind.{Kind}
use Rattle.rpki_files.proofs.KindsSeen.{kinds_more, placed_more}
use Rattle.rpki_files.proofs.StopWalks.{at_end, goes_on, not_at_end, passed, passed_all, stays}
use Rattle.rpki_files.proofs.places.each_extension.Goals as goal

pub loop-rest-init : goal.loop-rest-init
loop-rest-init c =
    let at = c.fork-rest.result in
    let Is = AreWellPlaced c.args.is_list [] in (
      [],
      subst (λ (p : Place). Passes Is p at) c.fork-rest.ensures.same
          (stays Is at c.at-first.ensures.order c.at-first.ensures.within (refl, tt)),
      c.requires,
    )

pub loop-rest-preserved : goal.loop-rest-preserved
loop-rest-preserved c =
    let is_list = c.args.is_list in
    let so_far = c.loop-rest.invariant in
    let next = c.in_ok-keep_next.ensures.read in
    let xs = so_far.0 in
    let x = next.0 in
    let may = subst (λ (k : List Kind). MayStand is_list k x) so_far.2 next.1 in (
      xs ++ x ∷ [],
      goes_on (AreWellPlaced is_list xs) (IsExtension x) (AreWellPlaced is_list (xs ++ x ∷ [])) c.args.inside.now
          c.loop-rest.rest c.keep_next.new.rest (λ a b are is. placed_more is_list xs x a b may are is) so_far.1
          next.2,
      next.3 ∙ ap (λ (k : List Kind). k ++ extension_kind is_list x ∷ []) so_far.2 ∙ kinds_more is_list xs x,
    )

pub returns-in_err-keep_next-clause-stop : goal.returns-in_err-keep_next-clause-stop
returns-in_err-keep_next-clause-stop c =
    let is_list = c.args.is_list in
    let so_far = c.loop-rest.invariant in
    let same : c.from_residual.result ≡ Err c.in_err-keep_next.field-0.0 = search rules in
    passed (StopsAtExtension is_list c.loop-rest.kinds.items c.loop-rest.rest)
    (StopsInExtensions is_list c.args.inside.now) _ _ same c.in_err-keep_next.ensures.stop
    (λ stop octet s. record {
      extensions = so_far.0;
      next = c.loop-rest.rest;
      read = so_far.1;
      left = not_at_end c.loop-rest.rest so_far.1.order (λ none. false≢true (c.loop-rest-test.ensures.1 none));
      stops = subst (λ (k : List Kind). StopsAtExtension is_list k c.loop-rest.rest stop octet) so_far.2 s;
    })

pub returns-clause-read : goal.returns-clause-read
returns-clause-read c =
    let so_far = c.loop-rest.invariant in
    let end = at_end c.loop-rest.rest so_far.1.order so_far.1.within (c.loop-rest-test.ensures.0 refl) in
    (so_far.0, passed_all (AreWellPlaced c.args.is_list so_far.0) c.args.inside.now c.loop-rest.rest so_far.1 end, so_far.2)
