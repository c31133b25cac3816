use Rattle.std.proofs.Common.{◌≡◌, false, true}
use Rattle.rpki_der.specs.Place.{remaining}
use Rattle.rpki_files.specs.StopPlaces.{AreComplete, AreOfKinds, HasBoth}
use Rattle.rpki_files.specs.declared.expected.Part.TheVariants as part
use Rattle.rpki_files.proofs.KindsSeen.{both_needed, both_suffice}
use Rattle.rpki_files.proofs.StopWalks.{errs_so, oks_so}
use Rattle.rpki_files.proofs.places.complete.Goals as goal

pub returns-then-is_list-clause-stop : goal.returns-then-is_list-clause-stop
returns-then-is_list-clause-stop c =
    let kinds = c.args.kinds.now in
    let elements = remaining c.args.inside.now in
    let are : AreOfKinds true kinds elements = rw c.if-is_list.true at c.requires in
    errs_so (λ stop from. (HasBoth kinds → ⊥) × (stop ≡ part.Extensions) × (from ≡ c.args.octet))
    _ c.list_complete.result c.list_complete.ensures.stop
    (λ stop from s.
    (rw c.if-is_list.true (are.0, are.1, λ all. s.0 (both_needed kinds elements are all)), s.1, s.2))

pub returns-then-is_list-clause-all : goal.returns-then-is_list-clause-all
returns-then-is_list-clause-all c =
    let kinds = c.args.kinds.now in
    let elements = remaining c.args.inside.now in
    let are : AreOfKinds true kinds elements = rw c.if-is_list.true at c.requires in
    oks_so (HasBoth kinds) (AreComplete c.args.is_list elements) c.list_complete.result c.list_complete.ensures.both
    (λ has. rw c.if-is_list.true (both_suffice kinds elements are has))

pub returns-else-is_list-clause-stop : goal.returns-else-is_list-clause-stop
returns-else-is_list-clause-stop c =
    let kinds = c.args.kinds.now in
    let elements = remaining c.args.inside.now in
    let are : AreOfKinds false kinds elements = rw c.if-is_list.false at c.requires in
    errs_so (λ stop from. (AreComplete false elements → ⊥) × (stop ≡ part.Extensions) × (from ≡ c.args.octet))
    _ c.certificate_complete.result c.certificate_complete.ensures.stop
    (λ stop from s. (rw c.if-is_list.false (are.0, are.1, s.0), s.1, s.2))

pub returns-else-is_list-clause-all : goal.returns-else-is_list-clause-all
returns-else-is_list-clause-all c =
    let elements = remaining c.args.inside.now in
    oks_so (AreComplete false elements) (AreComplete c.args.is_list elements) c.certificate_complete.result
    c.certificate_complete.ensures.all (λ all. rw c.if-is_list.false all)
