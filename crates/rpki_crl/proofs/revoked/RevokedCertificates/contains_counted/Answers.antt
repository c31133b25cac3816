use Rattle.std.proofs.Common.{◌≡◌, Some, sym, ◌∙◌, refl, arith}
use Rattle.std.proofs.lemmas.Bool.{false≢true, eqb-true, eqb-false}
use Rattle.rpki_der.specs.Folding.{each, pass}
use Rattle.rpki_der.specs.Place.{remaining}
use Rattle.rpki_der.proofs.Octets.{nothing}
use Rattle.rpki_der.proofs.SequenceWalks.{ends, goes_on, over_end, rejected, shorter, some_left}
use Rattle.rpki_crl.specs.RevokedEntries.{entry_format, entries_pass}
use Rattle.rpki_crl.specs.RevokedEntries.Views.{entry_of}
use Rattle.rpki_crl.proofs.EntryReads.{entry_shrinks}
use Rattle.rpki_crl.proofs.EntrySequences.{differs, found, kept_entries, last_look, no_more_looks, one_look_more, spared, spares}
use Rattle.rpki_crl.proofs.revoked.RevokedCertificates.contains_counted.Goals as goal

pub unreachable-requires : goal.unreachable-requires
unfolding entries_pass
unreachable-requires c =
    let rest = remaining c.loop-rest.rest in
    let none = ends entry_format.read pass entry_shrinks tt rest (some_left rest c.loop-rest-test.ensures.1) c.in_default.ensures.reads.1 in
    nothing tt (sym none ∙ c.loop-rest.invariant.elements)

pub loop-rest-smaller : goal.loop-rest-smaller
loop-rest-smaller c = shorter entry_format.read pass entry_shrinks tt (remaining c.loop-rest.rest)
    (entry_of c.in-Ok.entry) (remaining c.take_from.new.cursor) c.in-Ok.ensures.reads

pub loop-rest-preserved : goal.loop-rest-preserved
unfolding entries_pass spares
loop-rest-preserved c =
    let e = entry_of c.in-Ok.entry in
    let rest = remaining c.take_from.new.cursor in
    record {
      elements = sym (goes_on entry_format.read pass entry_shrinks tt (remaining c.loop-rest.rest) e rest
          c.in-Ok.ensures.reads tt refl) ∙ c.loop-rest.invariant.elements;
      same = sym (goes_on entry_format.read (each (differs c.args.serial)) entry_shrinks tt
          (remaining c.loop-rest.rest) e rest c.in-Ok.ensures.reads tt (rw (← c.if-eq.ensures) refl)) ∙
          c.loop-rest.invariant.same;
      looked =
          let more = one_look_more c.args.serial (remaining c.loop-rest.rest) c.loop-rest.invariant.elements e rest
          c.in-Ok.ensures.reads (eqb-false e.serial c.args.serial (sym c.if-eq.ensures)) in
          omega (arith, more, c.loop-rest.invariant.looked);
      few =
          let less = shorter entry_format.read pass entry_shrinks tt (remaining c.loop-rest.rest) e rest c.in-Ok.ensures.reads in
          omega (arith, less, c.loop-rest.invariant.few);
    }

pub returns-then-eq-clause-revoked : goal.returns-then-eq-clause-revoked
unfolding spares
returns-then-eq-clause-revoked c =
    let none = rejected entry_format.read (each (differs c.args.serial)) entry_shrinks tt (remaining c.loop-rest.rest)
    (entry_of c.in-Ok.entry) (remaining c.take_from.new.cursor) c.in-Ok.ensures.reads
    (rw (← c.if-eq.ensures) refl) in (
      λ _. found c.args.serial c.self.inside.octets c.args.self.now c.self.view_is c.self.invariant
          (sym c.loop-rest.invariant.same ∙ none),
      λ _. refl,
    )

pub returns-clause-revoked : goal.returns-clause-revoked
unfolding spares
returns-clause-revoked c =
    let all : spares c.args.serial (remaining c.loop-rest.rest) ≡ Some tt =
    rw (c.loop-rest-test.ensures.0 refl) (over_end entry_format.read (each (differs c.args.serial)) tt) in (
      λ is. absurd (false≢true is),
      λ among. absurd
          (spared c.args.serial c.self.inside.octets c.args.self.now c.self.view_is c.self.invariant
          (sym c.loop-rest.invariant.same ∙ all) among),
    )

pub returns-clause-entries : goal.returns-clause-entries
returns-clause-entries c = kept_entries c.self.inside.octets c.args.self.now c.self.view_is c.self.invariant c.cursor-rest.ensures.octets

pub returns-then-eq-clause-entries : goal.returns-then-eq-clause-entries
returns-then-eq-clause-entries c = kept_entries c.self.inside.octets c.args.self.now c.self.view_is c.self.invariant
    c.cursor-rest.ensures.octets

pub returns-then-eq-clause-looks : goal.returns-then-eq-clause-looks
returns-then-eq-clause-looks c =
    let e = entry_of c.in-Ok.entry in
    let last = last_look c.args.serial (remaining c.loop-rest.rest) c.loop-rest.invariant.elements e
    (remaining c.take_from.new.cursor) c.in-Ok.ensures.reads
    (eqb-true e.serial c.args.serial (sym c.if-eq.ensures)) in
    omega (arith, last, c.loop-rest.invariant.looked)

pub returns-clause-looks : goal.returns-clause-looks
returns-clause-looks c =
    let none = no_more_looks c.args.serial (remaining c.loop-rest.rest) c.loop-rest.invariant.elements (c.loop-rest-test.ensures.0 refl) in
    omega (arith, none, c.loop-rest.invariant.looked)
