use Rattle.std.proofs.Common.{refl, sym, ◌∙◌, arith, ap, length}
use Rattle.rpki_der.specs.Place.{remaining}
use Rattle.rpki_der.proofs.SequenceWalks.{some_left}
use Rattle.rpki_crl.specs.RevokedEntries.Views.{entry_of}
use Rattle.rpki_crl.proofs.EntrySequences.{first_entry, none_left, one_stands, others_pass}
use Rattle.rpki_crl.proofs.revoked.RevokedCertificatesIterIterator.next.Goals as goal

pub returns-then-is_empty-clause-steps : goal.returns-then-is_empty-clause-steps
returns-then-is_empty-clause-steps c =
    let end = c.if-is_empty.ensures.0 refl in
    let none = none_left (remaining c.self.inside.rest) c.self.invariant end in
    (sym c.self.view_is ∙ none, sym c.self.view_is ∙ none)

pub unreachable-requires : goal.unreachable-requires
unreachable-requires c = one_stands (remaining c.self.inside.rest) c.self.invariant
    (some_left (remaining c.self.inside.rest) c.if-is_empty.ensures.1) c.in_default.ensures.reads.1

pub invariant_of-self : goal.invariant_of-self
invariant_of-self c = others_pass (remaining c.self.inside.rest) c.self.invariant (entry_of c.in-Ok.entry)
    (remaining c.take_from.new.cursor) c.in-Ok.ensures.reads

pub returns-clause-steps : goal.returns-clause-steps
returns-clause-steps c = sym c.self.view_is ∙ first_entry (remaining c.self.inside.rest) c.self.invariant
    (entry_of c.in-Ok.entry) (remaining c.take_from.new.cursor) c.in-Ok.ensures.reads

pub returns-clause-goes : goal.returns-clause-goes
returns-clause-goes c =
    let step = sym c.self.view_is ∙ first_entry (remaining c.self.inside.rest) c.self.invariant
    (entry_of c.in-Ok.entry) (remaining c.take_from.new.cursor) c.in-Ok.ensures.reads in
    record { on = λ f. (tt, tt, omega (arith, ap length step)); keeps = tt; rests = λ f. tt }
