use Rattle.std.proofs.Common.{rules, sym, ◌∙◌, refl}
use Rattle.rpki_der.specs.Folding.{over, pass}
use Rattle.rpki_der.specs.Place.{remaining}
use Rattle.rpki_der.proofs.Answering.{gives_none}
use Rattle.rpki_der.proofs.SequenceWalks.{ends, goes_on, over_end, shorter, some_left}
use Rattle.rpki_crl.specs.RevokedEntries.{entry_format, entries_pass}
use Rattle.rpki_crl.specs.RevokedEntries.Views.{entry_of}
use Rattle.rpki_crl.proofs.EntryReads.{entry_shrinks}
use Rattle.rpki_crl.proofs.revoked.check.Goals as goal

pub returns-in_err-_entry : goal.returns-in_err-_entry
unfolding entries_pass
returns-in_err-_entry c =
    let rest = remaining c.loop-rest.rest in
    let none = ends entry_format.read pass entry_shrinks tt rest (some_left rest c.loop-rest-test.ensures.1)
    c.in_err-_entry.ensures.reads.1 in
    gives_none (λ (u : Unit {0}). u) c.from_residual.result
    _ (over entry_format.read pass tt (remaining c.args.cursor.now)) (search rules)
    c.in_err-_entry.ensures.reads.0 (sym c.loop-rest.invariant ∙ none)

pub loop-rest-smaller : goal.loop-rest-smaller
loop-rest-smaller c = shorter entry_format.read pass entry_shrinks tt (remaining c.loop-rest.rest)
    (entry_of c.in_ok-_entry._entry) (remaining c.take_from.new.cursor) c.in_ok-_entry.ensures.reads

pub loop-rest-preserved : goal.loop-rest-preserved
unfolding entries_pass
loop-rest-preserved c =
    sym (goes_on entry_format.read pass entry_shrinks tt (remaining c.loop-rest.rest) (entry_of c.in_ok-_entry._entry)
    (remaining c.take_from.new.cursor) c.in_ok-_entry.ensures.reads tt refl) ∙ c.loop-rest.invariant

pub returns : goal.returns
unfolding entries_pass
returns c = sym c.loop-rest.invariant ∙ rw (c.loop-rest-test.ensures.0 refl) (over_end entry_format.read pass tt)
