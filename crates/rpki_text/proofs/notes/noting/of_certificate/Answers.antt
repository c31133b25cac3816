use Rattle.std.proofs.Common.{◌≡◌, ◌↔◌, List, get_or, take, true, sym, subst}
use Rattle.std.proofs.lemmas.List.{take_all, take_more}
use Rattle.rpki_cert.specs.Certificates.{TbsFields}
use Rattle.rpki_der.specs.Extensions.{Extension}
use Rattle.rpki_text.specs.Notes.{AreNotes, AreThose, Breaks, HaveExtensions, IsNoteOf, every_note}
use Rattle.rpki_text.specs.declared.notes.note.Note.{Note}
use Rattle.rpki_text.specs.declared.notes.note.Note.TheVariants.{SerialZero}
use Rattle.rpki_text.proofs.Told.{tested_more, told}
use Rattle.rpki_text.proofs.notes.noting.of_certificate.Goals as goal

pub loop-note-preserved : goal.loop-note-preserved
loop-note-preserved c =
    let octets = c.args.octets.now in
    let index = c.loop-note.note-index in
    let here = get_or every_note index SerialZero in
    let is_one = c.in_ok-is_one.is_one in
    let found = c.put.new.notes.items in
    let breaks = subst (λ (f : TbsFields). (xs : List Extension) → HaveExtensions xs octets →
    ((is_one ≡ true) ↔ Breaks here octets f xs)) c.as_tbs.ensures c.in_ok-is_one.ensures in
    let is = told octets c.args.cert.now c.requires here is_one breaks in
    let more = tested_more (IsNoteOf octets) (take index every_note) c.loop-note.notes.items found here is_one is
    c.loop-note.invariant c.in_ok-put.ensures in
    subst (λ (notes : List Note). AreThose (IsNoteOf octets) notes found)
    (sym (take_more every_note index SerialZero c.loop-note-test.true)) more

pub returns : goal.returns
unfolding AreNotes
returns c =
    let octets = c.args.octets.now in
    subst (λ (notes : List Note). AreThose (IsNoteOf octets) notes c.loop-note.notes.items)
    (take_all c.loop-note.note-index every_note c.loop-note-test.false) c.loop-note.invariant
