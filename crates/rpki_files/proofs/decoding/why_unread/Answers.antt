use Rattle.std.proofs.Common.{◌≢◌, ◌∙◌, subst, sym}
use Rattle.std.proofs.lemmas.Bool.{false≢true}
use Rattle.rpki_der.specs.declared.error.DecodeError.{DecodeError}
use Rattle.rpki_der.specs.declared.error.DecodeError.TheVariants as decoding
use Rattle.rpki_files.specs.Misreads.{StopsFor}
use Rattle.rpki_files.proofs.KeptFaults.{kept_not_memory, stops_for_kept}
use Rattle.rpki_files.proofs.decoding.why_unread.Goals as goal

pub returns-in-Ok : goal.returns-in-Ok
returns-in-Ok c =
    let a = c.args in
    let it = c.in-Ok in
    let octets = a.octets.now in
    let kept = sym c.kept.ensures in
    let not_memory : a.fault ≢ decoding.Memory = λ is. false≢true (sym c.if-is_memory.false ∙ c.is_memory.ensures.1 is) in
    let other = subst (λ (f : DecodeError). f ≢ decoding.Memory) kept (kept_not_memory a.fault it.is_true not_memory) in
    let stops = stops_for_kept a.is_list octets a.fault it.place it.is_true it.ensures.told in
    (c.requires not_memory, other, subst (λ (f : DecodeError). StopsFor a.is_list octets f it.place) kept stops, it.ensures.within)
