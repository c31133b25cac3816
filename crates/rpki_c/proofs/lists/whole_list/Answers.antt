use Rattle.std.proofs.Common.{rules, ◌≡◌, ℕ, List, [], length, Err, refl, subst}
use Rattle.std.proofs.lemmas.List.{nil_from_length}
use Rattle.rpki_der.specs.Encoding.{Begins}
use Rattle.rpki_der.specs.Place.{Rejects, remaining}
use Rattle.rpki_der.proofs.Answering.{rejects}
use Rattle.rpki_crl.specs.Lists.{CrlFields, IsCertificateList}
use Rattle.rpki_files.proofs.FoundOctets.{found_none, found_part}
use Rattle.rpki_c.proofs.lists.whole_list.Goals as goal

pub returns-in_err-list : goal.returns-in_err-list
returns-in_err-list c =
    let octets = c.args.octets.now in
    let e = c.in_err-list.field-0.0 in
    let same : c.from_residual.result ≡ Err e = search rules in
    let none = subst (λ (o : List ℕ). Rejects e ((y : CrlFields) (rest : List ℕ) →
    Begins IsCertificateList o y rest → ⊥)) c.new-cursor.ensures.all c.in_err-list.ensures.answers.encoded in
    rw same (rejects e (λ no. found_none IsCertificateList octets (λ y m. no y m.0 m.1)) none)

pub returns-then-not-is_empty : goal.returns-then-not-is_empty
returns-then-not-is_empty c =
    let octets = c.args.octets.now in
    let rest = remaining c.take_from.new.cursor in
    let begins = subst (λ (o : List ℕ). Begins IsCertificateList o c.in_ok-list.list.list rest)
    c.new-cursor.ensures.all c.in_ok-list.ensures.answers.encoded in
    let some : rest ≡ [] → ⊥ = λ end. search rules in
    found_part IsCertificateList c.unambiguous.ensures.list octets c.in_ok-list.list.list (length rest)
    (rest, begins, refl) (λ zero. some (nil_from_length rest zero))
