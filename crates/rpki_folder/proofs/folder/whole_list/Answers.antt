use Rattle.std.proofs.Common.{rules, ◌≡◌, ℕ, List, [], Err, subst}
use Rattle.rpki_der.specs.Encoding.{Begins}
use Rattle.rpki_der.specs.Place.{Rejects, remaining}
use Rattle.rpki_der.proofs.Answering.{rejects}
use Rattle.rpki_crl.specs.Lists.{CrlFields, IsCertificateList}
use Rattle.rpki_folder.proofs.FolderSteps.{no_list_at_all, no_whole_list}
use Rattle.rpki_folder.proofs.folder.whole_list.Goals as goal

pub returns-in_err-list : goal.returns-in_err-list
returns-in_err-list c =
    let octets = c.args.octets.now in
    let e = c.in_err-list.field-0.0 in
    let same : c.from_residual.result ≡ Err e = search rules in
    let none = subst (λ (o : List ℕ). Rejects e ((y : CrlFields) (rest : List ℕ) →
    Begins IsCertificateList o y rest → ⊥)) c.new-cursor.ensures.all c.in_err-list.ensures.answers.encoded in
    rw same (rejects e (λ no. no_list_at_all octets no) none)

pub returns-then-not-is_empty : goal.returns-then-not-is_empty
returns-then-not-is_empty c =
    let octets = c.args.octets.now in
    let rest = remaining c.take_from.new.cursor in
    let begins = subst (λ (o : List ℕ). Begins IsCertificateList o c.in_ok-list.list.list rest)
    c.new-cursor.ensures.all c.in_ok-list.ensures.answers.encoded in
    let some : rest ≡ [] → ⊥ = λ end. search rules in
    no_whole_list c.unambiguous.ensures.list octets rest c.in_ok-list.list.list begins some
