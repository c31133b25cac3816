use Rattle.std.proofs.Common.{rules, ◌≡◌, ℕ, List, Err, subst}
use Rattle.rpki_crl.specs.Lists.{CrlFields, IsCertificateList}
use Rattle.rpki_der.specs.Encoding.{Begins}
use Rattle.rpki_der.specs.Place.{Rejects}
use Rattle.rpki_der.proofs.Answering.{rejects}
use Rattle.rpki_files.proofs.contents.list_in.Goals as goal

pub returns-in_err-list-clause-means : goal.returns-in_err-list-clause-means
returns-in_err-list-clause-means c =
    let e = c.in_err-list.field-0.0 in
    let same : c.from_residual.result ≡ Err e = search rules in
    let none = subst (λ (o : List ℕ). Rejects e ((y : CrlFields) (rest : List ℕ) → Begins IsCertificateList o y rest →
    ⊥)) c.new-cursor.ensures.all c.in_err-list.ensures.answers.encoded in
    rw same (rejects e (λ no y m. no y m.0 m.1) none)
