use Rattle.std.specs.Prelude.{Err}
use Rattle.std.proofs.Common.{sym, subst}
use Rattle.rpki_cert.specs.Verification.{context}
use Rattle.rpki_keys.specs.RsaSignatures.{IsSignedByRsa}
use Rattle.rpki_c.specs.FolderTelling.{AnswersBelow}
use Rattle.rpki_c.specs.declared.refusal.Refusal.{Refusal}
use Rattle.rpki_c.proofs.SortedAnchors.{wrong_answered}
use Rattle.rpki_c.proofs.walking.walk_sorted.Goals as goal

pub returns-in-Valid : goal.returns-in-Valid
returns-in-Valid c =
    let found = rw c.in-Valid.is at c.in_ok-anchor.ensures in
    c.walk_from-answer.ensures c.args.tal.now found

pub returns-in-Wrong : goal.returns-in-Wrong
returns-in-Wrong c =
    let f = c.args.terms in
    let x = context IsSignedByRsa f.at f.strict in
    let s = c.args.sorted.now in
    let found = rw c.in-Wrong.is at c.in_ok-anchor.ensures in
    subst (λ (r : Refusal). AnswersBelow x f c.args.tal.now s.strings.now (Err r)) (sym c.wrong_of.ensures)
    (wrong_answered x c.args.tal.now f c.unambiguous.ensures.certificate s c.requires c.in-Wrong.candidates.items
    found.0 found.1)
