use Rattle.std.specs.Prelude.{Bool, IfOk, MatchOption}
use Rattle.std.proofs.Common.{◌≡◌, [], List, length, sym, ap, subst, ◌∙◌}
use Rattle.std.proofs.lemmas.Bool.{false≢true}
use Rattle.std.proofs.lemmas.Bool.Decides.{Decides-eqb}
use Rattle.std.proofs.lemmas.List.{length-map}
use Rattle.rpki_path.specs.AskedLists.{GivenFields, by_named_lists}
use Rattle.rpki_crl.specs.Lists.{CrlState}
use Rattle.rpki_keys.specs.RsaSignatures.{IsSignedByRsa}
use Rattle.rpki_cert.specs.Verification.{context}
use Rattle.rpki_files.specs.Files.{contents}
use Rattle.rpki_verdicts.specs.PathFiles.{QuestionFields, AreListsOf, demands_of}
use Rattle.rpki_verdicts.specs.PathAnswers.{IsPathVerdict}
use Rattle.rpki_verdicts.proofs.GivenKinds.{verdict_by}
use Rattle.rpki_verdicts.proofs.path.judge.Goals as goal

abbrev given_of : List CrlState → Bool → GivenFields
given_of lists names = record { lists = lists; names = names }

pub returns : goal.returns
returns c =
    let q = c.args.question.now in
    let x = context IsSignedByRsa q.at q.strict in
    let lists = c.question.inside.lists.now in
    let read = c.in_ok-lists.lists.items in
    let some : length lists ≡ 0 →
    ⊥ = λ none. false≢true
    (sym c.if-is_empty.false ∙ c.is_empty.ensures ∙ (Decides-eqb (length lists) 0).1 none) in
    let given : length (contents lists) ≡ 0 → ⊥ = λ none. some (sym (length-map lists (λ file. file.octets)) ∙ none) in
    let are = subst (λ (f : QuestionFields). AreListsOf (contents f.lists) read) c.question.view_is c.in_ok-lists.ensures in
    let any = subst (λ (f : QuestionFields). length (contents f.lists) ≡ 0 → ⊥) c.question.view_is given in
    let are_given : c.with_names-given.result ≡ given_of read q.names =
    c.with_names-given.ensures ∙ ap (λ (ls : List CrlState). given_of ls c.question.inside.names)
    c.deref.ensures.value ∙ ap (λ (f : QuestionFields). given_of read f.names) c.question.view_is in
    let verdict = subst (λ (given : GivenFields). IfOk c.judged_by-verdict.result
    (λ o. MatchOption o (contents q.members ≡ [])
    (IsPathVerdict x (by_named_lists given.names x given.lists) (demands_of q) (contents q.members)))) are_given
    c.judged_by-verdict.ensures in
    verdict_by x (demands_of q) (contents q.members ≡ []) (contents q.members) (contents q.lists) read any are
    c.judged_by-verdict.result verdict
