use Rattle.std.proofs.Common.{map}
use Rattle.rpki_folder.specs.declared.bounds.Ended.TheVariants.{Whole}
use Rattle.rpki_keys.specs.RsaSignatures.{IsSignedByRsa}
use Rattle.rpki_cert.specs.Verification.{context}
use Rattle.rpki_verdicts.specs.Trees.{asked_of}
use Rattle.rpki_verdicts.proofs.SearchSteps.{alone_in, of_first}
use Rattle.rpki_verdicts.proofs.search.seek.Goals as goal

pub returns-then-is_alone-clause-path : goal.returns-then-is_alone-clause-path
returns-then-is_alone-clause-path c =
    let q = c.args.question.now in
    let x = context IsSignedByRsa q.at q.strict in
    let file = c.in-Some.file.now in
    let path = map (λ f. f.now) c.in_ok-alone.field-0.items in
    rw (c.whole-then-is_alone.ensures.path, c.whole-then-is_alone.ensures.ended)
    (of_first x (asked_of q) path Whole q.files.now c.in-Some.field-0-1.now file c.in-Some.ensures.cases.0
    (alone_in x (asked_of q) file path (c.in_ok-is_alone.ensures.alone c.if-is_alone.true) c.in_ok-alone.ensures))
