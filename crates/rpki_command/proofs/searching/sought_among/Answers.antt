use Rattle.std.specs.Io.KnownBytes.{Appends}
use Rattle.std.proofs.Common.{◌≡◌, ◌∷◌, ◌++◌, List, refl, subst}
use Rattle.rpki_keys.specs.RsaSignatures.{IsSignedByRsa}
use Rattle.rpki_cert.specs.Verification.{context}
use Rattle.rpki_text.specs.CommandLines.Views.{fields_of, word_octets}
use Rattle.rpki_files.specs.Files.{FileFields, file_names}
use Rattle.rpki_verdicts.specs.Searches.{IsSoughtPath}
use Rattle.rpki_verdicts.specs.Trees.{TreeFields}
use Rattle.rpki_answers.specs.AnswerTexts.{tree_question_of}
use Rattle.rpki_command.specs.Messages.{bound_message}
use Rattle.rpki_command.proofs.WrittenTexts.{appends_both}
use Rattle.rpki_command.proofs.searching.sought_among.Goals as goal

pub returns-in-Ok-clause-sought : goal.returns-in-Ok-clause-sought
returns-in-Ok-clause-sought g c =
    let q = tree_question_of (fields_of c.args.request.now) c.args.now c.args.files.now c.args.locators.now in
    let names = word_octets c.in-Ok.files.items in
    let found = subst (λ (p : TreeFields). (path : List FileFields)
    × ((file : FileFields) (more : List FileFields) → p.files ≡ file ∷ more →
    IsSoughtPath (context IsSignedByRsa p.at p.strict) p file path c.in-Ok.ended)
    × (names ≡ file_names path)) c.tree_question-question.ensures c.in-Ok.ensures.path in
    record { path = found.0; path_is = found.1; files_are = found.2; lists_are = c.in_ok-lists.ensures.lists }

pub returns-in-Ok-clause-said : goal.returns-in-Ok-clause-said
returns-in-Ok-clause-said g c =
    let contents = g.E.Write.contents in
    let q = tree_question_of (fields_of c.args.request.now) c.args.now c.args.files.now c.args.locators.now in
    let (of_files, says, first) = c.in_ok-lists.ensures.said in
    let bound = bound_message q c.in-Ok.ended in
    let second = subst (λ (p : TreeFields). Appends (contents c.lists_told.new.err) (contents c.path_told.new.err)
    (bound_message p c.in-Ok.ended)) c.tree_question-question.ensures c.in-Ok.ensures.said in (
      of_files ++ bound,
      (of_files, says, refl),
      appends_both (contents c.args.err.now) (contents c.lists_told.new.err) (contents c.path_told.new.err) of_files bound first second,
    )
