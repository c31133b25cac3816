use Rattle.std.proofs.Common.{rules, ℕ, List, refl}
use Rattle.std.proofs.lemmas.Result.{IfErr-weaker}
use Rattle.rpki_text.specs.declared.command_line.arguments.Setting.{Setting}
use Rattle.rpki_text.specs.CommandLines.{setting_name, with_part}
use Rattle.rpki_text.specs.WordParts.{IsOption, Joins}
use Rattle.rpki_text.specs.CommandLines.Views.{fields_of}
use Rattle.rpki_text.proofs.AddedParts.{file_added}
use Rattle.rpki_text.proofs.CommandParts.{line_grammar, line_clear}
use Rattle.rpki_text.proofs.WordByWord.{joined_added}
use Rattle.rpki_text.proofs.WrongWords.{unknown_option, word_joined}
use Rattle.rpki_text.proofs.command_line.words.add_word.Goals as goal

pub returns-then-not-is_option-clause-added : goal.returns-then-not-is_option-clause-added
returns-then-not-is_option-clause-added c =
    file_added c.push_name.result (fields_of c.args.request.now) _ c.args.word.now c.push_name.ensures.added (search rules)

pub returns-in-Some-clause-added : goal.returns-in-Some-clause-added
returns-in-Some-clause-added c =
    let joins : Joins (setting_name c.in-Some.setting) c.in-Some.value.now c.args.word.now = search rules in
    joined_added line_grammar with_part line_clear c.add_set.result (fields_of c.args.request.now)
    (fields_of c.add_set.new.request) c.in-Some.setting c.in-Some.value.now c.args.word.now joins
    c.add_set.ensures.added

pub returns-in-Some-clause-told : goal.returns-in-Some-clause-told
returns-in-Some-clause-told c =
    let joins : Joins (setting_name c.in-Some.setting) c.in-Some.value.now c.args.word.now = search rules in
    IfErr-weaker c.add_set.result
    _ _ (λ e tells not_memory. word_joined e c.in-Some.setting c.in-Some.value.now c.args.word.now joins
    (tells not_memory)) c.add_set.ensures.told

pub returns-else-switch-clause-told : goal.returns-else-switch-clause-told
returns-else-switch-clause-told c = λ not_memory rest.
    let is_option : IsOption c.args.word.now = search rules in
    let unjoined : (setting : Setting) (value : List ℕ) → Joins (setting_name setting) value c.args.word.now →
    ⊥ = c.in_default.ensures.unknown in
    (rest, refl, unknown_option c.args.word.now is_option c.requires unjoined c.if-switch.ensures.unknown)
