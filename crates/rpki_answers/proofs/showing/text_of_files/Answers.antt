use Rattle.std.proofs.Common.{string_bytes}
use Rattle.rpki_files.specs.Files.{contents}
use Rattle.rpki_answers.specs.ShownFiles.{IsTextOfFiles}
use Rattle.rpki_answers.proofs.GrownLists.{from_nothing}
use Rattle.rpki_answers.proofs.ShownFiles.{outcome_shown}
use Rattle.rpki_answers.proofs.showing.text_of_files.Goals as goal

pub returns-clause-outcome : goal.returns-clause-outcome
returns-clause-outcome c = outcome_shown c.args.options.now.strict (contents c.args.objects.now) c.of_answer.result
    c.in_ok-can_be_shown.can_be_shown c.of_answer.ensures.success c.of_answer.ensures.rejection
    c.in_ok-can_be_shown.ensures.shows

pub returns-clause-text : goal.returns-clause-text
returns-clause-text c =
    from_nothing (IsTextOfFiles c.args.options.now c.args.objects.now) _ (string_bytes c.show_all.new.out)
    c.new-text.ensures.bytes c.in_ok-can_be_shown.ensures.text
