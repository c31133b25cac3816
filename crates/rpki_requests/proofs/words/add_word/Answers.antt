use Rattle.std.proofs.Common.{rules}
use Rattle.rpki_requests.specs.RequestWords.Views.{asked_fields}
use Rattle.rpki_requests.proofs.RequestParts.{file_added, joined_added}
use Rattle.rpki_requests.proofs.words.add_word.Goals as goal

pub returns-then-not-is_option-clause-added : goal.returns-then-not-is_option-clause-added
returns-then-not-is_option-clause-added c =
    file_added c.add_file.result (asked_fields c.args.asked.now) (asked_fields c.add_file.new.asked) c.args.word.now
    c.add_file.ensures.added (search rules)

pub returns-in-Some-clause-added : goal.returns-in-Some-clause-added
returns-in-Some-clause-added c =
    joined_added c.add_given.result (asked_fields c.args.asked.now) (asked_fields c.add_given.new.asked)
    c.in-Some.given.setting c.in-Some.given.value.now c.args.word.now c.in-Some.ensures.joined
    c.add_given.ensures.added
