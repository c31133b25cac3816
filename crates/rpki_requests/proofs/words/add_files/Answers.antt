use Rattle.rpki_requests.specs.RequestWords.Views.{asked_fields}
use Rattle.rpki_requests.proofs.AddedFiles.{files_more}
use Rattle.rpki_requests.proofs.words.add_files.Goals as goal

pub loop-word-preserved : goal.loop-word-preserved
loop-word-preserved c =
    files_more c.args.words.now c.loop-word.word-index c.word-item.result c.loop-word-test.true c.word-item.is
    (asked_fields c.args.asked.now) (asked_fields c.loop-word.asked) _ c.as_slice.result.now
    c.as_slice.ensures.value c.loop-word.invariant c.in_ok-add_file.ensures.added
