use Rattle.rpki_der.specs.Tags.{INTEGER}
use Rattle.rpki_files.specs.Flaws.{IsVersionFlaw, version_flaws}
use Rattle.rpki_files.proofs.FlawReads.{first_inside, none_inside}
use Rattle.rpki_files.proofs.found.in_number.Goals as goal

pub returns-in-Ok : goal.returns-in-Ok
returns-in-Ok c = first_inside INTEGER (λ f n. IsVersionFlaw 2 n f) version_flaws c.fork-ahead.result c.args.at.now
    c.take_value.new.self c.fork-ahead.ensures.same c.in-Ok.content _ c.in-Ok.ensures.answers.encoded
    (rw c.rest.ensures.remaining at c.of_version.ensures)

pub returns-in-Err : goal.returns-in-Err
returns-in-Err c = none_inside INTEGER (λ f n. IsVersionFlaw 2 n f) version_flaws c.fork-ahead.result c.args.at.now
    c.take_value.new.self c.fork-ahead.ensures.same c.in-Err.fault c.in-Err.ensures.answers.encoded
