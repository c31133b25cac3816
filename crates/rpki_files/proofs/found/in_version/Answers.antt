use Rattle.rpki_der.specs.Tags.{CONTEXT_CONSTRUCTED, INTEGER}
use Rattle.rpki_files.specs.Flaws.{Encloses, IsVersionFlaw, version_flaws}
use Rattle.rpki_files.proofs.FlawReads.{first_inside, none_inside}
use Rattle.rpki_files.proofs.found.in_version.Goals as goal

pub returns-in-Ok : goal.returns-in-Ok
returns-in-Ok c = first_inside (CONTEXT_CONSTRUCTED 0) (λ f. Encloses INTEGER (λ n. IsVersionFlaw 2 n f))
    version_flaws c.fork-ahead.result c.args.at.now c.take_value.new.self c.fork-ahead.ensures.same c.in-Ok.inside
    _ c.in-Ok.ensures.answers.encoded c.in_number.ensures

pub returns-in-Err : goal.returns-in-Err
returns-in-Err c = none_inside (CONTEXT_CONSTRUCTED 0) (λ f. Encloses INTEGER (λ n. IsVersionFlaw 2 n f))
    version_flaws c.fork-ahead.result c.args.at.now c.take_value.new.self c.fork-ahead.ensures.same c.in-Err.fault
    c.in-Err.ensures.answers.encoded
