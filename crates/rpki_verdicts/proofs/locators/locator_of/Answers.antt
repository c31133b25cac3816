use Rattle.std.proofs.Common.{ap, ◌∙◌}
use Rattle.rpki_cert.specs.Certificates.{TbsFields}
use Rattle.rpki_verdicts.proofs.TreeAnchors.{anchor_found, none_found, none_of_no_certificate}
use Rattle.rpki_verdicts.proofs.locators.locator_of.Goals as goal

pub returns-in-Some-clause-found : goal.returns-in-Some-clause-found
returns-in-Some-clause-found c =
    let begins = rw c.in-Some.is at c.in_ok-cert.ensures in
    let key_is = c.subject_public_key_info.ensures ∙ ap (λ (f : TbsFields). f.key) c.as_tbs.ensures in
    anchor_found c.args.locators.now c.args.file.now c.in-Some.cert begins c.subject_public_key_info.result.now key_is
    (λ t. t.now) c.tal_of_key-found.result c.tal_of_key-found.ensures.found

pub returns-in-Some-clause-none : goal.returns-in-Some-clause-none
returns-in-Some-clause-none c =
    let begins = rw c.in-Some.is at c.in_ok-cert.ensures in
    let key_is = c.subject_public_key_info.ensures ∙ ap (λ (f : TbsFields). f.key) c.as_tbs.ensures in
    none_found c.args.locators.now c.args.file.now c.in-Some.cert begins c.subject_public_key_info.result.now key_is
    c.unambiguous.ensures.certificate c.tal_of_key-found.result c.tal_of_key-found.ensures.none

pub returns-in-None-clause-none : goal.returns-in-None-clause-none
returns-in-None-clause-none c =
    let never = rw c.in-None.is at c.in_ok-cert.ensures in
    none_of_no_certificate c.args.locators.now c.args.file.now (λ cert begins. never (cert, begins))
