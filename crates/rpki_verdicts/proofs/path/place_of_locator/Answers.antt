use Rattle.std.proofs.Common.{◌∙◌, ap, subst}
use Rattle.rpki_cert.specs.Certificates.{TbsFields}
use Rattle.rpki_parts.specs.Keys.{KeyFields}
use Rattle.rpki_verdicts.specs.GivenLocators.{HasKeyRead, IsFirstThat, locator_octets}
use Rattle.rpki_verdicts.specs.PathFiles.{QuestionFields}
use Rattle.rpki_verdicts.proofs.FoundLocators.{first_locator, none_of_other}
use Rattle.rpki_verdicts.proofs.path.place_of_locator.Goals as goal

pub returns-in-Some : goal.returns-in-Some
returns-in-Some c = λ anchor more is.
    let q = c.args.question.now in
    let cert = c.in-Some.cert.now in
    let begins = c.in-Some.ensures anchor more is in
    let key_is = c.subject_public_key_info.ensures ∙ ap (λ (f : TbsFields). f.key) c.as_tbs.ensures in
    let of_key = subst (λ (k : KeyFields). IsFirstThat (HasKeyRead k) c.question.inside.locators.now
    c.place_of_key.result) key_is c.place_of_key.ensures in
    let found = subst (λ (f : QuestionFields). IsFirstThat (HasKeyRead cert.fields.key) f.locators c.place_of_key.result)
    c.question.view_is of_key in
    first_locator c.unambiguous.ensures.certificate c.unambiguous-2.ensures q.strict anchor cert begins q.locators
    c.requires c.place_of_key.result found

pub returns-in-None : goal.returns-in-None
returns-in-None c = λ anchor more is.
    none_of_other c.args.question.now.strict anchor (locator_octets c.args.question.now.locators) (c.in-None.ensures anchor more is)
