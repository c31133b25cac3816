use Rattle.std.proofs.Common.{Result, ℕ, List, subst, ◌∙◌}
use Rattle.rpki_keys.specs.Locators.{IsLocator, NamedTal}
use Rattle.rpki_keys.specs.declared.tal.tal_error.TalError.{TalError}
use Rattle.rpki_files.specs.LocatorFiles.{IsReadAs, IsWhyNoLocator}
use Rattle.rpki_answers.proofs.showing.subjects.subject_of_none.Goals as goal

pub returns-in-Ok : goal.returns-in-Ok
returns-in-Ok c =
    let strict = c.args.strict in
    let octets = c.as_slice-octets.ensures ∙ c.octets.ensures in
    let read = subst (λ (r : Result NamedTal TalError). IsReadAs strict c.as_slice-octets.result.now r) c.in-Ok.is
    c.in_ok-tal.ensures.read in
    (c.requires.none, subst (λ (l : List ℕ). IsLocator strict c.in-Ok.tal.tal l) octets read)

pub returns-in-Err : goal.returns-in-Err
returns-in-Err c =
    let strict = c.args.strict in
    let octets = c.as_slice-octets.ensures ∙ c.octets.ensures in
    let read = subst (λ (r : Result NamedTal TalError). IsReadAs strict c.as_slice-octets.result.now r) c.in-Err.is
    c.in_ok-tal.ensures.read in
    c.other_subject.ensures strict (subst (λ (l : List ℕ). IsWhyNoLocator strict l c.in-Err.error) octets read)
