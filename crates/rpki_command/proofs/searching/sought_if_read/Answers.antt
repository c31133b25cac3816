use Rattle.std.proofs.Common.{refl, sym}
use Rattle.std.proofs.lemmas.List.{length-map}
use Rattle.rpki_verdicts.specs.GivenLocators.{locator_files}
use Rattle.rpki_command.proofs.searching.sought_if_read.Goals as goal

pub returns-clause-gives : goal.returns-clause-gives
returns-clause-gives g c =
    let names_are = c.deref-else-not-is_first_read.ensures.value in
    let first = c.is_first_read.ensures.0 c.if-not-is_first_read.false in
    let count = sym (length-map c.args.locators.now (λ locator. locator.file)) in
    let read = c.are_read.ensures (locator_files c.args.locators.now) (rw names_are c.requires.locators_are) count in
    let locators = read.0 c.if-not-are_read.false in
    let all_read = c.are_all_read-are_all_read.ensures c.args.files.now c.args.lists.now c.args.locators.now c.requires refl refl refl in
    ((rw c.deref.ensures.value at first, rw names_are at locators), c.in_ok-sought.ensures.sought, rw c.in_ok-sought.ensures.read all_read)
