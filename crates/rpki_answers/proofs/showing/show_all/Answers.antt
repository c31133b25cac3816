use Rattle.std.specs.Prelude.{All, IsTrue}
use Rattle.std.proofs.Common.{rules, ◌≡◌, ◌↔◌, ◌&&◌, ◌∷◌, ◌++◌, List, string_bytes, refl, sym, subst}
use Rattle.rpki_files.specs.ToBeSigned.{CanBeShown}
use Rattle.rpki_files.specs.Files.{FileFields, contents}
use Rattle.rpki_answers.specs.ShownFiles.{Grows, IsTextOfFiles}
use Rattle.rpki_answers.proofs.GrownLists.{then_grown}
use Rattle.rpki_answers.proofs.ShownFiles.{flag_of_first}
use Rattle.rpki_answers.proofs.showing.show_all.Goals as goal

pub returns-clause-shows : goal.returns-clause-shows
returns-clause-shows c =
    let first = c.in-Some.first.now in
    let more = c.in-Some.more.now in
    let parts : c.args.objects.now ≡ first ∷ more = search rules in
    let is_first = c.in_ok-is_first.is_first in
    let are_more = c.in_ok-are_more.are_more in
    let Shows = CanBeShown c.args.options.now.strict in
    subst (λ (files : List FileFields). IsTrue (are_more && is_first) ↔ All Shows (contents files)) (sym parts)
    (flag_of_first Shows first.octets (contents more) is_first are_more c.in_ok-is_first.ensures.shows
    c.in_ok-are_more.ensures.shows)

pub returns-clause-text : goal.returns-clause-text
returns-clause-text c =
    let o = c.args.options.now in
    let first = c.in-Some.first.now in
    let more = c.in-Some.more.now in
    let parts : c.args.objects.now ≡ first ∷ more = search rules in
    let one = c.in_ok-is_first.ensures.text in
    let others = c.in_ok-are_more.ensures.text in
    subst (λ (files : List FileFields). Grows (IsTextOfFiles o files) (string_bytes c.args.out.now)
    (string_bytes c.show_more.new.out)) (sym parts)
    (one.0 ++ others.0, (one.0, others.0, one.1, others.1, refl), then_grown _ _ _ one.0 others.0 one.2 others.2)
