use Rattle.std.proofs.Common.{◌||◌, ◌≡◌, ◌∙◌, ◌+◌, ◌++◌, arith, Bool, List, ℕ, ap, map-id, rules, subst, sym}
use Rattle.std.specs.Bool.{MatchBool}
use Rattle.std.proofs.lemmas.Iterator.Adapters.{YieldsList-from_vec}
use Rattle.std.proofs.lemmas.Iterator.Consumers.{YieldsList-end}
use Rattle.std.proofs.lemmas.List.{map-append}
use Rattle.rpki_text.specs.CommandLines.Views.{word_octets}
use Rattle.rpki_command.specs.ListedFolders.{AreOpened, StandFor, StandsForItself, is_folder_name}
use Rattle.rpki_command.proofs.ListedNames.{opened_more}
use Rattle.rpki_command.proofs.WrittenTexts.{appends_both}
use Rattle.rpki_command.proofs.folders.level.Goals as goal

pub loop-name-preserved : goal.loop-name-preserved
loop-name-preserved g c =
    let lists = g.F.FileSource.lists c.args.files.now in
    let contents = g.E.Write.contents in
    let opens : List ℕ → Bool = λ name. c.args.is_first || is_folder_name name in
    let name = c.in-Some.name.items in
    let (passed, said, so_far, count, appended) = c.loop-name.invariant in
    let (its, of_it, line, stands, are, counted, told) = c.in_ok-further.ensures in
    let as_told : c.may_be_folder-opens.result ≡ opens name = c.may_be_folder-opens.ensures ∙ ap opens c.as_slice.ensures.value in
    let one = subst (λ (b : Bool). MatchBool b (StandFor lists name its of_it line) (StandsForItself name its of_it line)) as_told stands in
    let more = opened_more lists opens (word_octets c.loop-name.yielded) (word_octets c.loop-name.opened.items) passed
    said name its of_it line so_far one in (
      passed + of_it,
      said ++ line,
      rw (are, map-append) more,
      omega (arith, count, counted),
      appends_both (contents c.args.err.now) (contents c.loop-name.err) (contents c.push_name.new.err) said line
          appended told,
    )

pub returns : goal.returns
returns g c =
    let lists = g.F.FileSource.lists c.args.files.now in
    let opens : List ℕ → Bool = λ name. c.args.is_first || is_folder_name name in
    let given = YieldsList-from_vec {s = c.into_iter-name-iterator.result} c.args.names.all.items (search rules) (search rules) in
    let end = YieldsList-end given c.loop-name.yielded c.loop-name.name-iterator c.loop-name.yielded_by c.next.result
    c.next.new.self c.in-None.is c.next.ensures.steps in
    let all : c.loop-name.yielded ≡ c.args.names.all.items = sym (map-id c.loop-name.yielded) ∙ end.0 in
    let (passed, said, so_far, count, appended) = c.loop-name.invariant in (
      passed,
      said,
      subst (λ ys. AreOpened lists opens (word_octets ys) (word_octets c.loop-name.opened.items) passed
          said) all so_far,
      count,
      appended,
    )
