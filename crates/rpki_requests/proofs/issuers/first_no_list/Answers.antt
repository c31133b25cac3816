use Rattle.std.proofs.Common.{◌<◌, ◌≤◌, length, rules, subst, arith}
use Rattle.std.specs.Prelude.{All}
use Rattle.std.proofs.lemmas.List.{take_all}
use Rattle.std.proofs.lemmas.List.Elements.{All-more}
use Rattle.rpki_files.specs.Contents.{IsList}
use Rattle.rpki_files.specs.Files.{FileFields, contents}
use Rattle.rpki_verdicts.proofs.MappedItems.{mapped_high, mapped_low, mapped_there}
use Rattle.rpki_requests.proofs.issuers.first_no_list.Goals as goal

pub loop-place-preserved : goal.loop-place-preserved
loop-place-preserved c =
    let lists = c.args.lists.now in
    let place = c.loop-place.place in
    let file = c.index-lists-place.result in
    let low : place < length lists = omega arith in
    let begins : IsList file.octets = search rules in
    let here = subst IsList
    (mapped_there (λ (f : FileFields). f.octets) lists place file low c.index-lists-place.is) begins in
    All-more IsList (contents lists) place file.octets (mapped_low (λ (f : FileFields). f.octets) lists place low)
    c.loop-place.invariant here

pub returns : goal.returns
returns c =
    let lists = c.args.lists.now in
    let place = c.loop-place.place in
    let high : length lists ≤ place = omega arith in
    subst (All IsList) (take_all place (contents lists)
    (mapped_high (λ (f : FileFields). f.octets) lists place high)) c.loop-place.invariant
