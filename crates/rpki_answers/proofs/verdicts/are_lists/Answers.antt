use Rattle.rpki_files.specs.Contents.{IsList}
use Rattle.rpki_files.specs.Files.{contents}
use Rattle.rpki_answers.proofs.FlaggedItems.{flag_of_more, flag_of_all}
use Rattle.rpki_verdicts.proofs.MappedItems.{mapped_low, mapped_high, mapped_there}
use Rattle.rpki_answers.proofs.verdicts.are_lists.Goals as goal

pub loop-object-preserved : goal.loop-object-preserved
loop-object-preserved c =
    let l = c.loop-object in
    let lists = c.args.lists.now in
    let low = c.loop-object-test.true in
    let file = c.object-item.result in
    flag_of_more IsList (contents lists) l.object-index file.octets
    (mapped_low (λ file. file.octets) lists l.object-index low)
    (mapped_there (λ file. file.octets) lists l.object-index file low c.object-item.is) l.are_lists
    c.is_list-are_lists.result l.invariant c.is_list-are_lists.ensures

pub returns : goal.returns
returns c =
    let l = c.loop-object in
    let lists = c.args.lists.now in
    flag_of_all IsList (contents lists) l.object-index
    (mapped_high (λ file. file.octets) lists l.object-index c.loop-object-test.false) l.are_lists l.invariant
