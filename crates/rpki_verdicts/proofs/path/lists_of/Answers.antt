use Rattle.std.proofs.Common.{◌+◌, List, take, sym, subst}
use Rattle.rpki_crl.specs.Lists.{CrlFields, CrlState, IsCertificateList}
use Rattle.rpki_files.specs.Contents.{IsList}
use Rattle.rpki_verdicts.specs.PathFiles.{AreListsOf}
use Rattle.rpki_files.specs.Files.{contents}
use Rattle.rpki_verdicts.proofs.ReadLists.{next_same, next_more, all_lists}
use Rattle.rpki_verdicts.proofs.MappedItems.{mapped_low, mapped_high, mapped_there}
use Rattle.rpki_verdicts.proofs.path.lists_of.Goals as goal

pub loop-file-preserved-in_default : goal.loop-file-preserved-in_default
loop-file-preserved-in_default c =
    let files = c.args.files.now in
    let i = c.loop-file.file-index in
    let octets = c.file-item.result.octets in
    let none : IsList octets → ⊥ = rw c.in_default.is at c.whole_list.ensures in
    next_same (contents files) c.loop-file.all.items i octets
    (mapped_low (λ file. file.octets) files i c.loop-file-test.true)
    (mapped_there (λ file. file.octets) files i c.file-item.result c.loop-file-test.true c.file-item.is)
    c.loop-file.invariant none

pub loop-file-preserved : goal.loop-file-preserved
loop-file-preserved c =
    let files = c.args.files.now in
    let i = c.loop-file.file-index in
    let octets = c.file-item.result.octets in
    let kept : CrlState = c.in_ok-kept.kept in
    let is = rw c.in-Some.is at c.whole_list.ensures in
    let kept_is = subst (λ (l : CrlFields). IsCertificateList l octets) (sym c.in_ok-kept.ensures.same) is in
    subst (λ (all : List CrlState). AreListsOf (take (i + 1) (contents files)) all) (sym c.in_ok-push.ensures.items)
    (next_more (contents files) c.loop-file.all.items i octets
    (mapped_low (λ file. file.octets) files i c.loop-file-test.true)
    (mapped_there (λ file. file.octets) files i c.file-item.result c.loop-file-test.true c.file-item.is)
    c.loop-file.invariant kept kept_is c.in_ok-kept.ensures.cached)

pub returns : goal.returns
returns c =
    let files = c.args.files.now in
    all_lists (contents files) c.loop-file.all.items c.loop-file.file-index
    (mapped_high (λ file. file.octets) files c.loop-file.file-index c.loop-file-test.false)
    c.loop-file.invariant
