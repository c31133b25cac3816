use Rattle.std.proofs.Common.{◌+◌, ℕ, List, arith, take, sym, subst}
use Rattle.rpki_files.specs.Files.{FileFields}
use Rattle.rpki_path.proofs.LatestLists.{gone_over}
use Rattle.rpki_verdicts.specs.Damage.{AreSoMany, IsBrokenList}
use Rattle.rpki_verdicts.proofs.CountedFiles.{all_counted, none_counted, one_counted}
use Rattle.rpki_verdicts.proofs.damage.count_broken_lists.Goals as goal
use Rattle.rpki_verdicts.proofs.damage.count_broken_lists.Goals.{then-is_broken_list, else-is_broken_list}

pub loop-file-preserved : goal.loop-file-preserved
loop-file-preserved c =
    let files = c.args.files.now in
    let i = c.loop-file.file-index in
    let file = c.file-item.result in
    let seen = sym (gone_over files i file c.loop-file-test.true c.file-item.is) in
    elim c.if-is_broken_list.branch [
      | then-is_broken_list w ↦ record {
        counted =
            subst (λ (n : ℕ). AreSoMany IsBrokenList (take (i + 1) files) n) (sym w.count-is)
            (subst (λ (l : List FileFields). AreSoMany IsBrokenList l (c.loop-file.count + 1)) seen
            (one_counted IsBrokenList (take i files) file c.loop-file.count c.is_broken_list.result
            c.is_broken_list.ensures c.loop-file.invariant.counted w.if-is_broken_list.true));
        few = omega (arith, w.count-is, c.loop-file.invariant.few);
      }
      | else-is_broken_list w ↦ record {
        counted =
            subst (λ (n : ℕ). AreSoMany IsBrokenList (take (i + 1) files) n) (sym w.count-is)
            (subst (λ (l : List FileFields). AreSoMany IsBrokenList l c.loop-file.count) seen
            (none_counted IsBrokenList (take i files) file c.loop-file.count c.is_broken_list.result
            c.is_broken_list.ensures c.loop-file.invariant.counted w.if-is_broken_list.false));
        few = omega (arith, w.count-is, c.loop-file.invariant.few);
      }
    ]

pub returns : goal.returns
returns c = all_counted IsBrokenList c.args.files.now c.loop-file.file-index c.loop-file.count c.loop-file-test.false
    c.loop-file.invariant.counted
