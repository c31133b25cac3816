use Rattle.std.proofs.Common.{◌+◌, ℕ, List, arith, take, sym, subst}
use Rattle.rpki_files.specs.Files.{FileFields}
use Rattle.rpki_path.proofs.LatestLists.{gone_over}
use Rattle.rpki_verdicts.specs.Damage.{AreSoMany, IsUnknownFile}
use Rattle.rpki_verdicts.proofs.CountedFiles.{all_counted, none_counted, one_counted}
use Rattle.rpki_verdicts.proofs.damage.count_others.Goals as goal
use Rattle.rpki_verdicts.proofs.damage.count_others.Goals.{then-is_other, else-is_other}

pub loop-file-preserved : goal.loop-file-preserved
loop-file-preserved c =
    let files = c.args.files.now in
    let i = c.loop-file.file-index in
    let file = c.file-item.result in
    let seen = sym (gone_over files i file c.loop-file-test.true c.file-item.is) in
    elim c.if-is_other.branch [
      | then-is_other w ↦ record {
        counted =
            subst (λ (n : ℕ). AreSoMany IsUnknownFile (take (i + 1) files) n) (sym w.count-is)
            (subst (λ (l : List FileFields). AreSoMany IsUnknownFile l (c.loop-file.count + 1)) seen
            (one_counted IsUnknownFile (take i files) file c.loop-file.count c.is_other.result c.is_other.ensures
            c.loop-file.invariant.counted w.if-is_other.true));
        few = omega (arith, w.count-is, c.loop-file.invariant.few);
      }
      | else-is_other w ↦ record {
        counted =
            subst (λ (n : ℕ). AreSoMany IsUnknownFile (take (i + 1) files) n) (sym w.count-is)
            (subst (λ (l : List FileFields). AreSoMany IsUnknownFile l c.loop-file.count) seen
            (none_counted IsUnknownFile (take i files) file c.loop-file.count c.is_other.result c.is_other.ensures
            c.loop-file.invariant.counted w.if-is_other.false));
        few = omega (arith, w.count-is, c.loop-file.invariant.few);
      }
    ]

pub returns : goal.returns
returns c = all_counted IsUnknownFile c.args.files.now c.loop-file.file-index c.loop-file.count c.loop-file-test.false
    c.loop-file.invariant.counted
