use Rattle.std.specs.List.{AllZip}
use Rattle.std.specs.Prelude.{Option}
use Rattle.std.proofs.Common.{Bor, ℕ, List, [], ◌∷◌, ◌++◌, subst, sym, take}
use Rattle.rpki_files.specs.declared.bare.BareObject.{BareObject}
use Rattle.rpki_path.proofs.LatestLists.{gone_over}
use Rattle.rpki_verdicts.specs.ShownPaths.{IsNamedIn}
use Rattle.rpki_verdicts.proofs.NamedPlaces.{zip_more}
use Rattle.rpki_verdicts.proofs.named_paths.names_of.Goals as goal

pub loop-file-preserved : goal.loop-file-preserved
loop-file-preserved c = λ all are.
    let R : Bor BareObject → Option ℕ → Type 0 = λ file named. IsNamedIn all file.now.octets named in
    let certs = c.args.certs.now in
    let i = c.loop-file.file-index in
    let one = c.file-item.result in
    subst (λ (cs : List (Bor BareObject)). AllZip R cs c.push.new.self.items)
    (sym (gone_over certs i one c.loop-file-test.true c.file-item.is))
    (subst (λ (ns : List (Option ℕ)). AllZip R (take i certs ++ one ∷ []) ns) (sym c.in_ok-push.ensures.items)
    (zip_more R (take i certs) c.loop-file.names.items one c.in_ok-named_in.field-0 (c.loop-file.invariant all are)
    (c.in_ok-named_in.ensures all are)))
