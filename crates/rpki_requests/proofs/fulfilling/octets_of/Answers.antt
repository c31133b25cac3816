use Rattle.std.proofs.Common.{◌≡◌, ◌++◌, ◌∷◌, [], ℕ, List, rules, take, sym, ap, ◌∙◌}
use Rattle.rpki_files.specs.Files.{contents}
use Rattle.rpki_path.proofs.LatestLists.{gone_over}
use Rattle.rpki_verdicts.proofs.MappedItems.{mapped_low, mapped_there}
use Rattle.rpki_requests.proofs.fulfilling.octets_of.Goals as goal

pub loop-file-preserved : goal.loop-file-preserved
loop-file-preserved c =
    let files = c.args.files.now in
    let i = c.loop-file.file-index in
    let file = c.file-item.result in
    let low = c.loop-file-test.true in
    let more = gone_over (contents files) i file.octets (mapped_low (λ file. file.octets) files i low)
    (mapped_there (λ file. file.octets) files i file low c.file-item.is) in
    let same : c.in_ok-octets.octets ≡ file.octets = search rules in
    c.in_ok-push.ensures.items ∙ ap (λ (l : List (List ℕ)). l ++ c.in_ok-octets.octets ∷ []) c.loop-file.invariant ∙
    ap (λ (o : List ℕ). take i (contents files) ++ o ∷ []) same ∙ sym more
