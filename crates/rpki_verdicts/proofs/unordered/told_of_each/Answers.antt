use Rattle.std.specs.List.{AllZip}
use Rattle.std.proofs.Common.{◌<◌, List, [], ◌∷◌, ◌++◌, length, map, subst, sym, take}
use Rattle.std.proofs.lemmas.List.{take_all}
use Rattle.std.proofs.lemmas.List.Elements.{All-from_recursion}
use Rattle.rpki_folder.specs.declared.anchors.WrongCandidate.{WrongCandidate}
use Rattle.rpki_path.proofs.LatestLists.{gone_over}
use Rattle.rpki_verdicts.specs.Trees.Steps.{IsCandidateTold}
use Rattle.rpki_verdicts.specs.declared.unordered.WrongAnchor.{WrongAnchor}
use Rattle.rpki_verdicts.proofs.unordered.told_of_each.Goals as goal

one_more : (R : WrongCandidate → WrongAnchor → Type 0) (cs : List WrongCandidate) (ws : List WrongAnchor)
    (c : WrongCandidate) (w : WrongAnchor) → AllZip R cs ws → R c w → AllZip R (cs ++ c ∷ []) (ws ++ w ∷ [])
one_more R [] [] c w zip one = (one, tt)
one_more R [] (v ∷ ws) c w zip one = absurd zip
one_more R (b ∷ cs) [] c w zip one = absurd zip
one_more R (b ∷ cs) (v ∷ ws) c w zip one = (zip.0, one_more R cs ws c w zip.1 one)

pub told_of-requires : goal.told_of-requires
told_of-requires c =
    let candidates = c.args.candidates.now in
    let one = c.candidate-item.result in
    subst (λ (w : WrongCandidate). w.place < length c.args.certs.now) (sym c.candidate-item.is)
    (All-from_recursion (λ w. w.place < length c.args.certs.now) candidates c.requires
    c.loop-candidate.candidate-index one c.loop-candidate-test.true)

pub loop-candidate-preserved : goal.loop-candidate-preserved
loop-candidate-preserved c =
    let R = IsCandidateTold (map (λ f. f.now) c.args.certs.now) in
    let candidates = c.args.candidates.now in
    let i = c.loop-candidate.candidate-index in
    let one = c.candidate-item.result in
    subst (λ (cs : List WrongCandidate). AllZip R cs c.push.new.self.items)
    (sym (gone_over candidates i one c.loop-candidate-test.true c.candidate-item.is))
    (subst (λ (ws : List WrongAnchor). AllZip R (take i candidates ++ one ∷ []) ws) (sym c.in_ok-push.ensures.items)
    (one_more R (take i candidates) c.loop-candidate.wrong.items one c.in_ok-told_of.field-0
    c.loop-candidate.invariant c.in_ok-told_of.ensures))

pub returns : goal.returns
returns c =
    let R = IsCandidateTold (map (λ f. f.now) c.args.certs.now) in
    subst (λ (cs : List WrongCandidate). AllZip R cs c.loop-candidate.wrong.items)
    (take_all c.loop-candidate.candidate-index c.args.candidates.now c.loop-candidate-test.false)
    c.loop-candidate.invariant
