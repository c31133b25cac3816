use Rattle.std.proofs.Common.{◌≡◌, ◌∙◌, List, ◌∷◌, length, map, refl, sym, ap, arith}
use Rattle.std.proofs.lemmas.List.{length-map}
use Rattle.std.proofs.lemmas.List.Sorted.{length_permutation}
use Rattle.rpki_cert.specs.Certificates.{IsCertificate}
use Rattle.rpki_der.specs.Values.{IsUnambiguous}
use Rattle.rpki_der.proofs.Formats.{one_meant}
use Rattle.rpki_verdicts.specs.ShownPaths.{named_in, placed_of}
use Rattle.rpki_verdicts.proofs.NamedChoice.{some_choice}
use Rattle.rpki_folder.specs.declared.find.FoundPath.{FoundPath}
use Rattle.rpki_verdicts.specs.declared.shown_paths.RankedPath.{RankedPath}
use Rattle.rpki_verdicts.proofs.OrderedPaths.{IsOneMeant, only_shown, several_shown}
use Rattle.rpki_verdicts.proofs.parts.Trees.shown_paths.Goals as goal

one : IsUnambiguous IsCertificate → IsOneMeant
one unambiguous c d octets m n = one_meant IsCertificate unambiguous c d octets m n

pub returns-then-is_alone : goal.returns-then-is_alone
returns-then-is_alone c =
    let alone = c.is_alone.ensures c.if-is_alone.true in
    only_shown (one c.unambiguous.ensures.certificate) (placed_of c.args.self.now) c.args.tree.now c.args.place
    c.args.paths.now _ alone.0 alone.1 refl c.new-others.ensures.items refl

pub unreachable-requires : goal.unreachable-requires
unreachable-requires c =
    let all = c.in_ok-ranked_choice.field-0.items in
    let ranked = c.in_ok-ranked.ranked.items in
    let paths = c.args.paths.now in
    let none : length ranked ≡ 0 = ap length (sym c.deref.ensures.value) ∙ c.in_default.ensures.cases in
    let long = length_permutation all ranked c.in_ok-ranked.ensures.all in
    let some = sym (length-map all (λ (it : RankedPath). it.path.now)) ∙ ap length c.in_ok-ranked_choice.ensures.paths in
    let least = some_choice c.args.paths.now.first c.args.paths.now.others.items (named_in c.args.tree.now c.args.place) in
    omega (arith, none, long, some, least)

pub returns : goal.returns
returns c =
    let first = c.in-Some.first.now in
    let behind = c.in-Some.behind.now in
    let others = c.in_ok-others.others.items in
    let paths_of : List RankedPath → List FoundPath = λ rs. map (λ it. it.path.now) rs in
    let front = sym c.deref.ensures.value ∙ c.in-Some.ensures.cases.0 in
    let all : paths_of c.in_ok-ranked.ranked.items ≡ first.path.now ∷ map (λ path. path.now) others =
    ap paths_of front ∙ ap (λ (l : List FoundPath). first.path.now ∷ l) (sym c.in_ok-others.ensures) in
    several_shown (one c.unambiguous.ensures.certificate) (placed_of c.args.self.now) c.args.tree.now c.args.place
    c.args.paths.now _ c.in_ok-ranked_choice.field-0.items c.in_ok-ranked.ranked.items
    c.in_ok-ranked_choice.ensures.paths c.in_ok-ranked.ensures.all c.in_ok-ranked_choice.ensures.ranked
    c.in_ok-ranked.ensures.sorted all refl
