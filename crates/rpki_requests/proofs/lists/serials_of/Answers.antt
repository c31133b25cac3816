use Rattle.std.specs.List.{AllZip}
use Rattle.std.proofs.Common.{◌≡◌, ◌+◌, ◌<◌, ◌≤◌, ◌++◌, ◌∷◌, [], ℕ, List, get_or, inl, inr, length, map, refl}
use Rattle.std.proofs.Common.{rules, sym, ap, subst, ◌∙◌, arith}
use Rattle.std.proofs.lemmas.List.{get_or-map, take-map, take_all}
use Rattle.std.proofs.lemmas.Result.{err_from_is_err_and}
use Rattle.rpki_files.specs.Files.{FileFields, contents}
use Rattle.rpki_issuing.specs.OnlyValues.{IsOnly}
use Rattle.rpki_issuing.proofs.ZippedTexts.{only_none}
use Rattle.rpki_verdicts.proofs.MappedItems.{mapped_low}
use Rattle.rpki_requests.specs.RequestFiles.{IsRevokedFile}
use Rattle.rpki_requests.specs.ToldRefusals.{IsFirstOther}
use Rattle.rpki_requests.proofs.PlaceByPlace.{AreOnlySoFar, none_there, one_on}
use Rattle.rpki_requests.proofs.lists.serials_of.Goals as goal

pub loop-place-init : goal.loop-place-init
loop-place-init c =
    let none : c.new-serials.result.items ≡ [] = search rules in
    subst (λ (vs : List ℕ). AreOnlySoFar (IsRevokedFile c.args.issuer.now) (λ (f : FileFields). f.octets)
    c.args.files.now 0 vs) (sym none) (only_none (IsRevokedFile c.args.issuer.now))

pub returns-in_err-push : goal.returns-in_err-push
returns-in_err-push c =
    let gives = err_from_is_err_and c.from_residual.result c.from_residual.ensures.1 in
    rw (gives.1, gives.2) (inl refl, λ not. absurd (not refl))

pub returns-in_default : goal.returns-in_default
returns-in_default c =
    let R = IsRevokedFile c.args.issuer.now in
    let octets = λ (f : FileFields). f.octets in
    let files = c.args.files.now in
    let place = c.loop-place.place in
    let file = c.index-files-place.result in
    let low : place < length files = omega arith in
    let before = c.loop-place.serials.items in
    let there : file.octets ≡ get_or (contents files) place [] =
    ap octets c.index-files-place.is ∙ sym (get_or-map octets files place file [] low) in
    let first : IsFirstOther c.args.issuer.now (contents files) place = record {
      low = mapped_low octets files place low;
      before = before;
      before_are = subst (λ (l : List (List ℕ)). AllZip R before l) (sym (take-map octets place files))
          c.loop-place.invariant.0;
      other = λ serial is. c.in_default.ensures serial (subst (λ (l : List ℕ). R serial l) (sym there) is);
    } in (
      inr (place, refl, first),
      λ not. none_there R octets files place file low c.index-files-place.is
          c.in_default.ensures,
    )

pub loop-place-preserved : goal.loop-place-preserved
loop-place-preserved c =
    let R = IsRevokedFile c.args.issuer.now in
    let files = c.args.files.now in
    let low : c.loop-place.place < length files = omega arith in
    let serials = c.loop-place.serials.items in
    let pushed : c.push.new.serials.items ≡ serials ++ c.in-Some.serial ∷ [] = c.in_ok-push.ensures in
    subst (λ (vs : List ℕ). AreOnlySoFar R (λ (f : FileFields). f.octets) files (c.loop-place.place + 1) vs)
    (sym pushed)
    (one_on R (λ (f : FileFields). f.octets) files c.loop-place.place c.index-files-place.result serials
    c.in-Some.serial low c.index-files-place.is c.loop-place.invariant c.in-Some.ensures)

pub returns : goal.returns
returns c =
    let R = IsRevokedFile c.args.issuer.now in
    let high : length c.args.files.now ≤ c.loop-place.place = omega arith in
    subst (λ (l : List FileFields). IsOnly (λ vs. AllZip R vs (map (λ (f : FileFields). f.octets) l))
    c.loop-place.serials.items) (take_all c.loop-place.place c.args.files.now high) c.loop-place.invariant
