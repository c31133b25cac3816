-- The files that are wrong as a locator's trust anchor.
use Rattle.std.specs.List.{AllByRecursion, AllZip}
use Rattle.std.specs.Prelude.{Any, Ok, Some, slice_get}
use Rattle.std.proofs.Common.{◌≡◌, ◌<◌, ℕ, zero, suc, List, [], ◌∷◌, length, get_or, refl, sym, ap, subst, ◌∙◌, arith}
use Rattle.std.proofs.lemmas.List.{length-map}
use Rattle.std.proofs.lemmas.Option.{slice_get_within}
use Rattle.rpki_cert.specs.Verification.{Context}
use Rattle.rpki_keys.specs.Locators.{NamedTal}
use Rattle.rpki_path.specs.AskedLists.{by_named_lists}
use Rattle.rpki_path.specs.Asking.{RevocationChecks}
use Rattle.rpki_path.specs.LocatedPaths.{BeginsWithKey}
use Rattle.rpki_folder.specs.Folders.{FolderFields, string_at}
use Rattle.rpki_folder.specs.FoundAnchors.{AreWrongAnchors, HasNoValid, IsWrongAnchor}
use Rattle.rpki_folder.specs.Walks.{IsWhyNone}
use Rattle.rpki_folder.specs.declared.anchors.WrongCandidate.{WrongCandidate}
use Rattle.rpki_files.specs.Files.{FileFields, contents}
use Rattle.rpki_verdicts.specs.GivenLocators.{LocatorFields}
use Rattle.rpki_verdicts.specs.Trees.{HasNoAnchor, IsFolderOf, IsWrongOf, TreeFields}
use Rattle.rpki_verdicts.specs.Trees.Steps.{IsCandidateTold}
use Rattle.rpki_verdicts.specs.declared.unordered.WrongAnchor.{WrongAnchor}
use Rattle.rpki_verdicts.proofs.FilesAt.{octets_there}

module _ (certs : List FileFields) where
  -- what is told of a candidate at a place
  any_told : (place : ℕ) (cs : List WrongCandidate) (ws : List WrongAnchor) → AllZip (IsCandidateTold certs) cs ws →
      (k : ℕ) (d : WrongCandidate) → k < length cs → (get_or cs k d).place ≡ place → Any (λ w. w.place ≡ place) ws
  any_told place [] ws told k d low is = absurd (omega (arith, low))
  any_told place (c ∷ cs) [] told k d low is = absurd told
  any_told place (c ∷ cs) (w ∷ ws) told zero d low is = (0, w, omega arith, refl, told.0.place_is ∙ is)
  any_told place (c ∷ cs) (w ∷ ws) told (suc k) d low is =
      let a = any_told place cs ws told.1 k d (omega (arith, low)) is in
      let within = a.2 in
      (suc a.0, a.1, omega (arith, within), a.3, a.4)

  all_stand : (cs : List WrongCandidate) (ws : List WrongAnchor) → AllZip (IsCandidateTold certs) cs ws →
      AllByRecursion (λ w. slice_get certs w.place ≡ Some w.file.now) ws
  all_stand [] [] told = tt
  all_stand [] (w ∷ ws) told = absurd told
  all_stand (c ∷ cs) [] told = absurd told
  all_stand (c ∷ cs) (w ∷ ws) told = (ap (slice_get certs) told.0.place_is ∙ told.0.stands, all_stand cs ws told.1)

  module _ (x : Context) (q : TreeFields) (t : NamedTal) (asked : RevocationChecks) where
    is_wrong : (c : WrongCandidate) (w : WrongAnchor) →
        IsWrongAnchor x asked q.names t (string_at (contents certs) c.place) c.error → IsCandidateTold certs c w →
        IsWrongOf x asked q.names t w.file.now w.fault
    is_wrong c w wrong told =
        let same = octets_there certs c.place w.file.now told.stands in
        record {
          has_key = subst (λ (o : List ℕ). BeginsWithKey t.tal o) same wrong.has_key;
          error = c.error;
          why = subst (λ (o : List ℕ). IsWhyNone x asked q.names t o c.error) same wrong.why;
          reason_is = told.reason_is;
        }

    all_wrong : (cs : List WrongCandidate) (ws : List WrongAnchor) →
        AllByRecursion (λ c. IsWrongAnchor x asked q.names t (string_at (contents certs) c.place) c.error) cs →
        AllZip (IsCandidateTold certs) cs ws → AllByRecursion (λ w. IsWrongOf x asked q.names t w.file.now w.fault) ws
    all_wrong [] [] each told = tt
    all_wrong [] (w ∷ ws) each told = absurd told
    all_wrong (c ∷ cs) [] each told = absurd told
    all_wrong (c ∷ cs) (w ∷ ws) each told = (is_wrong c w each.0 told.0, all_wrong cs ws each.1 told.1)

  -- none is valid
  pub none_found : (x : Context) (q : TreeFields) (l : LocatorFields) (t : NamedTal) (folder : FolderFields) →
      IsFolderOf q.files certs folder → l.read ≡ Ok t
      → (cs : List WrongCandidate) → AreWrongAnchors x (by_named_lists q.names x folder.lists) q.names t folder.certs
      (length folder.certs) cs → HasNoValid x (by_named_lists q.names x folder.lists) q.names t folder.certs
      → (ws : List WrongAnchor) → AllZip (IsCandidateTold certs) cs ws → HasNoAnchor x q l ws
  none_found x q l t folder of read cs are none ws told =
      let asked = by_named_lists q.names x folder.lists in
      let wrong : AreWrongAnchors x asked q.names t (contents certs) (length (contents certs)) cs =
      subst (λ (o : List (List ℕ)). AreWrongAnchors x asked q.names t o (length o) cs) of.octets_are are in
      record {
        certs = certs;
        certs_are = of.certs_are;
        lists = folder.lists;
        lists_are = of.lists_are;
        locator = t;
        locator_is = read;
        wrong_are = all_wrong x q t asked cs ws wrong.each told;
        wrong_stand = all_stand cs ws told;
        all = λ place file is key.
            let within = slice_get_within certs place file is in
            let low : place < length (contents certs) = omega (arith, within, length-map certs (λ (f : FileFields). f.octets)) in
            let any = wrong.all place low (subst (λ (o : List ℕ). BeginsWithKey t.tal o) (sym (octets_there certs place file is)) key) in
            any_told place cs ws told any.0 any.1 any.2 (ap (λ (c : WrongCandidate). c.place) any.3 ∙ any.4);
        none = subst (λ (o : List (List ℕ)). HasNoValid x asked q.names t o) of.octets_are none;
      }
