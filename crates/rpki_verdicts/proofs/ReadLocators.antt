-- The first of the files given as locators that is none, by what was read of each.
use Rattle.std.specs.Option.{option_map}
use Rattle.std.specs.Prelude.{All, Some, Result, Ok, Err, slice_get}
use Rattle.std.proofs.Common.{◌≡◌, ◌<◌, ◌≤◌, ℕ, Bool, List, [], length, sym, ap, subst, ◌∙◌, arith}
use Rattle.std.proofs.lemmas.List.Elements.{All-get_or, All-from_get_or}
use Rattle.std.proofs.lemmas.Option.{slice_get-map, slice_get-get_or, slice_get_within, get_or_from_slice_get}
use Rattle.rpki_keys.specs.Locators.{NamedTal}
use Rattle.rpki_keys.specs.declared.tal.tal_error.TalError.{TalError}
use Rattle.rpki_verdicts.specs.Reasons.{tal_reason}
use Rattle.rpki_files.specs.Files.{FileFields}
use Rattle.rpki_files.specs.LocatorFiles.{AreLocator, IsReadAs}
use Rattle.rpki_verdicts.specs.GivenLocators.{LocatorFields, locator_files, locator_octets, IsRead}
use Rattle.rpki_verdicts.specs.PathAnswers.{reason_of, IsNoLocator}
use Rattle.rpki_verdicts.specs.declared.path.Fault.{Fault}
use Rattle.rpki_verdicts.proofs.FirstItems.{imaged}

-- the octets of a file
octets_at : (locators : List LocatorFields) (k : ℕ) (l : LocatorFields) → slice_get locators k ≡ Some l →
    slice_get (locator_octets locators) k ≡ Some l.file.octets
octets_at locators k l is =
    slice_get-map (λ (file : FileFields). file.octets) (locator_files locators) k
    ∙ ap (option_map (λ (file : FileFields). file.octets))
    (slice_get-map (λ (l : LocatorFields). l.file) locators k ∙ ap (option_map (λ (l : LocatorFields). l.file))
    is)

-- the file with these octets
file_of : (locators : List LocatorFields) (k : ℕ) (octets : List ℕ) →
    slice_get (locator_octets locators) k ≡ Some octets → (l : LocatorFields) × (slice_get locators k ≡ Some l) ×
    (l.file.octets ≡ octets)
file_of locators k octets is =
    let file = imaged (λ (file : FileFields). file.octets) (slice_get (locator_files locators) k) octets
    (sym (slice_get-map (λ (file : FileFields). file.octets) (locator_files locators) k) ∙ is) in
    let l = imaged (λ (l : LocatorFields). l.file) (slice_get locators k) file.0
    (sym (slice_get-map (λ (l : LocatorFields). l.file) locators k) ∙ file.1) in
    (l.0, l.1, ap (λ (f : FileFields). f.octets) l.2 ∙ file.2)

module _ (strict : Bool) (locators : List LocatorFields) where
  -- each of them is a locator
  pub all_locators : (n : ℕ) →
      ((k : ℕ) → k < n → (l : LocatorFields) → slice_get locators k ≡ Some l → AreLocator strict l.file.octets) →
      length locators ≤ n → All (AreLocator strict) (locator_octets locators)
  all_locators n each high = All-from_get_or (AreLocator strict) (locator_octets locators) [] (λ i low.
      let there = file_of locators i _ (slice_get-get_or (locator_octets locators) i [] low) in
      let within = slice_get_within locators i there.0 there.1 in
      subst (AreLocator strict) there.2 (each i (omega (arith, within, high)) there.0 there.1))

  module _ (read : All (IsRead strict) locators) (k : ℕ) (l : LocatorFields) (is : slice_get locators k ≡ Some l) where
    pub read_at : IsReadAs strict l.file.octets l.read
    read_at = subst (IsRead strict) (get_or_from_slice_get locators k l l is)
        (All-get_or (IsRead strict) locators k l (slice_get_within locators k l is) read)

    -- one that was read is a locator
    pub is_locator : (t : NamedTal) → l.read ≡ Ok t → AreLocator strict l.file.octets
    is_locator t was = (t.tal, subst (λ (r : Result NamedTal TalError). IsReadAs strict l.file.octets r) was read_at)

    -- one that wasn't, behind locators, is the first that is none, and the fault says why
    pub no_locator : (e : TalError) (fault : Fault) → l.read ≡ Err e → fault.index ≡ k →
        reason_of fault ≡ tal_reason e →
        ((j : ℕ) → j < k → (o : LocatorFields) → slice_get locators j ≡ Some o → AreLocator strict o.file.octets) →
        IsNoLocator strict (locator_octets locators) fault
    no_locator e fault was place reason each =
        let why = subst (λ (r : Result NamedTal TalError). IsReadAs strict l.file.octets r) was read_at in
        record {
          octets = l.file.octets;
          octets_are = ap (slice_get (locator_octets locators)) place ∙ octets_at locators k l is;
          no_locator = why.2;
          earlier = λ j before low is.
              let there = file_of locators j before is in
              subst (AreLocator strict) there.2 (each j (omega (arith, low, place)) there.0 there.1);
          error = e;
          error_is = why.1;
          reason_is = reason;
        }
