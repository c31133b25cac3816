-- What has a valid path through a folder has one without a circle.
use Rattle.std.specs.List.{AllZip}
use Rattle.std.specs.Prelude.{Bool, None, Ok}
use Rattle.std.proofs.Common.{◌≡◌, ◌⊎◌, ◌+◌, ◌<◌, ◌≤◌, ℕ, zero, suc, List, [], ◌∷◌, ◌++◌, length, take, drop, refl}
use Rattle.std.proofs.Common.{inl, inr, arith}
use Rattle.rpki_der.specs.Values.{IsUnambiguous}
use Rattle.rpki_cert.specs.Certificates.{IsCertificate}
use Rattle.rpki_cert.specs.Verification.{Context, ResourceFields}
use Rattle.rpki_cert.specs.SaidKinds.{BeginsWithKind}
use Rattle.rpki_cert.specs.declared.inspect.Kind.{Kind}
use Rattle.rpki_cert.specs.declared.inspect.Kind.TheVariants.{Anchor, Authority, EndEntity, Detached, Router}
use Rattle.rpki_path.specs.declared.judging.Judged.{Judged}
use Rattle.rpki_keys.specs.Locators.{NamedTal}
use Rattle.rpki_path.specs.Asking.{RevocationChecks}
use Rattle.rpki_path.specs.Paths.{Candidate, candidate, IsMember, Member, last}
use Rattle.rpki_path.specs.Repeats.{AsksByEntity, HasNoRepeat, IsWalkable, without}
use Rattle.rpki_path.proofs.ComparedIssuers.{Repeat, told_repeat}
use Rattle.rpki_path.proofs.CutPaths.{cut_length, cut_walkable, one_entity_alike}
use Rattle.rpki_folder.specs.Folders.{cas_at, string_at}
use Rattle.rpki_folder.specs.Walks.{LeadsBy, LeadsTo, IsAcceptedAs, IsReached, at_anchor, Told, IsTold, TellsFrom}
use Rattle.rpki_folder.specs.Walks.{Covers}
use Rattle.rpki_folder.specs.declared.bounds.Ended.{Ended}
use Rattle.rpki_folder.specs.declared.bounds.Ended.TheVariants.{Whole, TooDeep, OutOfSteps}
use Rattle.rpki_folder.proofs.HeldSets.{held}
use Rattle.rpki_folder.proofs.LookedPaths.{all_looked, zip_length}

module _ (certs : List (List ℕ)) (end : Candidate) where
  -- without the first members, and without some between
  zip_drop : (ms : List Member) (places : List ℕ) (j : ℕ) → j ≤ length places →
      AllZip IsMember ms (cas_at certs places ++ end ∷ []) →
      AllZip IsMember (drop j ms) (cas_at certs (drop j places) ++ end ∷ [])
  zip_drop ms places zero low h = h
  zip_drop ms [] (suc j) low h = absurd (omega (arith, low))
  zip_drop [] (p ∷ places) (suc j) low h = absurd h
  zip_drop (m ∷ ms) (p ∷ places) (suc j) low h = zip_drop ms places j (omega (arith, low)) h.1

  zip_cut : (ms : List Member) (places : List ℕ) (i j : ℕ) → i ≤ j → j ≤ length places →
      AllZip IsMember ms (cas_at certs places ++ end ∷ []) →
      AllZip IsMember (take i ms ++ drop j ms) (cas_at certs (take i places ++ drop j places) ++ end ∷ [])
  zip_cut ms places zero j order low h = zip_drop ms places j low h
  zip_cut ms places (suc i) zero order low h = absurd (omega (arith, order))
  zip_cut ms [] (suc i) (suc j) order low h = absurd (omega (arith, low))
  zip_cut [] (p ∷ places) (suc i) (suc j) order low h = absurd h
  zip_cut (m ∷ ms) (p ∷ places) (suc i) (suc j) order low h =
      (h.0, zip_cut ms places i j (omega (arith, order)) (omega (arith, low)) h.1)

module _ (x : Context) (asked : RevocationChecks) (names : Bool) (t : NamedTal) (anchor : List ℕ)
    (certs : List (List ℕ)) (place : ℕ) (kind : Kind) where
  abbrev end : Candidate
  end = candidate kind (string_at certs place)

  abbrev Way : List ℕ → Type 0
  Way above = LeadsBy x asked names t anchor certs kind place above

  long : (above : List ℕ) (w : Way above) → last w.path ≡ length above + 1
  long above w = zip_length certs end w.path.below above w.path_of.members

  -- one on which no issuer stands twice, which isn't longer
  pub record Free (above : List ℕ) : Type 0 where
    pub other : List ℕ
    pub way : Way other
    pub none : HasNoRepeat names way.path
    pub short : length other ≤ length above

  module _ (by_entity : AsksByEntity names asked) where
    module _ (above : List ℕ) (w : Way above) (r : Repeat names w.path (last w.path)) where
      ordered : r.first ≤ r.second
      ordered = omega (arith, r.before)

      inside : r.second ≤ last w.path
      inside = omega (arith, r.within)

      first_inside : r.first ≤ last w.path
      first_inside = omega (arith, ordered, inside)

      low : r.second ≤ length above
      low = let n = long above w in omega (arith, n, r.within)

      walkable : IsWalkable x asked names w.path
      walkable = record { is_valid = w.is_valid.is_valid; chained = w.chained }

      cut : IsWalkable x asked names (without w.path r.first r.second)
      cut = cut_walkable w.path r.first r.second ordered inside names
          (one_entity_alike x asked names w.path w.is_valid.is_valid r.first r.second first_inside inside r.one) x
          asked by_entity walkable

      cut_way : Way (take r.first above ++ drop r.second above)
      cut_way = record {
        path = without w.path r.first r.second;
        path_of = record {
          anchor_begins = w.path_of.anchor_begins;
          members =
              zip_cut certs end w.path.below above r.first r.second ordered low w.path_of.members;
        };
        is_valid = record { is_valid = cut.is_valid; key_is = w.is_valid.key_is; lists = w.is_valid.lists };
        chained = cut.chained;
      }

      shorter : length (take r.first above ++ drop r.second above) < length above
      shorter = let n = cut_length above r.first r.second ordered low in omega (arith, n, r.before)

    within_length : (most : ℕ) (above : List ℕ) (w : Way above) → length above ≤ most →
        Repeat names w.path (last w.path) ⊎ HasNoRepeat names w.path → Free above
    within_length most above w short (inr none) = record { other = above; way = w; none = none; short = omega arith }
    within_length zero above w short (inl r) = let less = shorter above w r in absurd (omega (arith, short, less))
    within_length (suc most) above w short (inl r) =
        let less = shorter above w r in
        let next = cut_way above w r in
        let few : length (take r.first above ++ drop r.second above) ≤ most = omega (arith, short, less) in
        let rest = within_length most (take r.first above ++ drop r.second above) next few
        (told_repeat names next.path (last next.path)) in
        record { other = rest.other; way = rest.way; none = rest.none; short = omega (arith, rest.short, less) }

    pub free_way : (above : List ℕ) → Way above → Free above
    free_way above w = let all : length above ≤ length above = omega arith in
        within_length (length above) above w all (told_repeat names w.path (last w.path))

  -- ---- and accepted

  covers_shorter : (ended : Ended) (depth n m : ℕ) → m ≤ n → Covers ended depth n → Covers ended depth m
  covers_shorter Whole depth n m less h = tt
  covers_shorter TooDeep depth n m less h = omega (arith, less, h)
  covers_shorter OutOfSteps depth n m less h = absurd h

  accepted_as : (above : List ℕ) (k : Kind) → (k ≡ Router → ⊥) → BeginsWithKind k (string_at certs place) →
      (r : ResourceFields)
      → LeadsTo x asked (at_anchor t anchor) (cas_at certs above ++ candidate k (string_at certs place) ∷ []) r
      → IsAcceptedAs x asked (at_anchor t anchor) (cas_at certs above) k (string_at certs place)
      (record { holder = r; router = None })
  accepted_as above Anchor other says r leads = absurd says.2
  accepted_as above Authority other says r leads = (leads, refl)
  accepted_as above EndEntity other says r leads = (leads, refl)
  accepted_as above Detached other says r leads = (leads, refl)
  accepted_as above Router other says r leads = absurd (other refl)

  pub none_lost : IsUnambiguous IsCertificate → AsksByEntity names asked →
      BeginsWithKind kind (string_at certs place) → (kind ≡ Router → ⊥) →
      {E : Type 0} (depth steps : ℕ) (ended : Ended) (ts : List Told)
      → TellsFrom {E = E} x asked names (λ l n. Unit {0}) t anchor certs depth steps (Ok ended) ts →
      (above : List ℕ) → Covers ended depth (length above + 1) → Way above →
      (other : List ℕ) × IsTold ts other place
  none_lost law by_entity says other {E} depth steps ended ts tells above covers w =
      let f = free_way by_entity above w in
      let way = f.way in
      let told = tells way.path.anchor way.path_of.anchor_begins in
      let r = held x asked t.name way.path in
      let leads : LeadsTo x asked (at_anchor t anchor)
      (cas_at certs f.other ++ candidate kind (string_at certs place) ∷ []) r.0 =
      record { path = way.path; path_of = way.path_of; is_valid = way.is_valid; held = r.1 } in
      let j : Judged = record { holder = r.0; router = None } in
      let short : length f.other + 1 ≤ length above + 1 = omega (arith, f.short) in
      let reached : IsReached x asked (at_anchor t anchor) certs f.other place =
      (kind, j, says, accepted_as f.other kind other says r.0 leads) in (
        f.other,
        told.complete f.other place
            (covers_shorter ended depth (length above + 1) (length f.other + 1) short covers)
            (all_looked names anchor certs place kind law f.other way.path way.path_of
            (λ asks. (way.chained asks).members_named) f.none) reached,
      )
