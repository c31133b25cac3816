-- Of the caller's lists those are read that name a key of the path; the verdict is that by all.
use Rattle.std.specs.Prelude.{Bool, true, false, Contains, Ok, Err, Result}
use Rattle.std.proofs.Common.{◌≡◌, ◌∙◌, zero, suc, ℕ, List, [], ◌∷◌, ◌++◌, map, ap, sym, refl, subst, inl, inr, arith}
use Rattle.std.proofs.lemmas.List.{append-nil}
use Rattle.std.proofs.lemmas.List.Elements.{Contains-append_right}
use Rattle.rpki_ext.specs.Kinds.{Means}
use Rattle.rpki_cert.specs.Certificates.{CertFields, IsCertificate}
use Rattle.rpki_cert.specs.Verification.{Context}
use Rattle.rpki_cert.specs.declared.inspect.Kind.{Kind}
use Rattle.rpki_cert.specs.declared.inspect.Kind.TheVariants.{Anchor, Authority, EndEntity, Detached, Router}
use Rattle.rpki_crl.specs.Lists.{CrlState}
use Rattle.rpki_path.specs.AskedLists.{IsFor, by_named_lists}
use Rattle.rpki_path.specs.GivenPaths.{IsSplitAs, PathStrings, path_to}
use Rattle.rpki_path.specs.Judging.{Judges}
use Rattle.rpki_path.specs.NameChains.{strings_below}
use Rattle.rpki_path.specs.Paths.{Candidate, candidate}
use Rattle.rpki_path.specs.declared.judging.Judged.{Judged}
use Rattle.rpki_path.specs.declared.path_fault.PathError.{PathError}
use Rattle.rpki_c.specs.Verdicts.{AreAllLists, AreListsGiven, AreListsNaming, FailsAs, FailsWith, IsKeyOf, asked_by}
use Rattle.rpki_c.specs.Verdicts.{checks_by, checks_if, asked_context}
use Rattle.rpki_c.specs.declared.question.RpkiQuestion.{RpkiQuestion}
use Rattle.rpki_c.specs.declared.question.Terms.{Terms}
use Rattle.rpki_c.specs.declared.refusal.Refusal.{Refusal}
use Rattle.rpki_c.specs.declared.refusal.Refusal.TheVariants as refusal
use Rattle.rpki_c.specs.declared.strings.RpkiStrings.{RpkiStrings}
use Rattle.rpki_c.proofs.CallersLists.{all_lists}
use Rattle.rpki_c.proofs.ForeignLists.{same_checks}
use Rattle.rpki_c.proofs.SameVerdicts.{AskAlike, same_verdict}

-- ---- the strings of a path

abbrev pub all_strings : PathStrings → List (List ℕ)
all_strings g = g.anchor ∷ map (λ (s : Candidate). s.octets) (strings_below g)

cas_strings : (cas : List (List ℕ)) (end : List Candidate) →
    map (λ (s : Candidate). s.octets) (map (candidate Authority) cas ++ end) ≡ cas ++
    map (λ (s : Candidate). s.octets) end
cas_strings [] end = refl
cas_strings (ca ∷ cas) end = ap (λ (ss : List (List ℕ)). ca ∷ ss) (cas_strings cas end)

ends_in : (anchor : List ℕ) (cas : List (List ℕ)) (kind : Kind) (octets : List ℕ) → anchor ∷
    map (λ (s : Candidate). s.octets) ((map (candidate Authority) cas ++ candidate kind octets ∷ []) ++ []) ≡ anchor ∷
    (cas ++ octets ∷ [])
ends_in anchor cas kind octets =
    ap (λ (ss : List (List ℕ)). anchor ∷ ss)
    (ap (λ (ss : List Candidate). map (λ (s : Candidate). s.octets) ss)
    (append-nil (map (candidate Authority) cas ++ candidate kind octets ∷ []))
    ∙ cas_strings cas (candidate kind octets ∷ []))

path_strings : (anchor : List ℕ) (cas : List (List ℕ)) (kind : Kind) (octets : List ℕ) →
    all_strings (path_to anchor cas kind octets) ≡ anchor ∷ (cas ++ octets ∷ [])
path_strings anchor cas Anchor octets = ends_in anchor cas Anchor octets
path_strings anchor cas Authority octets = ends_in anchor cas Authority octets
path_strings anchor cas EndEntity octets = ends_in anchor cas EndEntity octets
path_strings anchor cas Detached octets = ends_in anchor cas Detached octets
path_strings anchor cas Router octets =
    ap (λ (ss : List (List ℕ)). anchor ∷ ss) (cas_strings cas (candidate Router octets ∷ []))

split_strings : (strings : List (List ℕ)) (kind : Kind) (g : PathStrings) → IsSplitAs strings kind g →
    all_strings g ≡ strings
split_strings strings kind g (inl (anchor, are, is)) = ap all_strings is ∙ sym are
split_strings strings kind g (inr h) =
    ap all_strings h.path_is ∙ path_strings h.anchor h.cas kind h.octets ∙ sym h.strings_are

octets_there : (ss : List Candidate) (s : Candidate) → Contains ss s →
    Contains (map (λ (t : Candidate). t.octets) ss) s.octets
octets_there [] s (k, low, is) = absurd (omega (arith, low))
octets_there (t ∷ ss) s (zero, low, is) = (0, omega arith, ap (λ (u : Candidate). u.octets) is)
octets_there (t ∷ ss) s (suc k, low, is) =
    Contains-append_right (t.octets ∷ []) (map (λ (u : Candidate). u.octets) ss) s.octets
    (octets_there ss s (k, omega (arith, low), is))

module _ (strings : List (List ℕ)) (kind : Kind) (g : PathStrings) (split : IsSplitAs strings kind g) where
  -- the key of a list that is for a certificate on the path is one of the path's
  key_on_path : (s : Candidate) → Contains (strings_below g) s → (c : CertFields) → Means IsCertificate c s.octets →
      (l : CrlState) → IsFor c l
      → IsKeyOf strings l.list.fields.extensions.authority_key_identifier
  key_on_path s there c begins l is =
      let (k, low, at) = Contains-append_right (g.anchor ∷ []) (map (λ (t : Candidate). t.octets) (strings_below g))
      s.octets (octets_there (strings_below g) s there) in
      subst (λ (ss : List (List ℕ)). IsKeyOf ss l.list.fields.extensions.authority_key_identifier)
      (split_strings strings kind g split) (k, s.octets, low, at, (c, begins, inr is))

  -- beside lists that name the path's keys stand others, with which the verdict is the same
  all_judged : (x : Context) (names : Bool) (octets : List (List ℕ)) (kept : List CrlState) →
      AreListsNaming (IsKeyOf strings) octets kept
      → (lists : List CrlState) × AreAllLists (IsKeyOf strings) octets lists
      × ((r : Result Judged PathError) → Judges x (by_named_lists names x kept) g r →
      Judges x (by_named_lists names x lists) g r)
  all_judged x names octets kept are =
      let (lists, all, same) = all_lists (IsKeyOf strings) octets kept are in
      let alike : AskAlike (strings_below g) (by_named_lists names x kept) (by_named_lists names x lists) =
      λ s there c begins issuer e.
      same_checks names x issuer c kept lists (λ l for. same l (key_on_path s there c begins l for)) e in
      (lists, all, same_verdict x (by_named_lists names x kept) (by_named_lists names x lists) g alike)

  all_if : (x : Context) (asks names : Bool) (s : RpkiStrings) (kept : List CrlState) →
      AreListsGiven (AreListsNaming (IsKeyOf strings)) asks s kept
      → (lists : List CrlState) × AreListsGiven (AreAllLists (IsKeyOf strings)) asks s lists
      × ((r : Result Judged PathError) → Judges x (checks_if asks names kept x) g r →
      Judges x (checks_if asks names lists x) g r)
  all_if x true names s kept (octets, cut, are) =
      let (lists, all, same) = all_judged x names octets kept are in (lists, (octets, cut, all), same)
  all_if x false names s kept are = (kept, are, λ r h. h)

  module _ (t : Terms) where
    -- the verdict with the lists that are read is that with all
    pub all_given : (s : RpkiStrings) (kept : List CrlState) →
        AreListsGiven (AreListsNaming (IsKeyOf strings)) t.asks_lists s kept
        → (lists : List CrlState) × AreListsGiven (AreAllLists (IsKeyOf strings)) t.asks_lists s lists
        × ((r : Result Judged PathError) →
        Judges (asked_context t) (checks_by (asked_by t kept) (asked_context t)) g r →
        Judges (asked_context t) (checks_by (asked_by t lists) (asked_context t)) g r)
    all_given s kept are = all_if (asked_context t) t.asks_lists t.asks_names s kept are

    fails_alike : (kept lists : List CrlState) → ((r : Result Judged PathError) →
        Judges (asked_context t) (checks_by (asked_by t kept) (asked_context t)) g r →
        Judges (asked_context t) (checks_by (asked_by t lists) (asked_context t)) g r) → (r : Refusal) →
        FailsWith t kept g r → FailsWith t lists g r
    fails_alike kept lists same (refusal.Member e) h = same (Err e) h
    fails_alike kept lists same (refusal.OtherName place) (judged, valid, asks, is) =
        (judged, same (Ok judged) valid, asks, is)
    fails_alike kept lists same refusal.UnusedKey (judged, valid, chained, none) =
        (judged, same (Ok judged) valid, chained, none)
    fails_alike kept lists same refusal.Memory h = tt
    fails_alike kept lists same _ h = absurd h

    pub fails_all : (q : RpkiQuestion) (r : Refusal) →
        FailsAs (AreListsNaming (IsKeyOf strings)) q t strings g r
        → FailsAs (AreAllLists (IsKeyOf strings)) q t strings g r
    fails_all q r (inl h) = inl h
    fails_all q r (inr (inl h)) = inr (inl h)
    fails_all q r (inr (inr (trusted, (kept, are, h)))) =
        let (lists, all, same) = all_given q.lists kept are in
        inr (inr (trusted, (lists, all, fails_alike kept lists same r h)))
