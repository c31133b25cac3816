-- The path that the files are, by the kind of the last.
use Rattle.std.specs.Prelude.{Option, Some, None, Result, Ok, Err, IfOk, MatchOption}
use Rattle.std.proofs.Common.{◌≡◌, ◌≢◌, ◌≤◌, ℕ, List, [], ◌∷◌, ◌++◌, length, refl, sym, ap, subst, ◌∙◌, inl, inr, arith}
use Rattle.std.proofs.lemmas.List.{length-append, length-map, map-append, same_from_push}
use Rattle.rpki_path.specs.AskedLists.{by_named_lists}
use Rattle.rpki_path.specs.GivenPaths.{PathStrings, CanEndIn, IsSplitAs, path_to}
use Rattle.rpki_cert.specs.declared.inspect.Kind.{Kind}
use Rattle.rpki_cert.specs.declared.inspect.Kind.TheVariants.{Anchor, Authority, EndEntity, Detached, Router}
use Rattle.rpki_crl.specs.Lists.{CrlState}
use Rattle.rpki_path.specs.declared.path_fault.PathFault.{PathFault}
use Rattle.rpki_path.specs.declared.path_fault.PathFault.TheVariants.{Decode, Inspect, Verify, Revocation, Memory}
use Rattle.rpki_path.specs.Paths.{UnlessMemory}
use Rattle.rpki_cert.specs.Verification.{Context}
use Rattle.rpki_files.specs.Files.{FileFields, contents}
use Rattle.rpki_verdicts.specs.PathFiles.{IsJudgedAs, Demands, IsGivenBy, AreListsOf}
use Rattle.rpki_verdicts.specs.PathAnswers.{IsPathVerdict, IsVerdictBy}
use Rattle.rpki_verdicts.specs.PathAnswers.Steps.{IsKindOfLast}
use Rattle.rpki_verdicts.specs.declared.path.Verdict.{Verdict}

-- what memory may stand in place of, where it isn't memory
pub unless_not : {P : Type 0} (e : PathFault) → UnlessMemory e P → e ≢ Memory → P
unless_not (Decode e) h not_memory = h
unless_not (Inspect e) h not_memory = h
unless_not (Verify e) h not_memory = h
unless_not (Revocation e) h not_memory = h
unless_not Memory h not_memory = absurd (not_memory refl)

-- ---- the kind of the last

-- there is a last one below the trust anchor's
pub of_last : (first end : FileFields) (rest : List FileFields) (kind : Kind) → IsJudgedAs kind end.octets →
    IsKindOfLast (contents (first ∷ (rest ++ end ∷ []))) kind
of_last first end rest kind h = record {
  alone = λ short. absurd
      (omega (
        arith,
        short,
        length-map (first ∷ (rest ++ end ∷ [])) (λ (file : FileFields). file.octets),
        length-append rest (end ∷ []),
      ));
  judged = λ anchor cas octets is.
      let below : contents (rest ++ end ∷ []) ≡ cas ++ octets ∷ [] = cc is in
      let parts = same_from_push (contents rest) cas end.octets octets
      (sym (map-append (λ (file : FileFields). file.octets) rest (end ∷ [])) ∙ below) in
      subst (λ (o : List ℕ). IsJudgedAs kind o) parts.1 h;
}

-- there is none
pub of_few : (files : List FileFields) → length files ≤ 1 → IsKindOfLast (contents files) Authority
of_few files few = record {
  alone = λ short. refl;
  judged = λ anchor cas octets is.
      let long : length (contents files) ≡ length (anchor ∷ (cas ++ octets ∷ [])) = ap (λ (l : List (List ℕ)). length l) is in
      absurd (omega (arith, few, long, length-map files (λ (file : FileFields). file.octets), length-append cas (octets ∷ [])));
}

-- ---- there is a path

-- the last of at least one
with_last : (file : List ℕ) (files : List (List ℕ)) → (cas : List (List ℕ)) × (octets : List ℕ) × (file ∷ files ≡ cas ++ octets ∷ [])
with_last file [] = ([], file, refl)
with_last file (next ∷ files) = let h = with_last next files in (file ∷ h.0, h.1, ap (λ (l : List (List ℕ)). file ∷ l) h.2)

never_anchor : (octets : List ℕ) → IsJudgedAs Anchor octets → ⊥
never_anchor octets (inl h) = h.2
never_anchor octets (inr h) = let e : Anchor ≡ Authority = h.0 in cc e

-- so many files are a path whose last is of this kind
long_enough : (kind : Kind) (n : ℕ) (octets : List ℕ) → 2 ≤ n → IsJudgedAs kind octets → CanEndIn kind n
long_enough Anchor n octets high h = absurd (never_anchor octets h)
long_enough Authority n octets high h = omega (arith, high)
long_enough EndEntity n octets high h = high
long_enough Detached n octets high h = high
long_enough Router n octets high h = high

-- where the files are no path whose last is of its kind, there is none
pub no_files : (files : List (List ℕ)) (kind : Kind) → IsKindOfLast files kind → (CanEndIn kind (length files) → ⊥) → files ≡ []
no_files [] kind k not = refl
no_files (anchor ∷ []) kind k not =
    let is : kind ≡ Authority = k.alone (omega arith) in
    absurd (not (subst (λ (end : Kind). CanEndIn end 1) (sym is) (omega arith)))
no_files (anchor ∷ file ∷ files) kind k not =
    let h = with_last file files in
    let judged = k.judged anchor h.0 h.1 (ap (λ (l : List (List ℕ)). anchor ∷ l) h.2) in
    absurd (not (long_enough kind (length (anchor ∷ file ∷ files)) h.1 (omega arith) judged))

-- the strings, split as the kind of the last one says, are the path that the files are
pub given_by : (files : List (List ℕ)) (kind : Kind) (g : PathStrings) → IsKindOfLast files kind →
    IsSplitAs files kind g → IsGivenBy files g
given_by files kind g k (inl h) = inl h
given_by files kind g k (inr h) = inr (record { kind = kind; split = h; kind_is = k.judged h.anchor h.cas h.octets h.strings_are })

-- the trust anchor's string is the first
anchor_of_path : (anchor : List ℕ) (cas : List (List ℕ)) (kind : Kind) (octets : List ℕ) → (path_to anchor cas kind octets).anchor ≡ anchor
anchor_of_path anchor cas Anchor octets = refl
anchor_of_path anchor cas Authority octets = refl
anchor_of_path anchor cas EndEntity octets = refl
anchor_of_path anchor cas Detached octets = refl
anchor_of_path anchor cas Router octets = refl

pub begins_at : (files : List (List ℕ)) (kind : Kind) (g : PathStrings) → IsSplitAs files kind g →
    (more : List (List ℕ)) × (files ≡ g.anchor ∷ more)
begins_at files kind g (inl h) = ([], h.1 ∙ ap (λ (p : PathStrings). p.anchor ∷ []) (sym h.2))
begins_at files kind g (inr h) =
    let anchor : g.anchor ≡ h.anchor = ap (λ (p : PathStrings). p.anchor) h.path_is ∙ anchor_of_path h.anchor h.cas kind h.octets in
    (h.cas ++ h.octets ∷ [], h.strings_are ∙ ap (λ (a : List ℕ). a ∷ (h.cas ++ h.octets ∷ [])) (sym anchor))

-- a verdict by the lists that were read is one by the files that were given
pub verdict_by : {E : Type 0} (x : Context) (d : Demands) (None_given : Type 0) (files lists : List (List ℕ))
    (read : List CrlState) → (length lists ≡ 0 → ⊥) → AreListsOf lists read → (r : Result (Option Verdict) E)
    → IfOk r (λ o. MatchOption o None_given (IsPathVerdict x (by_named_lists d.names x read) d files)) →
    IfOk r (λ o. MatchOption o None_given (IsVerdictBy x d files lists))
verdict_by x d None_given files [] read some are r h = absurd (some refl)
verdict_by x d None_given files (list ∷ lists) read some are (Ok None) h = h
verdict_by x d None_given files (list ∷ lists) read some are (Ok (Some v)) h = (read, are, h)
verdict_by x d None_given files (list ∷ lists) read some are (Err e) h = tt
