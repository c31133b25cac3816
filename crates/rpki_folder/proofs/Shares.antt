-- What is told below an issuer, put together of what is told of its children, and below each of the CAs
-- among these, whose shares are even.
use Rattle.std.specs.List.{AllByRecursion}
use Rattle.std.specs.Prelude.{Option, None, Some, IsSome, IsErr, Contains, Result, Ok}
use Rattle.std.proofs.Common.{◌≡◌, ◌+◌, ◌-◌, ◌*◌, ◌/◌, ◌<◌, ◌≤◌, ℕ, zero, suc, List, [], ◌∷◌, ◌++◌, length, take}
use Rattle.std.proofs.Common.{refl, sym, subst, ap, ◌∙◌, inl, inr, append_assoc, arith}
use Rattle.std.proofs.Math.Nat.{mul-div-le, mul-le-mul_right, suc-mul, zero-mul}
use Rattle.std.proofs.lemmas.List.{append-nil, length-append, length-map}
use Rattle.std.proofs.lemmas.List.Elements.{Contains-push_cases}
use Rattle.rpki_der.specs.Values.{IsUnambiguous}
use Rattle.rpki_cert.specs.Certificates.{CertFields, IsCertificate}
use Rattle.rpki_cert.specs.Verification.{Context, ResourceFields}
use Rattle.rpki_path.specs.Asking.{RevocationChecks}
use Rattle.rpki_path.specs.Paths.{Candidate, candidate}
use Rattle.rpki_cert.specs.declared.inspect.Kind.TheVariants.{Authority}
use Rattle.rpki_folder.specs.declared.bounds.Ended.{Ended}
use Rattle.rpki_folder.specs.declared.bounds.Ended.TheVariants.{Whole, TooDeep, OutOfSteps}
use Rattle.rpki_folder.specs.declared.walk.Ca.{Ca}
use Rattle.rpki_folder.specs.Folders.{string_at, cas_at}
use Rattle.rpki_folder.specs.Walks.{Root, members_at, LeadsTo, IsReached, Told, IsRight, IsTold, worse, Covers}
use Rattle.rpki_folder.specs.Walks.{AreAdmitted, IsLetIn, IsChildOf, AreChildren, IsAcceptedCa, AreAcceptedCas}
use Rattle.rpki_folder.specs.Walks.{IsHandedDown, HasShare, HasEnough, IsShort, TakesStep, AreFew, HasBelow}
use Rattle.rpki_folder.specs.Walks.{IsTooDeep, IsChildAt, IsComplete, IsCompleteInShares, IsJudgedInShares}
use Rattle.rpki_folder.specs.Walks.{IsVerdictTold, IsEnough, TellsWithin, TellsBelow}
use Rattle.rpki_folder.specs.Walks.Steps.{AreLookedAt, places_of, AreJudged, down_to, TellsBelowEach}
use Rattle.rpki_folder.specs.Walks.Steps.{WalksBelowEach}
use Rattle.rpki_folder.proofs.ChildPaths.{passing, child_here, child_on}
use Rattle.rpki_folder.proofs.Descent.{has_more, has_behind, has_here, told_more, told_behind, told_here}
use Rattle.rpki_folder.proofs.Descent.{all_append, all_weaker, if_err, if_ok, ok_if, covers_first, covers_second}
use Rattle.rpki_folder.proofs.Descent.{covers_below, worse_out, worse_deep, most_append}
use Rattle.rpki_folder.proofs.Descent.{most_more, most_all, IsSound, sound_append, sound_more, let_in_above}
use Rattle.rpki_folder.proofs.Descent.{ca_leads}
use Rattle.rpki_folder.proofs.OnceLists.{once_length, once_shorter}
use Rattle.rpki_folder.proofs.PathsDown.{members_next, one_holder, is_child}
use Rattle.rpki_folder.proofs.Outcomes.{outcome_ok, outcome_goes_on, reached_passes, reached_child}
use Rattle.rpki_folder.proofs.PickedLists.{in_none, in_front, further, first_or_further}

-- a CA that stands at one of the places of some
pub ca_at : (cas : List Ca) (place : ℕ) → Contains (places_of cas) place →
    (ca : Ca) × Contains cas ca × (ca.place ≡ place)
ca_at [] place at = absurd (in_none place at)
ca_at (ca ∷ cas) place at = elim (first_or_further ca.place (places_of cas) place at) [
  | inl is ↦ (ca, in_front ca cas ca refl, is)
  | inr more ↦ let r = ca_at cas place more in (r.0, further ca cas r.0 r.1, r.2)
]

-- a holder that is there
some_holder : (P : Type 0) (next : Option ResourceFields) → IsSome next →
    ((holder : ResourceFields) → next ≡ Some holder → P) → P
some_holder P None some goes = absurd cc
some_holder P (Some holder) some goes = goes holder refl

-- shares of what is left, with what was taken, are no more than there was
steps_within : (k m share next : ℕ) → k ≤ share → (0 < m → next ≡ (share - k) / m) → k + m * next ≤ share
steps_within k zero share next enough is = let none : zero * next ≡ zero = zero-mul next in omega (arith, none, enough)
steps_within k (suc m) share next enough is =
    let some : 0 < suc m = omega arith in
    let low : suc m * ((share - k) / suc m) ≤ share - k = mul-div-le (share - k) (suc m) in
    let here : suc m * next ≤ share - k = subst (λ (n : ℕ). suc m * n ≤ share - k) (sym (is some)) low in
    omega (arith, here, enough)

-- the first of some are some
pub take_within : {X : Type 0} (xs : List X) (i : ℕ) (x : X) → Contains (take i xs) x → Contains xs x
take_within xs zero x at = absurd (in_none x at)
take_within [] (suc i) x at = absurd (in_none x at)
take_within (y ∷ xs) (suc i) x at = elim (first_or_further y (take i xs) x at) [
  | inl is ↦ in_front y xs x is
  | inr more ↦ further y xs x (take_within xs i x more)
]

pub take_shorter : {X : Type 0} (xs : List X) (i : ℕ) → i < length xs → length (take i xs) < length xs
take_shorter [] i low = absurd (omega (arith, low))
take_shorter (y ∷ xs) zero low = omega arith
take_shorter (y ∷ xs) (suc i) low = let h = take_shorter xs i (omega (arith, low)) in omega (arith, h)

-- ---- one share

module _ (x : Context) (asked : RevocationChecks) (admits : List ℕ → ℕ → Type 0) (root : Root)
    (certs : List (List ℕ)) (law : IsUnambiguous IsCertificate) where
  module _ (above : List ℕ) where
    children_in : (ones bs : List ℕ) (a : AreChildren x asked admits root certs above ones)
        (b : AreChildren x asked admits root certs above bs) → (place : ℕ) → Contains ones place →
        Contains bs place
    children_in ones bs a b place at =
        let h = a.only place at in
        let one : a.issuer.cert ≡ b.issuer.cert = one_holder x asked root law (members_at root certs above) a.issuer
        b.issuer a.leads b.leads in
        b.all place h.0 (subst (λ (c : CertFields). IsChildOf x.verifies c certs place) one h.1)

    -- there are so many children
    pub one_count : (ones bs : List ℕ) → AreChildren x asked admits root certs above ones →
        AreChildren x asked admits root certs above bs → length ones ≡ length bs
    one_count ones bs a b = once_length ones bs a.once b.once (children_in ones bs a b) (children_in bs ones b a)

    cas_in : (ones bs : List ℕ) → AreAcceptedCas x asked admits root certs above ones →
        AreAcceptedCas x asked admits root certs above bs → (place : ℕ) → Contains ones place → Contains bs place
    cas_in ones bs a b place at = let h = a.only place at in b.all place h.0 h.1

    -- and one share for each of the CAs
    pub one_share : (share next other : ℕ) → IsHandedDown x asked admits root certs above share next →
        IsHandedDown x asked admits root certs above share other → next ≡ other
    one_share share next other a b =
        let children = one_count a.children b.children a.are_children b.are_children in
        let cas = once_length a.cas b.cas a.are_cas.once b.are_cas.once (cas_in a.cas b.cas a.are_cas b.are_cas)
        (cas_in b.cas a.cas b.are_cas a.are_cas) in
        a.next_is ∙ ap (λ (n : ℕ). (share - n) / length a.cas) children ∙
        ap (λ (n : ℕ). (share - length b.children) / n) cas ∙ sym b.next_is

-- ---- below several CAs

module _ (x : Context) (asked : RevocationChecks) (admits : List ℕ → ℕ → Type 0) (root : Root)
    (certs : List (List ℕ)) (above : List ℕ) (depth share : ℕ) where
  abbrev Each : {E : Type 0} → List Ca → Result Ended E → List Told → Type 0
  Each {E} cas result ts = TellsBelowEach {E = E} x asked admits root certs above depth share cas result ts

  -- below none
  pub each_none : {E : Type 0} → Each {E = E} [] (Ok Whole) []
  each_none = record {
    right = tt;
    let_in = tt;
    few = most_all (TakesStep x asked root certs) (length {A = Ca} [] * share) [] (omega arith);
    short = λ is. absurd (cc is);
    too_deep = λ is. absurd (cc is);
    complete = λ ca at. absurd (in_none ca at);
    in_shares = λ ca at. absurd (in_none ca at);
    judged = λ ca at. absurd (in_none ca at);
    enough = λ ca at. absurd (in_none ca at);
  }

  front : (cas : List Ca) (one ca : Ca) → Contains cas ca → Contains (cas ++ one ∷ []) ca
  front [] one ca at = absurd (in_none ca at)
  front (c ∷ cas) one ca at = elim (first_or_further c cas ca at) [
    | inl is ↦ in_front c (cas ++ one ∷ []) ca is
    | inr more ↦ further c (cas ++ one ∷ []) ca (front cas one ca more)
  ]

  back : (cas : List Ca) (one : Ca) → Contains (cas ++ one ∷ []) one
  back [] one = in_front one [] one refl
  back (c ∷ cas) one = further c (cas ++ one ∷ []) one (back cas one)

  let_in_front : (cas : List Ca) (one : Ca) (t : Told) →
      (ca : Ca) × Contains cas ca × IsLetIn admits (down_to above ca) t →
      (ca : Ca) × Contains (cas ++ one ∷ []) ca × IsLetIn admits (down_to above ca) t
  let_in_front cas one t h = (h.0, front cas one h.0 h.1, h.2)

  more_steps : (cas : List Ca) (one : Ca) → length (cas ++ one ∷ []) * share ≡ length cas * share + share
  more_steps cas one =
      let count : length (cas ++ one ∷ []) ≡ suc (length cas) = omega (arith, length-append cas (one ∷ [])) in
      ap (λ (n : ℕ). n * share) count ∙ suc-mul (length cas) share

  -- below some of the CAs, where memory ran out
  pub each_stops : {E : Type 0} (some cas : List Ca) (ts : List Told) (r q : Result Ended E) →
      ((ca : Ca) → Contains some ca → Contains cas ca) → length some ≤ length cas → Each some r ts → IsErr q →
      Each cas q ts
  each_stops some cas ts r q within fewer h err = record {
    right = h.right;
    let_in = all_weaker (λ t. (ca : Ca) × Contains some ca × IsLetIn admits (down_to above ca) t)
        (λ t. (ca : Ca) × Contains cas ca × IsLetIn admits (down_to above ca) t)
        (λ t l. (l.0, within l.0 l.1, l.2)) ts h.let_in;
    few = most_more (TakesStep x asked root certs) (length some * share) (length cas * share) ts
        (mul-le-mul_right share fewer) h.few;
    short = if_err (λ ended. ended ≡ OutOfSteps →
        (ca : Ca) × Contains cas ca × IsShort x asked admits root certs (down_to above ca) share) q err;
    too_deep = if_err (λ ended. ended ≡ TooDeep →
        (ca : Ca) × Contains cas ca × IsTooDeep x asked admits root certs (down_to above ca) depth ended) q err;
    complete = if_err (λ ended. (ca : Ca) → Contains cas ca →
        IsComplete x asked admits root certs (down_to above ca) depth ts ended) q err;
    in_shares = if_err (λ ended. (ca : Ca) → Contains cas ca →
        IsCompleteInShares x asked admits root certs (down_to above ca) depth share ts) q err;
    judged = if_err (λ ended. (ca : Ca) → Contains cas ca →
        IsJudgedInShares x asked admits root certs (down_to above ca) depth share ts) q err;
    enough = if_err (λ ended. (ca : Ca) → Contains cas ca →
        IsEnough x asked admits root certs (down_to above ca) depth share ended) q err;
  }

  few_more : (cas : List Ca) (one : Ca) (ts us : List Told) → AreFew x asked root certs (length cas * share) ts →
      AreFew x asked root certs share us → AreFew x asked root certs (length (cas ++ one ∷ []) * share) (ts ++ us)
  few_more cas one ts us few fewer = subst (λ (n : ℕ). AreFew x asked root certs n (ts ++ us))
      (sym (more_steps cas one))
      (most_append (TakesStep x asked root certs) (length cas * share) share ts us few fewer)

  module _ {E : Type 0} (cas : List Ca) (one : Ca) (ts us : List Told) where
    let_in_more : {r q : Result Ended E} → Each cas r ts →
        TellsWithin x asked admits root certs (down_to above one) depth share q us
        → AllByRecursion (λ t. (ca : Ca) × Contains (cas ++ one ∷ []) ca × IsLetIn admits (down_to above ca) t)
        (ts ++ us)
    let_in_more h t = all_append
        (λ t. (ca : Ca) × Contains (cas ++ one ∷ []) ca × IsLetIn admits (down_to above ca) t) ts us
        (all_weaker (λ t. (ca : Ca) × Contains cas ca × IsLetIn admits (down_to above ca) t)
        (λ t. (ca : Ca) × Contains (cas ++ one ∷ []) ca × IsLetIn admits (down_to above ca) t)
        (let_in_front cas one) ts h.let_in)
        (all_weaker (λ t. IsLetIn admits (down_to above one) t)
        (λ t. (ca : Ca) × Contains (cas ++ one ∷ []) ca × IsLetIn admits (down_to above ca) t)
        (λ t l. (one, back cas one, l)) us t.let_in)

    -- below one more
    pub each_more : (ended end : Ended) → Each {E = E} cas (Ok ended) ts →
        TellsWithin {E = E} x asked admits root certs (down_to above one) depth share (Ok end) us →
        Each {E = E} (cas ++ one ∷ []) (Ok (worse ended end)) (ts ++ us)
    each_more ended end h t = record {
      right = all_append (IsRight x asked root certs) ts us h.right t.right;
      let_in = let_in_more h t;
      few = few_more cas one ts us h.few t.few;
      short = λ is. elim (worse_out ended end is) [
        | inl before ↦ let s = h.short before in (s.0, front cas one s.0 s.1, s.2)
        | inr now ↦ (one, back cas one, t.short now)
      ];
      too_deep = λ is. elim (worse_deep ended end is) [
        | inl before ↦ let s = h.too_deep before in (s.0, front cas one s.0 s.1, (λ e. s.2 before))
        | inr now ↦ (one, back cas one, (λ e. t.too_deep now))
      ];
      complete = λ ca at between place covers admitted reached. elim (Contains-push_cases cas one ca at) [
        | inl before ↦ told_more ts us (down_to above ca ++ between) place
            (h.complete ca before between place (covers_first ended end depth (length between + 1) covers)
            admitted reached)
        | inr is ↦
            let here : IsComplete x asked admits root certs (down_to above ca) depth us end =
            subst (λ (c : Ca). IsComplete x asked admits root certs (down_to above c) depth us end) is
            t.complete in
            told_behind ts us (down_to above ca ++ between) place
            (here between place (covers_second ended end depth (length between + 1) covers) admitted reached)
      ];
      in_shares = λ ca at between place enough admitted reached. elim (Contains-push_cases cas one ca at) [
        | inl before ↦ told_more ts us (down_to above ca ++ between) place
            (h.in_shares ca before between place enough admitted reached)
        | inr is ↦
            let here : IsCompleteInShares x asked admits root certs (down_to above ca) depth share us =
            subst (λ (c : Ca). IsCompleteInShares x asked admits root certs (down_to above c) depth share us)
            is t.in_shares in
            told_behind ts us (down_to above ca ++ between) place (here between place enough admitted reached)
      ];
      judged = λ ca at between place enough admitted child. elim (Contains-push_cases cas one ca at) [
        | inl before ↦ has_more ts us (down_to above ca ++ between) place
            (h.judged ca before between place enough admitted child)
        | inr is ↦
            let here : IsJudgedInShares x asked admits root certs (down_to above ca) depth share us =
            subst (λ (c : Ca). IsJudgedInShares x asked admits root certs (down_to above c) depth share us) is
            t.judged in
            has_behind ts us (down_to above ca ++ between) place (here between place enough admitted child)
      ];
      enough = λ ca at between place covers admitted reached. elim (Contains-push_cases cas one ca at) [
        | inl before ↦ h.enough ca before between place (covers_first ended end depth (length between + 1) covers)
            admitted reached
        | inr is ↦
            let here : IsEnough x asked admits root certs (down_to above ca) depth share end =
            subst (λ (c : Ca). IsEnough x asked admits root certs (down_to above c) depth share end) is
            t.enough in
            here between place (covers_second ended end depth (length between + 1) covers) admitted reached
      ];
    }

  -- below some of the CAs and one more, below which memory ran out
  pub each_fails : {E : Type 0} (cas : List Ca) (index : ℕ) (one : Ca) →
      ((ca : Ca) → Contains (take index cas) ca → Contains cas ca) → length (take index cas) < length cas →
      Contains cas one
      → (ts us : List Told) (r q e : Result Ended E) → Each (take index cas) r ts →
      TellsWithin x asked admits root certs (down_to above one) depth share q us → IsErr e → Each cas e (ts ++ us)
  each_fails {E} cas index one within fewer at ts us r q e h t err =
      each_stops (take index cas ++ one ∷ []) cas (ts ++ us) e e
      (λ ca among. elim (Contains-push_cases (take index cas) one ca among)
      [ inl before ↦ within ca before | inr is ↦ subst (λ (k : Ca). Contains cas k) is at ])
      (omega (arith, length-append (take index cas) (one ∷ []), fewer))
      (record {
        right = all_append (IsRight x asked root certs) ts us h.right t.right;
        let_in = let_in_more {E = E} (take index cas) one ts us h t;
        few = few_more (take index cas) one ts us h.few t.few;
        short = if_err (λ ended. ended ≡ OutOfSteps → (ca : Ca) × Contains (take index cas ++ one ∷ []) ca ×
            IsShort x asked admits root certs (down_to above ca) share) e err;
        too_deep = if_err (λ ended. ended ≡ TooDeep → (ca : Ca) × Contains (take index cas ++ one ∷ []) ca ×
            IsTooDeep x asked admits root certs (down_to above ca) depth ended) e err;
        complete = if_err (λ ended. (ca : Ca) → Contains (take index cas ++ one ∷ []) ca →
            IsComplete x asked admits root certs (down_to above ca) depth (ts ++ us) ended) e err;
        in_shares = if_err (λ ended. (ca : Ca) → Contains (take index cas ++ one ∷ []) ca →
            IsCompleteInShares x asked admits root certs (down_to above ca) depth share (ts ++ us)) e err;
        judged = if_err (λ ended. (ca : Ca) → Contains (take index cas ++ one ∷ []) ca →
            IsJudgedInShares x asked admits root certs (down_to above ca) depth share (ts ++ us)) e err;
        enough = if_err (λ ended. (ca : Ca) → Contains (take index cas ++ one ∷ []) ca →
            IsEnough x asked admits root certs (down_to above ca) depth share ended) e err;
      })
      err

module _ (x : Context) (asked : RevocationChecks) (admits : List ℕ → ℕ → Type 0) (certs : List (List ℕ))
    (above : List ℕ) (depth share : ℕ) where
  -- the same, wherever they stand
  pub each_walked : {E : Type 0} (cas : List Ca) (one : Ca) (ts us : List Told) (ended end : Ended) →
      WalksBelowEach {E = E} x asked admits certs above depth share cas (Ok ended) ts →
      TellsBelow {E = E} x asked admits one.holder certs (above ++ one.place ∷ []) depth share (Ok end) us
      → WalksBelowEach {E = E} x asked admits certs above depth share (cas ++ one ∷ []) (Ok (worse ended end))
      (ts ++ us)
  each_walked {E} cas one ts us ended end h t = λ root leads.
      each_more x asked admits root certs above depth share {E = E} cas one ts us ended end
      (h root (λ ca at. leads ca (front x asked admits root certs above depth share cas one ca at)))
      (t root (leads one (back x asked admits root certs above depth share cas one)))

-- ---- below an issuer

module _ (x : Context) (asked : RevocationChecks) (admits : List ℕ → ℕ → Type 0) (root : Root)
    (certs : List (List ℕ)) (above : List ℕ) (depth share : ℕ) (law : IsUnambiguous IsCertificate)
    (issuer : ResourceFields) (a : LeadsTo x asked root (members_at root certs above) issuer) where
  abbrev Told_so : {E : Type 0} → Result Ended E → List Told → Type 0
  Told_so {E} r ts = TellsWithin {E = E} x asked admits root certs above depth share r ts

  abbrev Sound : ℕ → List Told → Type 0
  Sound n ts = IsSound x asked admits root certs above n ts

  -- where memory ran out
  pub ended_err : {E : Type 0} (ts : List Told) (r : Result Ended E) → IsErr r → Sound share ts → Told_so r ts
  ended_err ts r err h = record {
    right = h.right;
    let_in = h.let_in;
    few = h.few;
    short = if_err (λ ended. ended ≡ OutOfSteps → IsShort x asked admits root certs above share) r err;
    too_deep = if_err (IsTooDeep x asked admits root certs above depth) r err;
    complete = if_err (IsComplete x asked admits root certs above depth ts) r err;
    in_shares = if_err (λ ended. IsCompleteInShares x asked admits root certs above depth share ts) r err;
    judged = if_err (λ ended. IsJudgedInShares x asked admits root certs above depth share ts) r err;
    enough = if_err (IsEnough x asked admits root certs above depth share) r err;
  }

  reached_none : ((place : ℕ) → admits above place → IsChildOf x.verifies issuer.cert certs place → ⊥) →
      (between : List ℕ) (place : ℕ) → AreAdmitted admits above (between ++ place ∷ []) →
      IsReached x asked root certs (above ++ between) place → ⊥
  reached_none none [] place admitted reached =
      none place admitted.0 (reached_child x asked root law certs above place issuer a [] place refl reached)
  reached_none none (p ∷ rest) place admitted reached =
      none p admitted.0 (reached_child x asked root law certs above p issuer a (p ∷ rest) place refl reached)

  child_none : ((place : ℕ) → admits above place → IsChildOf x.verifies issuer.cert certs place → ⊥) →
      (between : List ℕ) (place : ℕ) → AreAdmitted admits above (between ++ place ∷ []) →
      IsChildAt x asked root certs (above ++ between) place → ⊥
  child_none none [] place admitted child =
      none place admitted.0 (child_here x asked root law certs above issuer a child.0 place child.1 child.2)
  child_none none (p ∷ rest) place admitted child =
      none p admitted.0 (child_on x asked root law certs above issuer a p rest child.0 child.1)

  -- where no child is let in
  pub ended_none : {E : Type 0} (ts : List Told) →
      ((place : ℕ) → admits above place → IsChildOf x.verifies issuer.cert certs place → ⊥) → Sound share ts →
      Told_so {E = E} (Ok Whole) ts
  ended_none ts none h = record {
    right = h.right;
    let_in = h.let_in;
    few = h.few;
    short = λ is. absurd (cc is);
    too_deep = λ is. absurd (cc is);
    complete = λ between place covers admitted reached. absurd (reached_none none between place admitted reached);
    in_shares = λ between place enough admitted reached. absurd (reached_none none between place admitted reached);
    judged = λ between place enough admitted child. absurd (child_none none between place admitted child);
    enough = λ between place covers admitted reached. absurd (reached_none none between place admitted reached);
  }

  module _ (children : List ℕ) (c : AreLookedAt x.verifies (admits above) issuer.cert certs children) where
    pub are_children : AreChildren x asked admits root certs above children
    are_children = record {
      issuer = issuer;
      leads = a;
      only = c.only;
      all = c.all;
      once = c.once;
    }

    -- where there are none
    pub ended_childless : {E : Type 0} (ts : List Told) → children ≡ [] → Sound share ts → Told_so {E = E} (Ok Whole) ts
    ended_childless ts is h =
        ended_none ts
        (λ place admitted child.
        in_none place (subst (λ (l : List ℕ). Contains l place) is (c.all place admitted child))) h

    first_of : (l : List ℕ) → 0 < length l → (place : ℕ) × Contains l place
    first_of [] some = absurd (omega (arith, some))
    first_of (p ∷ l) some = (p, in_front p l p refl)

    -- where the depth is used up
    pub ended_deep : {E : Type 0} (ts : List Told) → depth ≡ 0 → 0 < length children → Sound share ts →
        Told_so {E = E} (Ok TooDeep) ts
    ended_deep ts deep some h =
        let first = first_of children some in
        let one = c.only first.0 first.1 in
        record {
          right = h.right;
          let_in = h.let_in;
          few = h.few;
          short = λ is. absurd (cc is);
          too_deep = λ is. (
            [],
            sym deep,
            record {
              issuer = issuer;
              leads = subst (λ (l : List ℕ). LeadsTo x asked root (members_at root certs l) issuer)
                  (sym (append-nil above)) a;
              place = first.0;
              child = one.1;
              admitted = (one.0, tt);
            },
          );
          complete = λ between place covers admitted reached. absurd (omega (arith, covers, deep));
          in_shares = λ between place enough admitted reached. let within = enough.within in
              absurd (omega (arith, within, deep));
          judged = λ between place enough admitted child. let within = enough.within in
              absurd (omega (arith, within, deep));
          enough = λ between place covers admitted reached. absurd (omega (arith, covers, deep));
        }

    -- no more than all
    within_all : (others : List ℕ) → AreChildren x asked admits root certs above others →
        length children ≤ length others
    within_all others all =
        let one : issuer.cert ≡ all.issuer.cert = one_holder x asked root law (members_at root certs above) issuer
        all.issuer a all.leads in
        once_shorter children others c.once (λ place at. let h = c.only place at in
        all.all place h.0 (subst (λ (d : CertFields). IsChildOf x.verifies d certs place) one h.1))

    few_enough : (between : List ℕ) → HasEnough x asked admits root certs above share depth between →
        length children ≤ share
    few_enough [] h =
        let same : AreChildren x asked admits root certs above h.children =
        subst (λ (l : List ℕ). AreChildren x asked admits root certs l h.children) (append-nil above)
        h.are_children in
        let count = within_all h.children same in
        let last : h.last ≡ share = h.has in
        let low = h.enough in
        omega (arith, count, last, low)
    few_enough (p ∷ rest) h =
        let down = h.has.1 in
        let count = within_all down.children down.are_children in
        let low = down.enough in
        omega (arith, count, low)

    -- where the share is too small
    pub ended_short : {E : Type 0} (ts : List Told) → share < length children → Sound share ts →
        Told_so {E = E} (Ok OutOfSteps) ts
    ended_short ts short h = record {
      right = h.right;
      let_in = h.let_in;
      few = h.few;
      short = λ is. record {
        between = [];
        last = share;
        has = refl;
        children = children;
        are_children = subst (λ (l : List ℕ). AreChildren x asked admits root certs l children)
            (sym (append-nil above)) are_children;
        short = short;
      };
      too_deep = λ is. absurd (cc is);
      complete = λ between place covers admitted reached. absurd covers;
      in_shares = λ between place enough admitted reached. let low = few_enough between enough in
          absurd (omega (arith, low, short));
      judged = λ between place enough admitted child. let low = few_enough between enough in
          absurd (omega (arith, low, short));
      enough = λ between place covers admitted reached. absurd covers;
    }

    -- ---- where the children were judged

    module _ (enough : length children ≤ share) (cas : List Ca) (us : List Told)
        (j : AreJudged x asked issuer certs above children cas us) where
      pub ca_admitted : (ca : Ca) → Contains cas ca → admits above ca.place
      ca_admitted ca at = (c.only ca.place (j.only ca at).0).0

      -- a valid path leads to each of the CAs
      pub each_leads : (ca : Ca) → Contains cas ca →
          LeadsTo x asked root (members_at root certs (down_to above ca)) ca.holder
      each_leads ca at = let o = (j.only ca at).1 in
          ca_leads x asked admits root certs above law issuer a ca.place o.0 ca.holder o.1

      -- a place through which a valid path goes is that of one of the CAs
      pub goes_through : (place : ℕ) → Contains children place → (after : List Candidate) (r : ResourceFields) →
          LeadsTo x asked root (members_at root certs above ++ candidate Authority (string_at certs place) ∷
          after) r → Contains (places_of cas) place
      goes_through place at after r leads =
          let v = j.all place at in
          some_holder (Contains (places_of cas) place) v.1
          (outcome_goes_on x asked root law (members_at root certs above) issuer a (string_at certs place) v.0
          v.1 v.2 after r leads) v.4

      ca_child : (place : ℕ) → IsAcceptedCa x asked root certs above place →
          IsChildOf x.verifies issuer.cert certs place
      ca_child place accepted =
          let leads = subst (λ (l : List Candidate). LeadsTo x asked root l accepted.0)
          (members_next root certs above place) accepted.1 in
          is_child x asked root law (members_at root certs above) issuer a Authority (string_at certs place) []
          accepted.0 leads certs place refl

      pub are_cas : AreAcceptedCas x asked admits root certs above (places_of cas)
      are_cas = record {
        only = λ place at.
            let ca = ca_at cas place at in
            subst (λ (p : ℕ). admits above p × IsAcceptedCa x asked root certs above p) ca.2
            (ca_admitted ca.0 ca.1, (ca.0.holder, each_leads ca.0 ca.1));
        all = λ place admitted accepted.
            let leads = subst (λ (l : List Candidate). LeadsTo x asked root l accepted.0)
            (members_next root certs above place) accepted.1 in
            goes_through place (c.all place admitted (ca_child place accepted)) [] accepted.0 leads;
        once = j.once;
      }

      module _ (next : ℕ) (next_is : 0 < length cas → next ≡ (share - length children) / length cas) where
        some_place : (place : ℕ) → Contains (places_of cas) place → 0 < length cas
        some_place place at = let low = at.1 in omega (arith, low, length-map cas (λ (ca : Ca). ca.place))

        handed : 0 < length cas → IsHandedDown x asked admits root certs above share next
        handed some =
            let count : length (places_of cas) ≡ length cas = length-map cas (λ (ca : Ca). ca.place) in
            let each : next ≡ (share - length children) / length (places_of cas) = next_is some ∙
            ap (λ (n : ℕ). (share - length children) / n) (sym count) in
            let all = are_children in
            let accepted = are_cas in
            record {
              children = children;
              are_children = all;
              enough = enough;
              cas = places_of cas;
              are_cas = accepted;
              next_is = each;
            }

        all_steps : length children + length cas * next ≤ share
        all_steps = steps_within (length children) (length cas) share next enough next_is

        module _ {E : Type 0} (low : 0 < depth) (ts vs : List Told) (others : Sound 0 ts)
            (judged : Sound (length children) us) (r : Result Ended E)
            (e : TellsBelowEach x asked admits root certs above (depth - 1) next cas r vs) where
          abbrev all : List Told
          all = ts ++ (us ++ vs)

          let_in_each : (t : Told) → (ca : Ca) × Contains cas ca × IsLetIn admits (down_to above ca) t →
              IsLetIn admits above t
          let_in_each t h = let_in_above x asked admits root certs above h.0.place (ca_admitted h.0 h.1) t h.2

          each_sound : Sound (length cas * next) vs
          each_sound = record {
            right = e.right;
            let_in = all_weaker (λ t. (ca : Ca) × Contains cas ca × IsLetIn admits (down_to above ca) t)
                (IsLetIn admits above) let_in_each vs e.let_in;
            few = e.few;
          }

          sound : Sound share all
          sound = sound_more x asked admits root certs above (0 + (length children + length cas * next)) share all
              (omega (arith, all_steps))
              (sound_append x asked admits root certs above 0 (length children + length cas * next) ts (us ++ vs) others
              (sound_append x asked admits root certs above (length children) (length cas * next) us vs judged
              each_sound))

          grouped : (p : ℕ) (rest : List ℕ) → (above ++ p ∷ []) ++ rest ≡ above ++ p ∷ rest
          grouped p rest = append_assoc above (p ∷ []) rest

          -- a child that is reached was told
          child_told : (place : ℕ) → admits above place → IsReached x asked root certs (above ++ []) place →
              IsTold all (above ++ []) place
          child_told place admitted reached =
              let here : IsReached x asked root certs above place =
              subst (λ (l : List ℕ). IsReached x asked root certs l place) (append-nil above) reached in
              let v = j.all place (c.all place admitted
              (reached_child x asked root law certs above place issuer a [] place refl reached)) in
              let ok = outcome_ok x asked root law (members_at root certs above) issuer a (string_at certs place)
              v.0 v.1 v.2 here.0 here.2 here.1 here.3 in
              subst (λ (l : List ℕ). IsTold all l place) (sym (append-nil above))
              (told_behind ts (us ++ vs) above place
              (told_more us vs above place (told_here us above place v.0 v.3 ok)))

          -- the CA below which a path goes on
          ca_of : (p : ℕ) (rest : List ℕ) (place : ℕ) → admits above p →
              IsReached x asked root certs (above ++ p ∷ rest) place → Contains (places_of cas) p
          ca_of p rest place admitted reached =
              let passes = reached_passes x asked root law certs above p rest place reached in
              goes_through p (c.all p admitted
              (reached_child x asked root law certs above p issuer a (p ∷ rest) place refl reached))
              passes.after passes.holder passes.leads

          told_each : (p : ℕ) (rest : List ℕ) (place : ℕ) → IsTold vs ((above ++ p ∷ []) ++ rest) place →
              IsTold all (above ++ p ∷ rest) place
          told_each p rest place h =
              told_behind ts (us ++ vs) (above ++ p ∷ rest) place
              (told_behind us vs (above ++ p ∷ rest) place
              (subst (λ (l : List ℕ). IsTold vs l place) (grouped p rest) h))

          complete_at : (ended : Ended) →
              ((ca : Ca) → Contains cas ca →
              IsComplete x asked admits root certs (down_to above ca) (depth - 1) vs ended)
              → (between : List ℕ) (place : ℕ) → Covers ended depth (length between + 1) →
              AreAdmitted admits above (between ++ place ∷ []) →
              IsReached x asked root certs (above ++ between) place → IsTold all (above ++ between) place
          complete_at ended h [] place covers admitted reached = child_told place admitted.0 reached
          complete_at ended h (p ∷ rest) place covers admitted reached =
              let ca = ca_at cas p (ca_of p rest place admitted.0 reached) in
              let here : IsComplete x asked admits root certs (above ++ p ∷ []) (depth - 1) vs ended =
              subst (λ (q : ℕ). IsComplete x asked admits root certs (above ++ q ∷ []) (depth - 1) vs ended)
              ca.2 (h ca.0 ca.1) in
              let one : suc (length rest) + 1 ≡ length rest + 1 + 1 = omega arith in
              let deeper : Covers ended depth (length rest + 1 + 1) = subst (λ (n : ℕ). Covers ended depth n) one
              covers in
              told_each p rest place
              (here rest place (covers_below ended depth (length rest + 1) deeper) admitted.1
              (subst (λ (l : List ℕ). IsReached x asked root certs l place) (sym (grouped p rest)) reached))

          enough_below : (p : ℕ) → Contains (places_of cas) p → (rest : List ℕ) →
              HasEnough x asked admits root certs above share depth (p ∷ rest) →
              HasEnough x asked admits root certs (above ++ p ∷ []) next (depth - 1) rest
          enough_below p at rest given =
              let same : given.has.0 ≡ next = one_share x asked admits root certs law above share given.has.0 next
              given.has.1 (handed (some_place p at)) in
              let within = given.within in
              record {
                within = omega (arith, within);
                last = given.last;
                has = subst (λ (n : ℕ). HasShare x asked admits root certs (above ++ p ∷ []) n rest given.last) same
                    given.has.2;
                children = given.children;
                are_children = subst (λ (l : List ℕ). AreChildren x asked admits root certs l given.children)
                    (sym (grouped p rest)) given.are_children;
                enough = given.enough;
              }

          shares_at : ((ca : Ca) → Contains cas ca →
              IsCompleteInShares x asked admits root certs (down_to above ca) (depth - 1) next vs)
              → (between : List ℕ) (place : ℕ) → HasEnough x asked admits root certs above share depth between →
              AreAdmitted admits above (between ++ place ∷ []) →
              IsReached x asked root certs (above ++ between) place → IsTold all (above ++ between) place
          shares_at h [] place given admitted reached = child_told place admitted.0 reached
          shares_at h (p ∷ rest) place given admitted reached =
              let at = ca_of p rest place admitted.0 reached in
              let ca = ca_at cas p at in
              let here : IsCompleteInShares x asked admits root certs (above ++ p ∷ []) (depth - 1) next vs =
              subst (λ (q : ℕ). IsCompleteInShares x asked admits root certs (above ++ q ∷ []) (depth - 1)
              next vs) ca.2 (h ca.0 ca.1) in
              told_each p rest place
              (here rest place (enough_below p at rest given) admitted.1
              (subst (λ (l : List ℕ). IsReached x asked root certs l place) (sym (grouped p rest)) reached))

          has_child : (place : ℕ) → admits above place → IsChildAt x asked root certs (above ++ []) place →
              IsVerdictTold all (above ++ []) place
          has_child place admitted child =
              let v = j.all place (c.all place admitted
              (child_here x asked root law certs above issuer a child.0 place child.1 child.2)) in
              subst (λ (l : List ℕ). IsVerdictTold all l place) (sym (append-nil above))
              (has_behind ts (us ++ vs) above place (has_more us vs above place (has_here us above place v.0 v.3)))

          has_each : (p : ℕ) (rest : List ℕ) (place : ℕ) → IsVerdictTold vs ((above ++ p ∷ []) ++ rest) place →
              IsVerdictTold all (above ++ p ∷ rest) place
          has_each p rest place h =
              has_behind ts (us ++ vs) (above ++ p ∷ rest) place
              (has_behind us vs (above ++ p ∷ rest) place
              (subst (λ (l : List ℕ). IsVerdictTold vs l place) (grouped p rest) h))

          judged_at : ((ca : Ca) → Contains cas ca →
              IsJudgedInShares x asked admits root certs (down_to above ca) (depth - 1) next vs)
              → (between : List ℕ) (place : ℕ) → HasEnough x asked admits root certs above share depth between →
              AreAdmitted admits above (between ++ place ∷ []) →
              IsChildAt x asked root certs (above ++ between) place →
              IsVerdictTold all (above ++ between) place
          judged_at h [] place given admitted child = has_child place admitted.0 child
          judged_at h (p ∷ rest) place given admitted child =
              let at = goes_through p
              (c.all p admitted.0 (child_on x asked root law certs above issuer a p rest child.0 child.1))
              (cas_at certs rest) child.0 (passing x asked root law certs above p rest child.0 child.1) in
              let ca = ca_at cas p at in
              let here : IsJudgedInShares x asked admits root certs (above ++ p ∷ []) (depth - 1) next vs =
              subst (λ (q : ℕ). IsJudgedInShares x asked admits root certs (above ++ q ∷ []) (depth - 1) next
              vs) ca.2 (h ca.0 ca.1) in
              has_each p rest place
              (here rest place (enough_below p at rest given) admitted.1
              (subst (λ (l : List ℕ). IsChildAt x asked root certs l place) (sym (grouped p rest)) child))

          enough_at : (ended : Ended) →
              ((ca : Ca) → Contains cas ca →
              IsEnough x asked admits root certs (down_to above ca) (depth - 1) next ended)
              → (between : List ℕ) (place : ℕ) → Covers ended depth (length between + 1) →
              AreAdmitted admits above (between ++ place ∷ []) →
              IsReached x asked root certs (above ++ between) place →
              HasEnough x asked admits root certs above share depth between
          enough_at ended h [] place covers admitted reached = record {
            within = low;
            last = share;
            has = refl;
            children = children;
            are_children = subst (λ (l : List ℕ). AreChildren x asked admits root certs l children)
                (sym (append-nil above)) are_children;
            enough = enough;
          }
          enough_at ended h (p ∷ rest) place covers admitted reached =
              let at = ca_of p rest place admitted.0 reached in
              let ca = ca_at cas p at in
              let here : IsEnough x asked admits root certs (above ++ p ∷ []) (depth - 1) next ended =
              subst (λ (q : ℕ). IsEnough x asked admits root certs (above ++ q ∷ []) (depth - 1) next ended)
              ca.2 (h ca.0 ca.1) in
              let one : suc (length rest) + 1 ≡ length rest + 1 + 1 = omega arith in
              let deeper : Covers ended depth (length rest + 1 + 1) = subst (λ (n : ℕ). Covers ended depth n) one
              covers in
              let e = here rest place (covers_below ended depth (length rest + 1) deeper) admitted.1
              (subst (λ (l : List ℕ). IsReached x asked root certs l place) (sym (grouped p rest)) reached) in
              let within = e.within in
              record {
                within = omega (arith, within);
                last = e.last;
                has = (next, handed (some_place p at), e.has);
                children = e.children;
                are_children = subst (λ (l : List ℕ). AreChildren x asked admits root certs l e.children)
                    (grouped p rest) e.are_children;
                enough = e.enough;
              }

          short_at : (ca : Ca) → Contains cas ca → IsShort x asked admits root certs (down_to above ca) next →
              IsShort x asked admits root certs above share
          short_at ca at s =
              let some : 0 < length cas = let low = at.1 in omega (arith, low) in
              record {
                between = ca.place ∷ s.between;
                last = s.last;
                has = (next, handed some, s.has);
                children = s.children;
                are_children = subst (λ (l : List ℕ). AreChildren x asked admits root certs l s.children)
                    (grouped ca.place s.between) s.are_children;
                short = s.short;
              }

          deep_at : (ended : Ended) → ended ≡ TooDeep → (ca : Ca) → Contains cas ca →
              IsTooDeep x asked admits root certs (down_to above ca) (depth - 1) ended →
              (between : List ℕ) × (length between ≡ depth) × HasBelow x asked admits root certs above between
          deep_at ended is ca at h =
              let f = h is in
              let b = f.2 in
              let count : length (ca.place ∷ f.0) ≡ depth = omega (arith, f.1, low) in (
                ca.place ∷ f.0,
                count,
                record {
                  issuer = b.issuer;
                  leads = subst (λ (l : List ℕ). LeadsTo x asked root (members_at root certs l) b.issuer)
                      (grouped ca.place f.0) b.leads;
                  place = b.place;
                  child = b.child;
                  admitted = (ca_admitted ca at, b.admitted);
                },
              )

          -- the whole
          pub ended_each : Told_so r all
          ended_each = record {
            right = sound.right;
            let_in = sound.let_in;
            few = sound.few;
            short = ok_if (λ (ended : Ended). ended ≡ OutOfSteps → IsShort x asked admits root certs above share) r
                (λ ended is out.
                let each : ended ≡ OutOfSteps →
                (ca : Ca) × Contains cas ca × IsShort x asked admits root certs (down_to above ca) next =
                if_ok (λ (e : Ended). e ≡ OutOfSteps →
                (ca : Ca) × Contains cas ca × IsShort x asked admits root certs (down_to above ca) next) r
                ended is e.short in
                let s = each out in
                short_at s.0 s.1 s.2);
            too_deep = ok_if (IsTooDeep x asked admits root certs above depth) r
                (λ ended is deep.
                let each : ended ≡ TooDeep →
                (ca : Ca) × Contains cas ca × IsTooDeep x asked admits root certs (down_to above ca)
                (depth - 1) ended =
                if_ok (λ (e : Ended). e ≡ TooDeep →
                (ca : Ca) × Contains cas ca × IsTooDeep x asked admits root certs (down_to above ca)
                (depth - 1) e) r ended is e.too_deep in
                let s = each deep in
                deep_at ended deep s.0 s.1 s.2);
            complete = ok_if (IsComplete x asked admits root certs above depth all) r
                (λ ended is. complete_at ended
                (if_ok (λ (e : Ended). (ca : Ca) → Contains cas ca →
                IsComplete x asked admits root certs (down_to above ca) (depth - 1) vs e) r ended is
                e.complete));
            in_shares = ok_if (λ (ended : Ended). IsCompleteInShares x asked admits root certs above depth share all) r
                (λ ended is. shares_at
                (if_ok (λ (e : Ended). (ca : Ca) → Contains cas ca →
                IsCompleteInShares x asked admits root certs (down_to above ca) (depth - 1) next vs) r ended
                is e.in_shares));
            judged = ok_if (λ (ended : Ended). IsJudgedInShares x asked admits root certs above depth share all) r
                (λ ended is. judged_at
                (if_ok (λ (e : Ended). (ca : Ca) → Contains cas ca →
                IsJudgedInShares x asked admits root certs (down_to above ca) (depth - 1) next vs) r ended is
                e.judged));
            enough = ok_if (IsEnough x asked admits root certs above depth share) r
                (λ ended is. enough_at ended
                (if_ok (λ (e : Ended). (ca : Ca) → Contains cas ca →
                IsEnough x asked admits root certs (down_to above ca) (depth - 1) next e) r ended is
                e.enough));
          }
