-- The limits that a walk reaches below an issuer, put together of those below each of the CAs there.
use Rattle.std.specs.Prelude.{Any, Contains, Option}
use Rattle.std.proofs.Common.{◌≡◌, ◌+◌, ◌-◌, ◌*◌, ◌/◌, ◌<◌, ◌≤◌, ℕ, List, [], ◌∷◌, ◌++◌, length, refl, sym, subst}
use Rattle.std.proofs.Common.{ap, ◌∙◌, inl, inr, append_assoc, arith}
use Rattle.std.proofs.Math.Nat.{mul-add, mul_assoc}
use Rattle.std.proofs.lemmas.List.{append-nil, length-map}
use Rattle.std.proofs.lemmas.List.Elements.{Contains-append_left, Contains-append_right, Contains-push_cases}
use Rattle.rpki_der.specs.Values.{IsUnambiguous}
use Rattle.rpki_cert.specs.Certificates.{IsCertificate}
use Rattle.rpki_cert.specs.Verification.{Context, ResourceFields}
use Rattle.rpki_path.specs.Asking.{RevocationChecks}
use Rattle.rpki_folder.specs.declared.bounds.Ended.{Ended}
use Rattle.rpki_folder.specs.declared.bounds.Ended.TheVariants.{Whole, TooDeep, OutOfSteps}
use Rattle.rpki_folder.specs.declared.bounds.Limit.{Limit}
use Rattle.rpki_folder.specs.declared.bounds.Limit.TheVariants.{Depth, Steps as steps}
use Rattle.rpki_folder.specs.declared.walk.Ca.{Ca}
use Rattle.rpki_folder.specs.Walks.{Root, members_at, LeadsTo, worse, IsChildOf, AreChildren, AreAcceptedCas}
use Rattle.rpki_folder.specs.Walks.{IsHandedDown, HasShare}
use Rattle.rpki_folder.specs.Walks.Steps.{places_of, down_to}
use Rattle.rpki_folder.specs.ReachedLimits.{IsDeepAt, IsShortAt, IsNeed, IsToldNumber, IsLimitAt, LimitedCa, limited_ca}
use Rattle.rpki_folder.specs.ReachedLimits.{IsDeepTold, IsShortTold, AreLimited, end_at, end_of}
use Rattle.rpki_folder.specs.ReachedLimits.Steps.{IsLimitOf, IsLimitBelow, AreLimitedBelow, AreLimitedBelowEach}
use Rattle.rpki_folder.proofs.ChildPaths.{child_here, child_on}
use Rattle.rpki_folder.proofs.Descent.{all_append, all_weaker}
use Rattle.rpki_folder.proofs.Needs.{need_here, need_above}
use Rattle.rpki_folder.proofs.PickedLists.{in_none, in_front}
use Rattle.rpki_folder.proofs.Shares.{ca_at, one_count, one_share}

-- ---- ends

worse_group : (a b c : Ended) → worse a (worse b c) ≡ worse (worse a b) c
worse_group OutOfSteps b c = refl
worse_group Whole b c = refl
worse_group TooDeep OutOfSteps c = refl
worse_group TooDeep Whole c = refl
worse_group TooDeep TooDeep OutOfSteps = refl
worse_group TooDeep TooDeep TooDeep = refl
worse_group TooDeep TooDeep Whole = refl

-- the end of two walks together
pub end_append : (xs ys : List LimitedCa) → end_of (xs ++ ys) ≡ worse (end_of xs) (end_of ys)
end_append [] ys = refl
end_append (l ∷ xs) ys = ap (λ (e : Ended). worse (end_at l.limit) e) (end_append xs ys) ∙
    worse_group (end_at l.limit) (end_of xs) (end_of ys)

-- ---- lists

any_front : {X : Type 0} (P : X → Type 0) (xs ys : List X) → Any P xs → Any P (xs ++ ys)
any_front P xs ys h = let c = Contains-append_left xs ys h.1 (h.0, h.2, h.3) in (c.0, h.1, c.1, c.2, h.4)

any_back : {X : Type 0} (P : X → Type 0) (xs ys : List X) → Any P ys → Any P (xs ++ ys)
any_back P xs ys h = let c = Contains-append_right xs ys h.1 (h.0, h.2, h.3) in (c.0, h.1, c.1, c.2, h.4)

any_one : {X : Type 0} (P : X → Type 0) (y : X) → P y → Any P (y ∷ [])
any_one P y p = let c = in_front y [] y refl in (c.0, y, c.1, c.2, p)

first_of : (l : List ℕ) → 0 < length l → (place : ℕ) × Contains l place
first_of [] some = absurd (omega (arith, some))
first_of (p ∷ l) some = (p, in_front p l p refl)

-- ---- below several CAs

module _ (x : Context) (asked : RevocationChecks) (admits : List ℕ → ℕ → Type 0) (root : Root)
    (certs : List (List ℕ)) (above : List ℕ) (depth share base factor : ℕ) where
  abbrev Limit_below : List Ca → LimitedCa → Type 0
  Limit_below cas l = (ca : Ca) × Contains cas ca × IsLimitBelow x asked admits root certs (down_to above ca) depth
      share base factor l

  -- below none
  pub limits_below_none : AreLimitedBelowEach x asked admits root certs above depth share base factor [] []
  limits_below_none = record {
    only = tt;
    deep = λ ca at. absurd (in_none ca at);
    short = λ ca at. absurd (in_none ca at);
  }

  front : (cas : List Ca) (one ca : Ca) → Contains cas ca → Contains (cas ++ one ∷ []) ca
  front cas one ca at = Contains-append_left cas (one ∷ []) ca at

  back : (cas : List Ca) (one : Ca) → Contains (cas ++ one ∷ []) one
  back cas one = Contains-append_right cas (one ∷ []) one (in_front one [] one refl)

  front_limit : (cas : List Ca) (one : Ca) (l : LimitedCa) → Limit_below cas l → Limit_below (cas ++ one ∷ []) l
  front_limit cas one l h = (h.0, front cas one h.0 h.1, h.2)

  back_limit : (cas : List Ca) (one : Ca) (l : LimitedCa) →
      IsLimitBelow x asked admits root certs (down_to above one) depth share base factor l →
      Limit_below (cas ++ one ∷ []) l
  back_limit cas one l h = (one, back cas one, h)

  -- below one more
  pub limits_below_more : (cas : List Ca) (one : Ca) (ls more : List LimitedCa) →
      AreLimitedBelowEach x asked admits root certs above depth share base factor cas ls
      → AreLimitedBelow x asked admits root certs (down_to above one) depth share base factor more →
      AreLimitedBelowEach x asked admits root certs above depth share base factor (cas ++ one ∷ [])
      (ls ++ more)
  limits_below_more cas one ls more h i = record {
    only = all_append (Limit_below (cas ++ one ∷ [])) ls more
        (all_weaker (Limit_below cas) (Limit_below (cas ++ one ∷ [])) (front_limit cas one) ls h.only)
        (all_weaker (IsLimitBelow x asked admits root certs (down_to above one) depth share base factor)
        (Limit_below (cas ++ one ∷ [])) (back_limit cas one) more i.only);
    deep = λ ca at between d. elim (Contains-push_cases cas one ca at) [
      | inl before ↦ any_front (λ (l : LimitedCa). (l.above ≡ down_to above ca ++ between) × (l.limit ≡ Depth)) ls
          more (h.deep ca before between d)
      | inr is ↦
          let here = subst (λ (c : Ca). (b : List ℕ) →
          IsDeepAt x asked admits root certs (down_to above c) share depth b →
          IsDeepTold more (down_to above c ++ b)) is i.deep in
          any_back (λ (l : LimitedCa). (l.above ≡ down_to above ca ++ between) × (l.limit ≡ Depth)) ls more
          (here between d)
    ];
    short = λ ca at between s. elim (Contains-push_cases cas one ca at) [
      | inl before ↦ any_front
          (λ (l : LimitedCa). (l.above ≡ down_to above ca ++ between) ×
          ((told : Option ℕ) × (l.limit ≡ steps told))) ls more (h.short ca before between s)
      | inr is ↦
          let here = subst (λ (c : Ca). (b : List ℕ) →
          IsShortAt x asked admits root certs (down_to above c) share depth b →
          IsShortTold more (down_to above c ++ b)) is i.short in
          any_back (λ (l : LimitedCa). (l.above ≡ down_to above ca ++ between) ×
          ((told : Option ℕ) × (l.limit ≡ steps told))) ls more (here between s)
    ];
  }

-- ---- below an issuer

module _ (x : Context) (asked : RevocationChecks) (admits : List ℕ → ℕ → Type 0) (root : Root)
    (certs : List (List ℕ)) (above : List ℕ) (depth share base factor : ℕ)
    (law : IsUnambiguous IsCertificate) where
  abbrev Are : List LimitedCa → Type 0
  Are ls = AreLimitedBelow x asked admits root certs above depth share base factor ls

  module _ (issuer : ResourceFields) (a : LeadsTo x asked root (members_at root certs above) issuer) where
    module _ (none : (place : ℕ) → admits above place → IsChildOf x.verifies issuer.cert certs place → ⊥) where
      no_deep : (between : List ℕ) → IsDeepAt x asked admits root certs above share depth between → ⊥
      no_deep [] d = let b = d.below in
          none b.place b.admitted.0
          (child_here x asked root law certs above issuer a b.issuer b.place b.leads b.child)
      no_deep (p ∷ rest) d = let b = d.below in
          none p b.admitted.0 (child_on x asked root law certs above issuer a p rest b.issuer b.leads)

      no_short : (between : List ℕ) → IsShortAt x asked admits root certs above share depth between → ⊥
      no_short [] s =
          let short = s.short in
          let first = first_of s.children (omega (arith, short)) in
          let one = s.are_children.only first.0 first.1 in
          none first.0 (subst (λ (l : List ℕ). admits l first.0) (append-nil above) one.0)
          (child_here x asked root law certs above issuer a s.are_children.issuer first.0 s.are_children.leads
          one.1)
      no_short (p ∷ rest) s =
          none p s.admitted.0
          (child_on x asked root law certs above issuer a p rest s.are_children.issuer s.are_children.leads)

      -- where no child is let in
      pub limits_none : Are []
      limits_none = record {
        only = tt;
        deep = λ between d. absurd (no_deep between d);
        short = λ between s. absurd (no_short between s);
      }

  module _ (children : List ℕ) (are : AreChildren x asked admits root certs above children) where
    -- ---- at the last of the CAs above

    here_only : (limit : Limit) → IsLimitOf x asked admits root certs above depth share base factor [] limit →
        IsLimitBelow x asked admits root certs above depth share base factor (limited_ca above limit)
    here_only limit h = ([], sym (append-nil above), h)

    -- where the depth is used up
    pub limits_deep : depth ≡ 0 → 0 < length children → Are (limited_ca above Depth ∷ [])
    limits_deep deep some =
        let first = first_of children some in
        let one = are.only first.0 first.1 in
        let here : IsDeepAt x asked admits root certs above share depth [] = record {
          at_depth = sym deep;
          last = share;
          has = refl;
          below = record {
            issuer = are.issuer;
            leads = subst (λ (k : List ℕ). LeadsTo x asked root (members_at root certs k) are.issuer)
                (sym (append-nil above)) are.leads;
            place = first.0;
            child = one.1;
            admitted = (one.0, tt);
          };
        } in
        record {
          only = (here_only Depth here, tt);
          deep = λ between d. deep_told between d.at_depth;
          short = λ between s. let within = s.within in absurd (omega (arith, within, deep));
        }
      where
        deep_told : (between : List ℕ) → length between ≡ depth →
            IsDeepTold (limited_ca above Depth ∷ []) (above ++ between)
        deep_told [] at = any_one (λ (k : LimitedCa). (k.above ≡ above ++ []) × (k.limit ≡ Depth))
            (limited_ca above Depth) (sym (append-nil above), refl)
        deep_told (p ∷ rest) at = absurd (omega (arith, at, deep))

    -- the share is not handed down, where it is too small
    not_handed : (next : ℕ) → share < length children → IsHandedDown x asked admits root certs above share next → ⊥
    not_handed next short h =
        let count = one_count x asked admits root certs law above h.children children h.are_children are in
        let low = h.enough in
        absurd (omega (arith, count, low, short))

    module _ (low : 0 < depth) where
      here_handed : (p : ℕ) (rest : List ℕ) (last : ℕ) → share < length children →
          HasShare x asked admits root certs above share (p ∷ rest) last → ⊥
      here_handed p rest last small has = not_handed has.0 small has.1

      -- where the share is too small
      pub limits_short : share < length children → (told : Option ℕ) →
          IsToldNumber told (base + factor * length children) → Are (limited_ca above (steps told) ∷ [])
      limits_short small told number =
          let here : IsShortAt x asked admits root certs above share depth [] = record {
            within = low;
            admitted = tt;
            last = share;
            has = refl;
            children = children;
            are_children = subst (λ (k : List ℕ). AreChildren x asked admits root certs k children)
                (sym (append-nil above)) are;
            short = small;
          } in
          let need : IsNeed x asked admits root certs above depth [] (length children) =
          need_here x asked admits root certs law above children are depth low in
          record {
            only = (here_only (steps told) (here, (length children, need, number)), tt);
            deep = deep_none;
            short = short_told;
          }
        where
          deep_none : (between : List ℕ) → IsDeepAt x asked admits root certs above share depth between →
              IsDeepTold (limited_ca above (steps told) ∷ []) (above ++ between)
          deep_none [] d = let at = d.at_depth in absurd (omega (arith, at, low))
          deep_none (p ∷ rest) d = absurd (here_handed p rest d.last small d.has)

          short_told : (between : List ℕ) → IsShortAt x asked admits root certs above share depth between →
              IsShortTold (limited_ca above (steps told) ∷ []) (above ++ between)
          short_told [] s = any_one
              (λ (k : LimitedCa). (k.above ≡ above ++ []) × ((t : Option ℕ) × (k.limit ≡ steps t)))
              (limited_ca above (steps told)) (sym (append-nil above), (told, refl))
          short_told (p ∷ rest) s = absurd (here_handed p rest s.last small s.has)

      -- ---- where the children were judged

      module _ (enough : length children ≤ share) (cas : List Ca)
          (are_cas : AreAcceptedCas x asked admits root certs above (places_of cas)) (admitted : (ca : Ca) →
          Contains cas ca → admits above ca.place)
          (next : ℕ) (next_is : 0 < length cas → next ≡ (share - length children) / length cas)
          (through : (p : ℕ) → admits above p → (rest : List ℕ) (r : ResourceFields) →
          LeadsTo x asked root (members_at root certs (above ++ p ∷ rest)) r →
          Contains (places_of cas) p) where
        count : length (places_of cas) ≡ length cas
        count = length-map cas (λ (ca : Ca). ca.place)

        some_ca : (ca : Ca) → Contains cas ca → 0 < length cas
        some_ca ca at = let low = at.1 in omega (arith, low)

        some_place : (p : ℕ) → Contains (places_of cas) p → 0 < length cas
        some_place p at = let low = at.1 in omega (arith, low, count)

        handed : 0 < length cas → IsHandedDown x asked admits root certs above share next
        handed some = record {
          children = children;
          are_children = are;
          enough = enough;
          cas = places_of cas;
          are_cas = are_cas;
          next_is = next_is some ∙ ap (λ (n : ℕ). (share - length children) / n) (sym count);
        }

        grouped : (p : ℕ) (rest : List ℕ) → (above ++ p ∷ []) ++ rest ≡ above ++ p ∷ rest
        grouped p rest = append_assoc above (p ∷ []) rest

        -- what is reached below a CA is reached below the issuer
        deep_up : (ca : Ca) → Contains cas ca → (between : List ℕ) →
            IsDeepAt x asked admits root certs (down_to above ca) next (depth - 1) between →
            IsDeepAt x asked admits root certs above share depth (ca.place ∷ between)
        deep_up ca at between d =
            let b = d.below in
            let deep = d.at_depth in
            record {
              at_depth = omega (arith, deep, low);
              last = d.last;
              has = (next, handed (some_ca ca at), d.has);
              below = record {
                issuer = b.issuer;
                leads = subst (λ (l : List ℕ). LeadsTo x asked root (members_at root certs l) b.issuer)
                    (grouped ca.place between) b.leads;
                place = b.place;
                child = b.child;
                admitted = (admitted ca at, b.admitted);
              };
            }

        short_up : (ca : Ca) → Contains cas ca → (between : List ℕ) →
            IsShortAt x asked admits root certs (down_to above ca) next (depth - 1) between →
            IsShortAt x asked admits root certs above share depth (ca.place ∷ between)
        short_up ca at between s =
            let within = s.within in
            record {
              within = omega (arith, within, low);
              admitted = (admitted ca at, s.admitted);
              last = s.last;
              has = (next, handed (some_ca ca at), s.has);
              children = s.children;
              are_children = subst (λ (l : List ℕ). AreChildren x asked admits root certs l s.children)
                  (grouped ca.place between) s.are_children;
              short = s.short;
            }

        -- and the other way round
        next_of : (p : ℕ) → Contains (places_of cas) p → (other : ℕ) →
            IsHandedDown x asked admits root certs above share other → other ≡ next
        next_of p at other h = one_share x asked admits root certs law above share other next h
            (handed (some_place p at))

        deep_down : (p : ℕ) → Contains (places_of cas) p → (rest : List ℕ) →
            IsDeepAt x asked admits root certs above share depth (p ∷ rest) →
            IsDeepAt x asked admits root certs (above ++ p ∷ []) next (depth - 1) rest
        deep_down p at rest d =
            let b = d.below in
            let deep = d.at_depth in
            record {
              at_depth = omega (arith, deep, low);
              last = d.last;
              has = subst (λ (n : ℕ). HasShare x asked admits root certs (above ++ p ∷ []) n rest d.last)
                  (next_of p at d.has.0 d.has.1) d.has.2;
              below = record {
                issuer = b.issuer;
                leads = subst (λ (l : List ℕ). LeadsTo x asked root (members_at root certs l) b.issuer)
                    (sym (grouped p rest)) b.leads;
                place = b.place;
                child = b.child;
                admitted = b.admitted.1;
              };
            }

        short_down : (p : ℕ) → Contains (places_of cas) p → (rest : List ℕ) →
            IsShortAt x asked admits root certs above share depth (p ∷ rest) →
            IsShortAt x asked admits root certs (above ++ p ∷ []) next (depth - 1) rest
        short_down p at rest s =
            let within = s.within in
            record {
              within = omega (arith, within, low);
              admitted = s.admitted.1;
              last = s.last;
              has = subst (λ (n : ℕ). HasShare x asked admits root certs (above ++ p ∷ []) n rest s.last)
                  (next_of p at s.has.0 s.has.1) s.has.2;
              children = s.children;
              are_children = subst (λ (l : List ℕ). AreChildren x asked admits root certs l s.children)
                  (sym (grouped p rest)) s.are_children;
              short = s.short;
            }

        -- the number that is told
        costs : (need : ℕ) → base + factor * length children + (factor * length cas) * need ≡ base +
            factor * (length children + length cas * need)
        costs need =
            let far : factor * (length children + length cas * need) ≡ factor * length children +
            factor * (length cas * need) = mul-add factor (length children) (length cas * need) in
            let near : (factor * length cas) * need ≡ factor * (length cas * need) =
            mul_assoc factor (length cas) need in
            omega (arith, far, near)

        limit_up : (ca : Ca) → Contains cas ca → (between : List ℕ) (limit : Limit) →
            IsLimitOf x asked admits root certs (down_to above ca) (depth - 1) next
            (base + factor * length children) (factor * length cas) between limit
            → IsLimitOf x asked admits root certs above depth share base factor (ca.place ∷ between) limit
        unfolding handed
        limit_up ca at between Depth d = deep_up ca at between d
        limit_up ca at between (steps told) (s, (need, needed, number)) =
            let some = some_ca ca at in
            let all = handed some in
            let lows : 0 < length (places_of cas) = omega (arith, some, count) in
            let above_it : IsNeed x asked admits root certs above depth (ca.place ∷ between)
            (length children + length (places_of cas) * need) =
            need_above x asked admits root certs law above ca.place between depth low share next need all lows
            needed in (
              short_up ca at between s,
              (
                length children + length cas * need,
                subst (λ (n : ℕ). IsNeed x asked admits root certs above depth (ca.place ∷ between)
                    (length children + n * need)) count above_it,
                subst (λ (n : ℕ). IsToldNumber told n) (costs need) number,
              ),
            )

        module _ (ls : List LimitedCa)
            (e : AreLimitedBelowEach x asked admits root certs above (depth - 1) next
            (base + factor * length children) (factor * length cas) cas ls) where
          only_up : (l : LimitedCa) →
              Limit_below x asked admits root certs above (depth - 1) next (base + factor * length children)
              (factor * length cas) cas l → IsLimitBelow x asked admits root certs above depth share base factor l
          only_up l (ca, at, (between, is, limit)) =
              (ca.place ∷ between, is ∙ grouped ca.place between, limit_up ca at between l.limit limit)

          deep_all : (between : List ℕ) → IsDeepAt x asked admits root certs above share depth between →
              IsDeepTold ls (above ++ between)
          deep_all [] d = let deep = d.at_depth in absurd (omega (arith, deep, low))
          deep_all (p ∷ rest) d =
              let b = d.below in
              let at = through p b.admitted.0 rest b.issuer b.leads in
              let ca = ca_at cas p at in
              let here = subst (λ (q : ℕ). (k : List ℕ) →
              IsDeepAt x asked admits root certs (above ++ q ∷ []) next (depth - 1) k →
              IsDeepTold ls ((above ++ q ∷ []) ++ k)) ca.2 (e.deep ca.0 ca.1) in
              subst (λ (l : List ℕ). IsDeepTold ls l) (grouped p rest) (here rest (deep_down p at rest d))

          short_all : (between : List ℕ) → IsShortAt x asked admits root certs above share depth between →
              IsShortTold ls (above ++ between)
          short_all [] s =
              let same : AreChildren x asked admits root certs above s.children =
              subst (λ (l : List ℕ). AreChildren x asked admits root certs l s.children) (append-nil above)
              s.are_children in
              let one : length children ≡ length s.children = one_count x asked admits root certs law above children
              s.children are same in
              let last : s.last ≡ share = s.has in
              let small = s.short in
              absurd (omega (arith, one, last, small, enough))
          short_all (p ∷ rest) s =
              let at = through p s.admitted.0 rest s.are_children.issuer s.are_children.leads in
              let ca = ca_at cas p at in
              let here = subst (λ (q : ℕ). (k : List ℕ) →
              IsShortAt x asked admits root certs (above ++ q ∷ []) next (depth - 1) k →
              IsShortTold ls ((above ++ q ∷ []) ++ k)) ca.2 (e.short ca.0 ca.1) in
              subst (λ (l : List ℕ). IsShortTold ls l) (grouped p rest) (here rest (short_down p at rest s))

          -- the whole
          pub limits_each : Are ls
          limits_each = record {
            only = all_weaker (Limit_below x asked admits root certs above (depth - 1) next
                (base + factor * length children) (factor * length cas) cas)
                (IsLimitBelow x asked admits root certs above depth share base factor) only_up ls e.only;
            deep = deep_all;
            short = short_all;
          }

-- ---- below the certificate at which a walk starts

module _ (x : Context) (asked : RevocationChecks) (admits : List ℕ → ℕ → Type 0) (root : Root)
    (certs : List (List ℕ)) (depth share : ℕ) where
  limit_whole : (l : LimitedCa) (between : List ℕ) (limit : Limit) → l.above ≡ between →
      IsLimitOf x asked admits root certs [] depth share 0 1 between limit →
      IsLimitAt x asked admits root certs share depth l.above limit
  limit_whole l between Depth is d = subst (λ (b : List ℕ). IsDeepAt x asked admits root certs [] share depth b)
      (sym is) d
  limit_whole l between (steps told) is (s, (need, needed, number)) =
      let one : 0 + 1 * need ≡ need = omega arith in
      subst (λ (b : List ℕ). IsLimitAt x asked admits root certs share depth b (steps told)) (sym is)
      (s, (need, needed, subst (λ (n : ℕ). IsToldNumber told n) one number))

  only_whole : (l : LimitedCa) → IsLimitBelow x asked admits root certs [] depth share 0 1 l →
      IsLimitAt x asked admits root certs share depth l.above l.limit
  only_whole l (between, is, limit) = limit_whole l between l.limit is limit

  -- the share is that of the whole walk
  pub limits_whole : (ls : List LimitedCa) → AreLimitedBelow x asked admits root certs [] depth share 0 1 ls →
      AreLimited x asked admits root certs depth share ls
  limits_whole ls h = record {
    only = all_weaker (IsLimitBelow x asked admits root certs [] depth share 0 1)
        (λ (l : LimitedCa). IsLimitAt x asked admits root certs share depth l.above l.limit) only_whole ls h.only;
    deep = h.deep;
    short = h.short;
  }
