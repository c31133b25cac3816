-- Strings that are split into a path.
use Rattle.std.specs.Prelude.{Option, None, Some}
use Rattle.std.specs.Prelude.{◌⊎◌, ◌≢◌}
use Rattle.std.proofs.Common.{◌≡◌, ◌+◌, ◌≤◌, ℕ, List, [], ◌∷◌, ◌++◌, length, map, arith, refl, sym, subst, ap, ◌∙◌}
use Rattle.std.proofs.Common.{inl, inr}
use Rattle.std.proofs.lemmas.List.{append-nil, length-append, length-map, map-append}
use Rattle.rpki_cert.specs.declared.inspect.Kind.{Kind}
use Rattle.rpki_cert.specs.declared.inspect.Kind.TheVariants.{Anchor, Authority, EndEntity, Detached, Router}
use Rattle.rpki_path.specs.declared.given.Last.{Last}
use Rattle.rpki_path.specs.declared.given.Last.TheVariants as last
use Rattle.rpki_path.specs.GivenPaths.{PathStrings, path_strings, path_to, members_below, last_router, string_count}
use Rattle.rpki_path.specs.GivenPaths.{CanEndIn, IsSplitAs}
use Rattle.rpki_path.specs.Paths.{Candidate, candidate}

-- the members above a router are the CAs
pub router_alone : (cas : List (List ℕ)) (end : Option Last) (octets : List ℕ) → last_router end ≡ Some octets →
    length (members_below cas end) ≡ length cas
router_alone cas (Some (last.Router o)) octets is =
    ap (λ (l : List Candidate). length l) (append-nil (map (candidate Authority) cas)) ∙
    length-map cas (candidate Authority)
router_alone cas (Some (last.Ee o)) octets is = absurd (cc is)
router_alone cas (Some (last.DetachedEe o)) octets is = absurd (cc is)
router_alone cas None octets is = absurd (cc is)

-- a list that isn't empty has a last item
record Ended {X : Type 0} (xs : List X) : Type 0 where
  front : List X
  end : X
  is : xs ≡ front ++ end ∷ []

ended : {X : Type 0} (x : X) (xs : List X) → Ended (x ∷ xs)
ended x [] = record { front = []; end = x; is = refl }
ended x (y ∷ xs) = let rest = ended y xs in
    record { front = x ∷ rest.front; end = rest.end; is = ap (λ (l : List _). x ∷ l) rest.is }

-- CAs alone are a path to the last of them
pub cas_split : (strings : List (List ℕ)) (anchor : List ℕ) (below : List (List ℕ)) → strings ≡ anchor ∷ below →
    IsSplitAs strings Authority (path_strings anchor below None)
cas_split strings anchor [] is = inl (anchor, is, refl)
cas_split strings anchor (octets ∷ below) is =
    let cut = ended octets below in
    let cas = octets ∷ below in
    let same : members_below cas None ≡ map (candidate Authority) cut.front ++ candidate Authority cut.end ∷ [] =
    append-nil (map (candidate Authority) cas) ∙ ap (λ (l : List (List ℕ)). map (candidate Authority) l) cut.is ∙
    map-append (candidate Authority) cut.front (cut.end ∷ []) in
    inr (record {
      anchor = anchor;
      cas = cut.front;
      octets = cut.end;
      strings_are = is ∙ ap (λ (l : List (List ℕ)). anchor ∷ l) cut.is;
      path_is = ap (λ (l : List Candidate). let s : PathStrings =
          record { anchor = anchor; below = l; router = None } in s) same;
    })

-- ---- a last member that is none of a CA

abbrev IsNoCa : Kind → Type 0
IsNoCa kind = (kind ≡ EndEntity) ⊎ ((kind ≡ Detached) ⊎ (kind ≡ Router))

-- it is counted with the CAs and the trust anchor
counted : (anchor : List ℕ) (cas : List (List ℕ)) (kind : Kind) (end : List ℕ) →
    string_count (path_to anchor cas kind end) ≡ length cas + 2
counted anchor cas Router end = omega (arith, length-map cas (candidate Authority))
counted anchor cas Anchor end =
    omega (
      arith,
      length-map cas (candidate Authority),
      length-append (map (candidate Authority) cas) (candidate Anchor end ∷ []),
    )
counted anchor cas Authority end =
    omega (
      arith,
      length-map cas (candidate Authority),
      length-append (map (candidate Authority) cas) (candidate Authority end ∷ []),
    )
counted anchor cas EndEntity end =
    omega (
      arith,
      length-map cas (candidate Authority),
      length-append (map (candidate Authority) cas) (candidate EndEntity end ∷ []),
    )
counted anchor cas Detached end =
    omega (
      arith,
      length-map cas (candidate Authority),
      length-append (map (candidate Authority) cas) (candidate Detached end ∷ []),
    )

no_anchor : IsNoCa Anchor → ⊥
no_anchor (inl e) = cc e
no_anchor (inr (inl e)) = cc e
no_anchor (inr (inr e)) = cc e

no_authority : IsNoCa Authority → ⊥
no_authority (inl e) = cc e
no_authority (inr (inl e)) = cc e
no_authority (inr (inr e)) = cc e

-- two strings are enough
enough : (kind : Kind) (n : ℕ) → IsNoCa kind → 2 ≤ n → CanEndIn kind n
enough Anchor n is two = absurd (no_anchor is)
enough Authority n is two = absurd (no_authority is)
enough EndEntity n is two = two
enough Detached n is two = two
enough Router n is two = two

-- what is said of a path that ends in one
pub record IsSplit (kind : Kind) (strings : List (List ℕ)) (path : PathStrings) : Type 0 where
  pub enough : CanEndIn kind (length strings)
  pub split : IsSplitAs strings kind path
  pub count : string_count path ≡ length strings

pub end_split : (kind : Kind) (strings below cas : List (List ℕ)) (anchor end : List ℕ) (last : Option Last) →
    IsNoCa kind → strings ≡ anchor ∷ below → below ≡ cas ++ end ∷ [] →
    ((a : List ℕ) (cs : List (List ℕ)) → path_strings a cs last ≡ path_to a cs kind end) →
    IsSplit kind strings (path_strings anchor cas last)
end_split kind strings below cas anchor end last is whole cut same =
    let long : length strings ≡ length cas + 2 =
    omega (arith, ap length whole, ap length cut, length-append cas (end ∷ [])) in
    record {
      enough = enough kind (length strings) is (omega (arith, long));
      split = inr (record {
        anchor = anchor;
        cas = cas;
        octets = end;
        strings_are =
            whole ∙ ap (λ (b : List (List ℕ)). anchor ∷ b) cut;
        path_is = same anchor cas;
      });
      count = ap string_count (same anchor cas) ∙ (counted anchor cas kind end ∙ sym long);
    }

-- it is neither a trust anchor nor a CA
pub no_ca : (kind : Kind) → IsNoCa kind → (kind ≢ Anchor) × (kind ≢ Authority)
no_ca kind is = (λ e. no_anchor (subst IsNoCa e is), λ e. no_authority (subst IsNoCa e is))
