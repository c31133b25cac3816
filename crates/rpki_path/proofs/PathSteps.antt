-- The steps of a path: the CAs in turn, and a leaf.
use Rattle.std.proofs.Common.{◌≡◌, ◌+◌, ◌<◌, ◌≤◌, ℕ, List, [], ◌∷◌, ◌++◌, length, map, take, drop, get_or, Result}
use Rattle.std.proofs.Common.{Ok, Err, IfOk, IfErr, sym, ap, subst, ◌∙◌, add-one, arith}
use Rattle.std.proofs.Math.Seq.{drop-cons}
use Rattle.std.proofs.lemmas.List.{take-append-drop, take_more, take_all, map-append, length-map, length-take}
use Rattle.rpki_path.specs.Asking.{RevocationChecks}
use Rattle.rpki_cert.specs.Verification.{Context, ResourceFields}
use Rattle.rpki_cert.specs.declared.inspect.Kind.{Kind}
use Rattle.rpki_cert.specs.declared.inspect.Kind.TheVariants.{Authority}
use Rattle.rpki_path.specs.declared.path_fault.PathError.{PathError}
use Rattle.rpki_path.specs.Paths.{Candidate, candidate, IsAccepted, Finds, IsFault}
use Rattle.rpki_path.specs.Paths.Steps.{IsIssuedBy, demand_under}
use Rattle.rpki_path.proofs.ValidPaths.{one_more}
use Rattle.rpki_path.proofs.Rejections.{fault_there}

parts : {X : Type 0} (xs : List X) (i : ℕ) (d : X) → i < length xs → xs ≡ take i xs ++ get_or xs i d ∷ drop (i + 1) xs
parts xs i d h = sym (take-append-drop i xs) ∙ ap (λ (l : List _). take i xs ++ l) (rw add-one (drop-cons xs i d h))

-- the strings of CAs, up to the place of one of them
module _ (cas : List (List ℕ)) (i : ℕ) (h : i < length cas) (octets : List ℕ)
    (there : octets ≡ get_or cas i octets) where
  -- those up to it are those above it, and it
  pub one_taken : map (candidate Authority) (take (i + 1) cas) ≡ map (candidate Authority) (take i cas) ++
      candidate Authority octets ∷ []
  one_taken =
      let longer : take (i + 1) cas ≡ take i cas ++ octets ∷ [] = take_more cas i octets h ∙
      ap (λ (y : List ℕ). take i cas ++ y ∷ []) (sym there) in
      ap (λ (l : List (List ℕ)). map (candidate Authority) l) longer ∙ map-append (candidate Authority) (take i cas)
      (octets ∷ [])

  -- all are those above it, it, and those below it
  pub cut_there : map (candidate Authority) cas ≡ map (candidate Authority) (take i cas) ++
      candidate Authority octets ∷ map (candidate Authority) (drop (i + 1) cas)
  cut_there =
      let split : cas ≡ take i cas ++ octets ∷ drop (i + 1) cas = parts cas i octets h ∙
      ap (λ (y : List ℕ). take i cas ++ y ∷ drop (i + 1) cas) (sym there) in
      ap (λ (l : List (List ℕ)). map (candidate Authority) l) split ∙ map-append (candidate Authority) (take i cas)
      (octets ∷ drop (i + 1) cas)

  -- its place in a path
  pub place_there : (n : ℕ) → n ≡ i + 1 → n ≡ length (map (candidate Authority) (take i cas)) + 1
  place_there n at = omega (arith, at, length-map (take i cas) (candidate Authority), length-take i cas)

module _ (x : Context) (asked : RevocationChecks) (anchor tal : List ℕ) where
  -- ---- a CA

  module _ (cas : List (List ℕ)) (i : ℕ) (h : i < length cas) (octets : List ℕ)
      (there : octets ≡ get_or cas i octets) (issuer : ResourceFields)
      (a : IsAccepted x asked anchor (map (candidate Authority) (take i cas)) tal issuer) where
    -- an accepted path goes on with a CA that its last member issued
    pub next_authority : (r : ResourceFields) → IsIssuedBy x asked issuer Authority octets r →
        IsAccepted x asked anchor (map (candidate Authority) (take (i + 1) cas)) tal r
    next_authority r is =
        subst (λ (l : List Candidate). IsAccepted x asked anchor l tal r) (sym (one_taken cas i h octets there))
        (one_more x asked anchor (map (candidate Authority) (take i cas)) tal issuer Authority octets r a is)

    -- a fault of the next CA is one of the path
    pub wrong_authority : (e : PathError) → e.index ≡ i + 1 →
        Finds x (demand_under x asked issuer Authority) octets e.fault →
        IsFault x asked anchor (map (candidate Authority) cas) e
    wrong_authority e at found =
        subst (λ (l : List Candidate). IsFault x asked anchor l e) (sym (cut_there cas i h octets there))
        (fault_there x asked anchor (map (candidate Authority) (take i cas)) Authority octets
        (map (candidate Authority) (drop (i + 1) cas)) tal issuer a e
        (place_there cas i h octets there e.index at) found)

  -- all of them
  pub whole : (cas : List (List ℕ)) (i : ℕ) → length cas ≤ i → (r : ResourceFields) →
      IsAccepted x asked anchor (map (candidate Authority) (take i cas)) tal r →
      IsAccepted x asked anchor (map (candidate Authority) cas) tal r
  whole cas i h r a = subst (λ (l : List (List ℕ)). IsAccepted x asked anchor (map (candidate Authority) l) tal r)
      (take_all i cas h) a

  -- ---- a leaf

  module _ (below : List Candidate) (issuer : ResourceFields) (a : IsAccepted x asked anchor below tal issuer)
      (kind : Kind) (octets : List ℕ) where
    -- an accepted path goes on with a leaf that its last member issued
    pub leaf_accepted : (r : Result ResourceFields PathError) → IfOk r (IsIssuedBy x asked issuer kind octets) →
        IfOk r (IsAccepted x asked anchor (below ++ candidate kind octets ∷ []) tal)
    leaf_accepted (Ok r) h = one_more x asked anchor below tal issuer kind octets r a h
    leaf_accepted (Err e) h = tt

    -- a fault of the leaf is one of the path
    pub leaf_wrong : (n : ℕ) → n ≡ length below + 1 → (r : Result ResourceFields PathError) →
        IfErr r (λ e. e.index ≡ n) → IfErr r (λ e. Finds x (demand_under x asked issuer kind) octets e.fault) →
        IfErr r (IsFault x asked anchor (below ++ candidate kind octets ∷ []))
    leaf_wrong n is (Ok r) at h = tt
    leaf_wrong n is (Err e) at h = fault_there x asked anchor below kind octets [] tal issuer a e (at ∙ is) h
