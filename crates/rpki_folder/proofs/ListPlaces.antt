-- The places of the lists that name a key, and the lists there.
use Rattle.std.specs.Prelude.{Bool, true, false, Contains, bytes_eq, if◌then◌else◌}
use Rattle.std.proofs.Common.{◌≡◌, ◌+◌, ◌<◌, ℕ, zero, suc, List, [], ◌∷◌, ◌++◌, length, take, drop, get_or, refl}
use Rattle.std.proofs.Common.{sym, ap, subst, ◌∙◌, inl, inr, append_assoc, arith}
use Rattle.std.proofs.Math.Seq.{drop-append_seam}
use Rattle.std.proofs.lemmas.List.{append-nil, length-append, take_more}
use Rattle.std.proofs.lemmas.List.Elements.{Contains-append_right}
use Rattle.std.proofs.lemmas.Slice.Eq.{bytes_eq-Decides}
use Rattle.rpki_crl.specs.Lists.{CrlState}
use Rattle.rpki_folder.specs.KeyTables.{with_place, signer_of, list_places_from, list_places}
use Rattle.rpki_folder.specs.IssuerLists.{ArePicked}

-- ---- one list more

place_more : (c b : Bool) (n p q : ℕ) (all some : List ℕ) → q ≡ p → all ≡ (if b then some ++ p ∷ [] else some)
    → (if c then n ∷ all else all) ≡
    (if b then (if c then n ∷ some else some) ++ q ∷ [] else (if c then n ∷ some else some))
place_more true true n p q all some e is = ap (λ (l : List ℕ). n ∷ l) is ∙ ap (λ (m : ℕ). n ∷ (some ++ m ∷ [])) (sym e)
place_more true false n p q all some e is = ap (λ (l : List ℕ). n ∷ l) is
place_more false true n p q all some e is = is ∙ ap (λ (m : ℕ). some ++ m ∷ []) (sym e)
place_more false false n p q all some e is = is

pub places_more : (n : ℕ) (key : List ℕ) (lists : List CrlState) (l : CrlState) →
    list_places_from n key (lists ++ l ∷ []) ≡ with_place (signer_of l) (n + length lists) key
    (list_places_from n key lists)
places_more n key [] l =
    let e : n + 0 ≡ n = omega arith in
    ap (λ (m : ℕ). if bytes_eq (signer_of l) key then m ∷ [] else []) (sym e)
places_more n key (k ∷ lists) l =
    let e : n + length (k ∷ lists) ≡ n + 1 + length lists = omega arith in
    place_more (bytes_eq (signer_of k) key) (bytes_eq (signer_of l) key) n (n + 1 + length lists)
    (n + length (k ∷ lists)) (list_places_from (n + 1) key (lists ++ l ∷ []))
    (list_places_from (n + 1) key lists) e (places_more (n + 1) key lists l)

-- of all lists
pub list_added : (key : List ℕ) (lists : List CrlState) (l : CrlState) (n : ℕ) → n ≡ length lists →
    list_places key (lists ++ l ∷ []) ≡ with_place (signer_of l) n key (list_places key lists)
list_added key lists l n is =
    let e : 0 + length lists ≡ n = omega (arith, is) in
    places_more 0 key lists l ∙ ap (λ (m : ℕ). with_place (signer_of l) m key (list_places key lists)) e

-- ---- they are places of lists

inside_more : (b : Bool) (n : ℕ) (places : List ℕ) (end : ℕ) → n < end → ((p : ℕ) → Contains places p → p < end) →
    (p : ℕ) → Contains (if b then n ∷ places else places) p → p < end
inside_more true n places end low rest p (zero, at, is) = omega (arith, is, low)
inside_more true n places end low rest p (suc k, at, is) = rest p (k, omega (arith, at), is)
inside_more false n places end low rest p h = rest p h

inside_from : (n : ℕ) (key : List ℕ) (lists : List CrlState) (p : ℕ) → Contains (list_places_from n key lists) p →
    p < n + length lists
inside_from n key [] p h = absurd (omega (arith, h.1))
inside_from n key (l ∷ lists) p h =
    inside_more (bytes_eq (signer_of l) key) n (list_places_from (n + 1) key lists) (n + length (l ∷ lists))
    (omega arith)
    (λ q g. let low = inside_from (n + 1) key lists q g in omega (arith, low)) p h

pub list_inside : (key : List ℕ) (lists : List CrlState) (p : ℕ) → Contains (list_places key lists) p → p < length lists
list_inside key lists p h = let low = inside_from 0 key lists p h in omega (arith, low)

-- ---- the lists there

-- the lists at these places
abbrev pub lists_at : List CrlState → List ℕ → List CrlState
lists_at lists [] = []
lists_at lists (p ∷ places) = take 1 (drop p lists) ++ lists_at lists places

one_at : (lists : List CrlState) (p : ℕ) (l : CrlState) → p < length lists → l ≡ get_or lists p l →
    take 1 (drop p lists) ≡ l ∷ []
one_at [] p l low is = absurd (omega (arith, low))
one_at (k ∷ lists) zero l low is = ap (λ (m : CrlState). m ∷ []) (sym is)
one_at (k ∷ lists) (suc p) l low is = one_at lists p l (omega (arith, low)) is

at_append : (lists : List CrlState) (places : List ℕ) (p : ℕ) →
    lists_at lists (places ++ p ∷ []) ≡ lists_at lists places ++ take 1 (drop p lists)
at_append lists [] p = append-nil (take 1 (drop p lists))
at_append lists (q ∷ places) p =
    ap (λ (l : List CrlState). take 1 (drop q lists) ++ l) (at_append lists places p) ∙
    sym (append_assoc (take 1 (drop q lists)) (lists_at lists places) (take 1 (drop p lists)))

-- one place more
pub at_more : (lists : List CrlState) (places : List ℕ) (i : ℕ) (l : CrlState) → i < length places →
    get_or places i 0 < length lists → l ≡ get_or lists (get_or places i 0) l
    → lists_at lists (take (i + 1) places) ≡ lists_at lists (take i places) ++ l ∷ []
at_more lists places i l low inside is =
    ap (λ (ps : List ℕ). lists_at lists ps) (take_more places i 0 low)
    ∙ at_append lists (take i places) (get_or places i 0)
    ∙ ap (λ (ls : List CrlState). lists_at lists (take i places) ++ ls) (one_at lists (get_or places i 0) l inside is)

-- the one in front
at_first : (lists : List CrlState) (p : ℕ) (places : List ℕ) (l : CrlState) → p < length lists →
    l ≡ get_or lists p l → lists_at lists (p ∷ places) ≡ l ∷ lists_at lists places
at_first lists p places l low is = ap (λ (ls : List CrlState). ls ++ lists_at lists places) (one_at lists p l low is)

-- the list at one of the places
pub at_one : (lists : List CrlState) (places : List ℕ) (p : ℕ) (l : CrlState) → Contains places p →
    p < length lists → l ≡ get_or lists p l → Contains (lists_at lists places) l
at_one lists [] p l at low is = absurd (omega (arith, at.1))
at_one lists (q ∷ places) p l (zero, at, same) low is =
    subst (λ (n : ℕ). Contains (lists_at lists (n ∷ places)) l) (sym same)
    (subst (λ (ls : List CrlState). Contains ls l) (sym (at_first lists p places l low is)) (0, omega arith, refl))
at_one lists (q ∷ places) p l (suc k, at, same) low is =
    Contains-append_right (take 1 (drop q lists)) (lists_at lists places) l
    (at_one lists places p l (k, omega (arith, at), same) low is)

module _ (key : List ℕ) where
  abbrev pub Names : CrlState → Type 0
  Names l = signer_of l ≡ key

  named_one : (all lists : List CrlState) (l : CrlState) (n : ℕ) (places : List ℕ) → drop n all ≡ l ∷ lists →
      ArePicked Names lists (lists_at all places)
      → (b : Bool) → bytes_eq (signer_of l) key ≡ b →
      ArePicked Names (l ∷ lists) (lists_at all (if b then n ∷ places else places))
  named_one all lists l n places there h true same =
      inl (
        lists_at all places,
        (bytes_eq-Decides (signer_of l) key).0 same,
        ap (λ (ls : List CrlState). take 1 ls ++ lists_at all places) there,
        h,
      )
  named_one all lists l n places there h false apart =
      inr ((λ is. let same = (bytes_eq-Decides (signer_of l) key).1 is in absurd (cc (apart, same))), h)

  named_from : (before lists : List CrlState) →
      ArePicked Names lists (lists_at (before ++ lists) (list_places_from (length before) key lists))
  named_from before [] = refl
  named_from before (l ∷ lists) =
      let all = before ++ l ∷ lists in
      let same : (before ++ l ∷ []) ++ lists ≡ all = append_assoc before (l ∷ []) lists in
      let next : length (before ++ l ∷ []) ≡ length before + 1 = length-append before (l ∷ []) in
      let later = subst (λ (ls : List CrlState). ArePicked Names lists
      (lists_at ls (list_places_from (length (before ++ l ∷ [])) key lists))) same
      (named_from (before ++ l ∷ []) lists) in
      let rest = subst (λ (n : ℕ). ArePicked Names lists (lists_at all (list_places_from n key lists))) next later in
      named_one all lists l (length before) (list_places_from (length before + 1) key lists)
      (drop-append_seam before (l ∷ lists)) rest (bytes_eq (signer_of l) key) refl

  -- at the places of the key stand the lists that name it
  pub named_there : (lists : List CrlState) → ArePicked Names lists (lists_at lists (list_places key lists))
  named_there lists = named_from [] lists
