-- The tests of URIs are the relations.
use Rattle.std.proofs.Common.{◌≡◌, ◌≢◌, ◌⊎◌, inl, inr, ℕ, zero, suc, arith, ◌≤◌, Bool, true, not, List, [], ◌∷◌, ◌++◌}
use Rattle.std.proofs.Common.{length, take, drop, codes, refl, sym, ap, ◌∙◌, subst, append-nil, Decides, bytes_eq}
use Rattle.std.proofs.lemmas.Bool.{and_parts, and_from, both_ways, not-true, not_from_false, false_from_ne_true, leb-true, le-leb}
use Rattle.std.proofs.lemmas.List.{length-map, take_at, drop_at, take-append-drop}
use Rattle.std.proofs.lemmas.Slice.Eq.{bytes_eq-Decides}
use Rattle.std.specs.Char.{is_ascii_graphic, to_ascii_lowercase}
use Rattle.std.specs.List.{AllByRecursion, concat, list_all, slice_split}
use Rattle.std.specs.Str.{IsAscii, str_to_ascii_lowercase, str_eq_ignore_ascii_case}
use Rattle.rpki_parts.specs.Uris.{slash, HasNoSlash, IsEmptyOrBeginsWithSlash, ArePrintable, IsUri, IsHttps, HasNoDots, IsRsync, AreEqual}
use Rattle.rpki_parts.specs.Uris.Tests.{is_slash, is_empty, is_segment, before_slash, from_slash, authority_of}
use Rattle.rpki_parts.specs.Uris.Tests.{rest_of, module_of, path_of, has_scheme, is_uri, is_https}
use Rattle.rpki_parts.specs.Uris.Tests.{has_module_and_path, is_rsync, are_equal}
use Rattle.rpki_parts.proofs.Slashes.{cut_is, before_has_none, from_begins, before_again, from_again}

-- ---- each octet, each segment

-- testing each element decides whether all have the property
pub all_decides : {X : Type 0} (p : X → Bool) (P : X → Type 0) → ((x : X) → Decides (p x) (P x)) → (xs : List X) →
    Decides (list_all p xs) (AllByRecursion P xs)
all_decides p P h [] = (λ _. tt, λ _. refl)
all_decides p P h (x ∷ xs) =
    let r = all_decides p P h xs in
    (λ e. let b = and_parts (p x) (list_all p xs) e in ((h x).0 b.0, r.0 b.1), λ a. and_from (p x) (list_all p xs) ((h x).1 a.0) (r.1 a.1))

octet_decides : (x : ℕ) → Decides (is_ascii_graphic x) ((0x21 ≤ x) × (x ≤ 0x7E))
octet_decides x =
    (λ e. let b = and_parts _ _ e in (leb-true 0x21 x b.0, leb-true x 0x7E b.1), λ h. and_from _ _ (le-leb 0x21 x h.0) (le-leb x 0x7E h.1))

-- testing each octet decides whether all are printable
pub printable_decides : (text : List ℕ) → Decides (list_all is_ascii_graphic text) (ArePrintable text)
printable_decides text = all_decides is_ascii_graphic (λ octet. (0x21 ≤ octet) × (octet ≤ 0x7E)) octet_decides text

pub printable_ascii : (text : List ℕ) → ArePrintable text → IsAscii text
printable_ascii [] h i = omega arith
printable_ascii (x ∷ xs) h zero = let small : x ≤ 0x7E = h.0.1 in omega arith
printable_ascii (x ∷ xs) h (suc i) = printable_ascii xs h.1 i

other_decides : (a b : List ℕ) → Decides (not (bytes_eq a b)) (a ≢ b)
other_decides a b = (
  λ e same. both_ways (bytes_eq a b) (not-true (bytes_eq a b) e) ((bytes_eq-Decides a b).1 same),
  λ h. not_from_false (bytes_eq a b)
      (false_from_ne_true (bytes_eq a b) (λ e. h ((bytes_eq-Decides a b).0 e))),
)

segment_decides : (s : List ℕ) → Decides (is_segment s) ((s ≢ codes ".") × (s ≢ codes ".."))
segment_decides s =
    let one = other_decides s (codes ".") in
    let two = other_decides s (codes "..") in (
      λ e. let b = and_parts (not (bytes_eq s (codes "."))) (not (bytes_eq s (codes ".."))) e in
          (one.0 b.0, two.0 b.1),
      λ h. and_from (not (bytes_eq s (codes "."))) (not (bytes_eq s (codes "..")))
          (one.1 h.0) (two.1 h.1),
    )

-- testing each segment decides whether none is . or ..
pub dots_decide : (path : List ℕ) → Decides (list_all is_segment (slice_split is_slash path)) (HasNoDots path)
dots_decide path = all_decides is_segment (λ s. (s ≢ codes ".") × (s ≢ codes "..")) segment_decides (slice_split is_slash path)

-- the test decides whether a text is empty
pub empty_decides : (t : List ℕ) → Decides (is_empty t) (t ≡ [])
empty_decides [] = (λ _. refl, λ _. refl)
empty_decides (x ∷ t) = (λ e. absurd cc, λ e. absurd cc)

-- the test decides whether a text isn't empty
pub filled_decides : (t : List ℕ) → Decides (not (is_empty t)) (t ≢ [])
filled_decides [] = (λ e. absurd cc, λ h. absurd (h refl))
filled_decides (x ∷ t) = (λ _ e. absurd cc, λ _. refl)

-- ---- scheme, authority and rest

written_length : (scheme a r uri : List ℕ) → length scheme ≡ 8 → (u : IsUri scheme a r uri) → length u.written ≡ 8
written_length scheme a r uri eight u = sym (length-map u.written to_ascii_lowercase) ∙ (ap length u.written_is ∙ eight)

-- the first eight octets of a URI are its scheme
pub written_again : (scheme a r uri : List ℕ) → length scheme ≡ 8 → (u : IsUri scheme a r uri) → take 8 uri ≡ u.written
written_again scheme a r uri eight u = rw u.is (take_at u.written (a ++ (r ++ [])) 8 (written_length scheme a r uri eight u))

after_again : (scheme a r uri : List ℕ) → length scheme ≡ 8 → (u : IsUri scheme a r uri) → drop 8 uri ≡ a ++ r
after_again scheme a r uri eight u =
    rw u.is (drop_at u.written (a ++ (r ++ [])) 8 (written_length scheme a r uri eight u) ∙
    ap (λ (l : List ℕ). a ++ l) (append-nil r))

-- the authority of a URI is found
pub authority_again : (scheme a r uri : List ℕ) → length scheme ≡ 8 → IsUri scheme a r uri → authority_of uri ≡ a
authority_again scheme a r uri eight u = rw (after_again scheme a r uri eight u) (before_again a r u.authority_is.1 u.rest_is)

-- what follows a URI's authority is found
pub rest_again : (scheme a r uri : List ℕ) → length scheme ≡ 8 → IsUri scheme a r uri → rest_of uri ≡ r
rest_again scheme a r uri eight u = rw (after_again scheme a r uri eight u) (from_again a r u.authority_is.1 u.rest_is)

-- a text that passes the test is a URI of the scheme
pub uri_takes : (scheme uri : List ℕ) → has_scheme scheme uri ≡ true →
    IsUri (str_to_ascii_lowercase scheme) (authority_of uri) (rest_of uri) uri
uri_takes scheme uri e =
    let b = and_parts (str_eq_ignore_ascii_case (take 8 uri) scheme) (not (is_empty (authority_of uri))) e in
    record {
      written = take 8 uri;
      written_is = (bytes_eq-Decides (str_to_ascii_lowercase (take 8 uri)) (str_to_ascii_lowercase scheme)).0 b.0;
      is = sym (take-append-drop 8 uri) ∙ ap (λ (l : List ℕ). take 8 uri ++ l)
          (cut_is (drop 8 uri) ∙ ap (λ (l : List ℕ). authority_of uri ++ l) (sym (append-nil (rest_of uri))));
      authority_is = ((filled_decides (authority_of uri)).0 b.1, before_has_none (drop 8 uri));
      rest_is = from_begins (drop 8 uri);
    }

-- a URI of the scheme passes the test
pub uri_again : (scheme a r uri : List ℕ) → length scheme ≡ 8 → str_to_ascii_lowercase scheme ≡ scheme →
    IsUri scheme a r uri → has_scheme scheme uri ≡ true
uri_again scheme a r uri eight low u =
    let written : str_to_ascii_lowercase (take 8 uri) ≡ str_to_ascii_lowercase scheme =
    rw (written_again scheme a r uri eight u) (u.written_is ∙ sym low) in
    let authority : authority_of uri ≢ [] = rw (authority_again scheme a r uri eight u) u.authority_is.0 in
    and_from (str_eq_ignore_ascii_case (take 8 uri) scheme) (not (is_empty (authority_of uri)))
    ((bytes_eq-Decides _ _).1 written) ((filled_decides (authority_of uri)).1 authority)

-- the test decides whether a text is an https URI
pub https_decides : (uri : List ℕ) → Decides (is_https uri) (IsHttps uri)
https_decides uri =
    let scheme = codes "https://" in (
      λ e.
          let b = and_parts (has_scheme scheme uri) (list_all is_ascii_graphic uri) e in
          record {
            authority = authority_of uri;
            rest = rest_of uri;
            is = uri_takes scheme uri b.0;
            printable =
                (printable_decides uri).0 b.1;
          },
      λ u. and_from (has_scheme scheme uri) (list_all is_ascii_graphic uri)
          (uri_again scheme u.authority u.rest uri refl refl u.is) ((printable_decides uri).1 u.printable),
    )

-- ---- module and path

rest_splits : (rest : List ℕ) → IsEmptyOrBeginsWithSlash rest → before_slash (drop 1 rest) ≢ [] →
    rest ≡ slash ∷ (before_slash (drop 1 rest) ++ (from_slash (drop 1 rest) ++ []))
rest_splits [] o h = absurd (h refl)
rest_splits (x ∷ m) (inl e) h = absurd cc
rest_splits (x ∷ m) (inr p) h =
    let first : x ≡ slash = cc in
    rw (append-nil (from_slash m), ← cut_is m, first) refl

tail_splits : (tail : List ℕ) → IsEmptyOrBeginsWithSlash tail → HasNoDots (drop 1 tail) →
    (tail ≡ []) ⊎ ((path : List ℕ) × (tail ≡ slash ∷ path) × HasNoDots path)
tail_splits tail (inl e) h = inl e
tail_splits tail (inr m) h = inr (m.0, m.1, subst (λ t. HasNoDots (drop 1 t)) m.1 h)

-- what follows the module is empty or begins with a slash
pub tail_begins : (tail : List ℕ) → (tail ≡ []) ⊎ ((path : List ℕ) × (tail ≡ slash ∷ path) × HasNoDots path) → IsEmptyOrBeginsWithSlash tail
tail_begins tail (inl e) = inl e
tail_begins tail (inr m) = inr (m.0, m.1)

-- an empty path has no dot segments
pub nothing_dotted : HasNoDots []
nothing_dotted = ((λ e. absurd cc, λ e. absurd cc), tt)

tail_dots : (tail : List ℕ) → (tail ≡ []) ⊎ ((path : List ℕ) × (tail ≡ slash ∷ path) × HasNoDots path) → HasNoDots (drop 1 tail)
tail_dots tail (inl e) = subst (λ t. HasNoDots (drop 1 t)) (sym e) nothing_dotted
tail_dots tail (inr m) = subst (λ t. HasNoDots (drop 1 t)) (sym m.1) m.2

-- what a URI with a module says of the parts
pub module_again : (a top tail uri : List ℕ) → IsUri (codes "rsync://") a (concat (codes "/" ∷ top ∷ tail ∷ [])) uri →
    HasNoSlash top → IsEmptyOrBeginsWithSlash tail → module_of uri ≡ top
module_again a top tail uri u name begins =
    rw (rest_again (codes "rsync://") a (concat (codes "/" ∷ top ∷ tail ∷ [])) uri refl u, append-nil tail)
    (before_again top tail name begins)

-- the path of an rsync URI is found
pub path_again : (a top tail uri : List ℕ) → IsUri (codes "rsync://") a (concat (codes "/" ∷ top ∷ tail ∷ [])) uri →
    HasNoSlash top → IsEmptyOrBeginsWithSlash tail → path_of uri ≡ drop 1 tail
path_again a top tail uri u name begins =
    rw (rest_again (codes "rsync://") a (concat (codes "/" ∷ top ∷ tail ∷ [])) uri refl u, append-nil tail)
    (ap (drop 1) (from_again top tail name begins))

rsync_takes : (uri : List ℕ) → is_rsync uri ≡ true → IsRsync uri
rsync_takes uri e =
    let b = and_parts (is_uri (codes "rsync://") uri) (has_module_and_path uri) e in
    let h = and_parts (has_scheme (codes "rsync://") uri) (list_all is_ascii_graphic uri) b.0 in
    let m = and_parts (not (is_empty (module_of uri))) (list_all is_segment (slice_split is_slash (path_of uri))) b.1 in
    let tail = from_slash (drop 1 (rest_of uri)) in
    let u = uri_takes (codes "rsync://") uri h.0 in
    let top_filled = (filled_decides (module_of uri)).0 m.0 in
    record {
      authority = authority_of uri;
      top = module_of uri;
      tail = tail;
      is = subst (λ r. IsUri (codes "rsync://") (authority_of uri) r uri) (rest_splits (rest_of uri) u.rest_is top_filled) u;
      top_is = (top_filled, before_has_none (drop 1 (rest_of uri)));
      tail_is = tail_splits tail (from_begins (drop 1 (rest_of uri))) ((dots_decide (path_of uri)).0 m.1);
      printable = (printable_decides uri).0 h.1;
    }

rsync_again : (uri : List ℕ) → IsRsync uri → is_rsync uri ≡ true
rsync_again uri u =
    let begins = tail_begins u.tail u.tail_is in
    let scheme : has_scheme (codes "rsync://") uri ≡ true = uri_again (codes "rsync://") u.authority
    (concat (codes "/" ∷ u.top ∷ u.tail ∷ [])) uri refl refl u.is in
    let top : module_of uri ≢ [] = rw (module_again u.authority u.top u.tail uri u.is u.top_is.1 begins) u.top_is.0 in
    let dots : HasNoDots (path_of uri) =
    subst HasNoDots (sym (path_again u.authority u.top u.tail uri u.is u.top_is.1 begins))
    (tail_dots u.tail u.tail_is) in
    and_from (is_uri (codes "rsync://") uri) (has_module_and_path uri)
    (and_from (has_scheme (codes "rsync://") uri) (list_all is_ascii_graphic uri) scheme
    ((printable_decides uri).1 u.printable))
    (and_from (not (is_empty (module_of uri))) (list_all is_segment (slice_split is_slash (path_of uri)))
    ((filled_decides (module_of uri)).1 top) ((dots_decide (path_of uri)).1 dots))

-- the test decides whether a text is an rsync URI
pub rsync_decides : (uri : List ℕ) → Decides (is_rsync uri) (IsRsync uri)
rsync_decides uri = (rsync_takes uri, rsync_again uri)

-- ---- equality

-- the test decides whether two URIs are equal
pub equal_decides : (scheme a r uri b s other : List ℕ) → length scheme ≡ 8 → IsUri scheme a r uri →
    IsUri scheme b s other → Decides (are_equal uri other) (AreEqual scheme uri other)
equal_decides scheme a r uri b s other eight u v =
    let same_names = bytes_eq-Decides (str_to_ascii_lowercase (authority_of uri)) (str_to_ascii_lowercase (authority_of other)) in
    let same_rests = bytes_eq-Decides (rest_of uri) (rest_of other) in (
      λ e.
          let p = and_parts (bytes_eq (str_to_ascii_lowercase (authority_of uri))
          (str_to_ascii_lowercase (authority_of other))) (bytes_eq (rest_of uri) (rest_of other)) e in
          let authorities : str_to_ascii_lowercase a ≡ str_to_ascii_lowercase b =
          rw (← authority_again scheme a r uri eight u, ← authority_again scheme b s other eight v) (same_names.0 p.0) in
          let rests : s ≡ r = sym (rest_again scheme b s other eight v) ∙ (sym (same_rests.0 p.1) ∙ rest_again scheme a r uri eight u) in
          record {
            authority = a;
            other_authority = b;
            rest = r;
            is = u;
            other_is =
                subst (λ t. IsUri scheme b t other) rests v;
            authorities = authorities;
          },
      λ q.
          let authorities : str_to_ascii_lowercase (authority_of uri) ≡ str_to_ascii_lowercase (authority_of other) =
          rw (
            authority_again scheme q.authority q.rest uri eight q.is,
            authority_again scheme q.other_authority q.rest other eight q.other_is,
          ) q.authorities in
          and_from _ _ (same_names.1 authorities)
          (same_rests.1
          (rest_again scheme q.authority q.rest uri eight q.is ∙
          sym (rest_again scheme q.other_authority q.rest other eight q.other_is))),
    )
