-- Identical URIs, and the parent of a URI.
use Rattle.std.proofs.Common.{◌≡◌, ◌≢◌, inl, inr, ℕ, ◌≤◌, List, [], ◌∷◌, ◌++◌, drop, codes, refl, sym, ap, ◌∙◌, subst}
use Rattle.std.proofs.Common.{append_assoc, append-nil, Decides}
use Rattle.std.specs.List.{AllByRecursion, concat, slice_split}
use Rattle.rpki_parts.specs.Uris.{slash, IsEmptyOrEndsWithSlash, ArePrintable, IsUri, HasNoDots, IsRsync, AreEqual}
use Rattle.rpki_parts.specs.Uris.{IsTrimmed, AreIdentical, HasPath, HasNoPath, IsParent, HasParent}
use Rattle.rpki_parts.specs.Uris.Tests.{is_slash, is_empty, path_of, are_equal, trimmed, through_slash}
use Rattle.rpki_parts.proofs.Slashes.{trimmed_is, trimmed_again, trimmed-append, through-front, through_is, through_again, segments-append}
use Rattle.rpki_parts.proofs.UriTests.{empty_decides, path_again, tail_begins, nothing_dotted, equal_decides}

-- ---- identical

trimmed_rest : (a : List ℕ) (y : ℕ) (m uri : List ℕ) → IsUri (codes "rsync://") a (slash ∷ y ∷ m) uri →
    IsUri (codes "rsync://") a (slash ∷ trimmed (y ∷ m)) (trimmed uri)
trimmed_rest a y m uri u =
    let front = u.written ++ a in
    let whole : uri ≡ front ++ slash ∷ y ∷ m =
    rw append_assoc (u.is ∙ ap (λ (l : List ℕ). u.written ++ (a ++ l)) (append-nil (slash ∷ y ∷ m))) in
    let cut : trimmed uri ≡ front ++ slash ∷ trimmed (y ∷ m) = rw whole (trimmed-append front slash (y ∷ m)) in
    record {
      written = u.written;
      written_is = u.written_is;
      is = cut ∙ (append_assoc u.written a (slash ∷ trimmed (y ∷ m)) ∙ ap (λ (l : List ℕ). u.written ++ (a ++ l))
          (sym (append-nil (slash ∷ trimmed (y ∷ m)))));
      authority_is = u.authority_is;
      rest_is = inr (trimmed (y ∷ m), refl);
    }

-- an rsync URI without one slash at its end is a URI with the authority that it had
pub trimmed_top : (a top tail uri : List ℕ) → top ≢ [] →
    IsUri (codes "rsync://") a (concat (codes "/" ∷ top ∷ tail ∷ [])) uri →
    (rest : List ℕ) × IsUri (codes "rsync://") a rest (trimmed uri)
trimmed_top a [] tail uri h u = absurd (h refl)
trimmed_top a (y ∷ top) tail uri h u = (slash ∷ trimmed (y ∷ (top ++ (tail ++ []))), trimmed_rest a y (top ++ (tail ++ [])) uri u)

-- two rsync URIs are identical where they compare equal when trimmed
pub identical_decides : (uri other : List ℕ) → IsRsync uri → IsRsync other →
    Decides (are_equal (trimmed uri) (trimmed other)) (AreIdentical uri other)
identical_decides uri other r s =
    let u = trimmed_top r.authority r.top r.tail uri r.top_is.0 r.is in
    let v = trimmed_top s.authority s.top s.tail other s.top_is.0 s.is in
    let d = equal_decides (codes "rsync://") r.authority u.0 (trimmed uri) s.authority v.0 (trimmed other) refl u.1 v.1 in (
      λ e. record { trimmed = trimmed uri; other_trimmed = trimmed other; is = trimmed_is uri; other_is = trimmed_is other; equal = d.0 e },
      λ i.
          let first = trimmed_again uri i.trimmed i.is in
          let second = trimmed_again other i.other_trimmed i.other_is in
          d.1 (subst (λ t. AreEqual (codes "rsync://") t (trimmed other)) (sym first)
          (subst (λ t. AreEqual (codes "rsync://") i.trimmed t) (sym second) i.equal)),
    )

-- ---- the parent

-- what stands before a path ends with a slash
record IsBefore (front path uri : List ℕ) : Type 0 where
  pub f : List ℕ
  pub front_is : front ≡ f ++ slash ∷ []
  pub is : uri ≡ f ++ slash ∷ path

before_path : (front path uri : List ℕ) → HasPath front path uri → IsBefore front path uri
before_path front path uri h =
    record {
      f = h.is.written ++ (h.authority ++ (slash ∷ h.top));
      front_is = h.front_is ∙ simp append_assoc;
      is = h.is.is ∙ simp (append_assoc, append-nil);
    }

-- the path of an rsync URI is found
pub path_found : (front path uri : List ℕ) → HasPath front path uri → path_of uri ≡ path
path_found front path uri h =
    let u : IsUri (codes "rsync://") h.authority (concat (codes "/" ∷ h.top ∷ (slash ∷ path) ∷ [])) uri = h.is in
    path_again h.authority h.top (slash ∷ path) uri u h.top_is.1 (inr (path, refl))

trimmed-path : (f path : List ℕ) → path ≢ [] → trimmed (f ++ slash ∷ path) ≡ f ++ slash ∷ trimmed path
trimmed-path f [] h = absurd (h refl)
trimmed-path f (y ∷ path) h = trimmed-append f slash (y ∷ path)

parent_kept : (front path uri kept name : List ℕ) → HasPath front path uri → path ≢ [] → trimmed path ≡ kept ++ name →
    through_slash (kept ++ name) ≡ kept → through_slash (trimmed uri) ≡ front ++ kept
parent_kept front path uri kept name h filled split through =
    let b = before_path front path uri h in
    let cut : trimmed uri ≡ b.f ++ slash ∷ trimmed path = ap trimmed b.is ∙ trimmed-path b.f path filled in
    let last : through_slash (trimmed path) ≡ kept = ap through_slash split ∙ through in
    ap through_slash cut ∙
    (through-front b.f (trimmed path) ∙
    (ap (λ (l : List ℕ). b.f ++ slash ∷ l) last ∙
    (sym (append_assoc b.f (slash ∷ []) kept) ∙ ap (λ (l : List ℕ). l ++ kept) (sym b.front_is))))

-- the parent is the trimmed URI through its last slash
pub parent_again : (uri parent : List ℕ) → IsParent uri parent → through_slash (trimmed uri) ≡ parent
parent_again uri parent p =
    let split : trimmed p.path ≡ p.kept ++ p.name = trimmed_again p.path p.trimmed p.trimmed_is ∙ p.split in
    parent_kept p.front p.path uri p.kept p.name p.is p.path_is split (through_again p.kept p.name p.name_is p.kept_is) ∙ sym p.parent_is

-- a path that isn't empty
pub record HasFilledPath (uri : List ℕ) : Type 0 where
  pub front : List ℕ
  pub path : List ℕ
  pub is : HasPath front path uri
  pub path_is : path ≢ []
  pub dots : HasNoDots path

path_is_tail : (uri : List ℕ) (r : IsRsync uri) → path_of uri ≡ drop 1 r.tail
path_is_tail uri r = path_again r.authority r.top r.tail uri r.is r.top_is.1 (tail_begins r.tail r.tail_is)

filled_path : (uri : List ℕ) → IsRsync uri → path_of uri ≢ [] → HasFilledPath uri
filled_path uri r filled =
    elim r.tail_is [
      | inl e ↦ absurd (filled (path_is_tail uri r ∙ ap (drop 1) e))
      | inr m ↦
          let u : IsUri (codes "rsync://") r.authority (concat (codes "/" ∷ r.top ∷ codes "/" ∷ m.0 ∷ [])) uri =
          subst (λ t. IsUri (codes "rsync://") r.authority (concat (codes "/" ∷ r.top ∷ t ∷ [])) uri) m.1 r.is in
          record {
            front = concat (u.written ∷ r.authority ∷ codes "/" ∷ r.top ∷ codes "/" ∷ []);
            path = m.0;
            is = record { authority = r.authority; top = r.top; is = u; top_is = r.top_is; front_is = refl };
            path_is = λ e. filled (path_is_tail uri r ∙ (ap (drop 1) m.1 ∙ e));
            dots = m.2;
          }
    ]

-- the trimmed URI through its last slash is the parent
pub parent_takes : (uri : List ℕ) → IsRsync uri → path_of uri ≢ [] → IsParent uri (through_slash (trimmed uri))
parent_takes uri r filled =
    let p = filled_path uri r filled in
    let k = through_is (trimmed p.path) in
    record {
      front = p.front;
      path = p.path;
      trimmed = trimmed p.path;
      kept = through_slash (trimmed p.path);
      name = k.name;
      is = p.is;
      path_is = p.path_is;
      trimmed_is = trimmed_is p.path;
      split = k.split;
      kept_is = k.kept_is;
      name_is = k.name_is;
      parent_is = parent_kept p.front p.path uri (through_slash (trimmed p.path)) k.name p.is p.path_is k.split
          (through_again (through_slash (trimmed p.path)) k.name k.name_is k.kept_is);
    }

-- ---- the parent is a URI

front_of : {X : Type 0} (P : X → Type 0) (a b : List X) → AllByRecursion P (a ++ b) → AllByRecursion P a
front_of P [] b h = tt
front_of P (x ∷ a) b h = (h.0, front_of P a b h.1)

joined : {X : Type 0} (P : X → Type 0) (a b : List X) → AllByRecursion P a → AllByRecursion P b → AllByRecursion P (a ++ b)
joined P [] b g h = h
joined P (x ∷ a) b g h = (g.0, joined P a b g.1 h)

abbrev IsPlain : List ℕ → Type 0
IsPlain s = (s ≢ codes ".") × (s ≢ codes "..")

dots_before : (a b : List ℕ) → HasNoDots (a ++ slash ∷ b) → HasNoDots a
dots_before a b h = front_of IsPlain (slice_split is_slash a) (slice_split is_slash b)
    (subst (AllByRecursion IsPlain) (segments-append a b) h)

dots_ended : (a : List ℕ) → HasNoDots a → HasNoDots (a ++ slash ∷ [])
dots_ended a h = subst (AllByRecursion IsPlain) (sym (segments-append a []))
    (joined IsPlain (slice_split is_slash a) (slice_split is_slash []) h nothing_dotted)

dots_trimmed : (path t : List ℕ) → IsTrimmed path t → HasNoDots path → HasNoDots t
dots_trimmed path t (inl e) h = dots_before t [] (subst HasNoDots e h)
dots_trimmed path t (inr m) h = subst HasNoDots m.0 h

dots_kept : (kept name : List ℕ) → IsEmptyOrEndsWithSlash kept → HasNoDots (kept ++ name) → HasNoDots kept
dots_kept kept name (inl e) h = subst HasNoDots (sym e) nothing_dotted
dots_kept kept name (inr m) h =
    let whole : kept ++ name ≡ m.0 ++ slash ∷ name = ap (λ (l : List ℕ). l ++ name) m.1 ∙ append_assoc m.0 (slash ∷ []) name in
    subst HasNoDots (sym m.1) (dots_ended m.0 (dots_before m.0 name (subst HasNoDots whole h)))

trimmed_front : (path t : List ℕ) → IsTrimmed path t → (end : List ℕ) × (path ≡ t ++ end)
trimmed_front path t (inl e) = (slash ∷ [], e)
trimmed_front path t (inr m) = ([], m.0 ∙ sym (append-nil t))

-- the trimmed URI through its last slash is an rsync URI
pub parent_rsync : (uri : List ℕ) → IsRsync uri → path_of uri ≢ [] → IsRsync (through_slash (trimmed uri))
parent_rsync uri r filled =
    let p = filled_path uri r filled in
    let parent = through_slash (trimmed uri) in
    let k = through_is (trimmed p.path) in
    let kept = through_slash (trimmed p.path) in
    let e : parent ≡ p.front ++ kept = parent_kept p.front p.path uri kept k.name p.is p.path_is k.split
    (through_again kept k.name k.name_is k.kept_is) in
    let b = before_path p.front p.path uri p.is in
    let end = trimmed_front p.path (trimmed p.path) (trimmed_is p.path) in
    let path_whole : p.path ≡ (kept ++ k.name) ++ end.0 = end.1 ∙ ap (λ (l : List ℕ). l ++ end.0) k.split in
    let front_path : p.front ++ p.path ≡ uri = ap (λ (l : List ℕ). l ++ p.path) b.front_is ∙
    (append_assoc b.f (slash ∷ []) p.path ∙ sym b.is) in
    let whole : uri ≡ (p.front ++ kept) ++ (k.name ++ end.0) = sym front_path ∙
    (ap (λ (l : List ℕ). p.front ++ l) path_whole ∙ simp append_assoc) in
    let u : IsUri (codes "rsync://") p.is.authority (concat (codes "/" ∷ p.is.top ∷ (slash ∷ kept) ∷ [])) parent = record {
      written = p.is.is.written;
      written_is = p.is.is.written_is;
      is = e ∙ (ap (λ (l : List ℕ). l ++ kept) p.is.front_is ∙ simp (append_assoc, append-nil));
      authority_is = p.is.is.authority_is;
      rest_is = inr (p.is.top ++ ((slash ∷ kept) ++ []), refl);
    } in
    record {
      authority = p.is.authority;
      top = p.is.top;
      tail = slash ∷ kept;
      is = u;
      top_is = p.is.top_is;
      tail_is = inr (
        kept,
        refl,
        dots_kept kept k.name k.kept_is
            (subst HasNoDots k.split (dots_trimmed p.path (trimmed p.path) (trimmed_is p.path) p.dots)),
      );
      printable = subst ArePrintable (sym e)
          (front_of (λ octet. (0x21 ≤ octet) × (octet ≤ 0x7E)) (p.front ++ kept) (k.name ++ end.0)
          (subst ArePrintable whole r.printable));
    }

-- a URI without path has an empty one
pub empty_path : (uri : List ℕ) → HasNoPath uri → path_of uri ≡ []
empty_path uri h = elim h.tail_is [
  | inl e ↦ path_again h.authority h.top h.tail uri h.is h.top_is.1 (inl e) ∙ ap (drop 1) e
  | inr e ↦ path_again h.authority h.top h.tail uri h.is h.top_is.1 (inr ([], e)) ∙ ap (drop 1) e
]

-- a URI has no path where the path that is found is empty
pub no_path_decides : (uri : List ℕ) → IsRsync uri → Decides (is_empty (path_of uri)) (HasNoPath uri)
no_path_decides uri r = (
  λ e.
      let none = sym (path_is_tail uri r) ∙ (empty_decides (path_of uri)).0 e in
      record {
        authority = r.authority;
        top = r.top;
        tail = r.tail;
        is = r.is;
        top_is = r.top_is;
        tail_is = elim r.tail_is [
          | inl f ↦ inl f
          | inr m ↦ inr (m.1 ∙ ap (λ (l : List ℕ). slash ∷ l) (sym (ap (drop 1) m.1) ∙ none))
        ];
      },
  λ h. (empty_decides (path_of uri)).1 (empty_path uri h),
)

-- a URI has one parent
pub one_parent : (uri p q : List ℕ) → IsParent uri p → IsParent uri q → p ≡ q
one_parent uri p q h g = sym (parent_again uri p h) ∙ parent_again uri q g

-- a parent stands only where the path isn't empty
pub never_both : (uri p : List ℕ) → HasNoPath uri → IsParent uri p → ⊥
never_both uri p none h = h.path_is (sym (path_found h.front h.path uri h.is) ∙ empty_path uri none)

-- the parent is identical to what is identical to one
pub the_parent : (uri parent other : List ℕ) → IsParent uri parent → HasParent uri other → AreIdentical parent other
the_parent uri parent other p h = subst (λ t. AreIdentical t other) (one_parent uri h.parent parent h.is p) h.identical
