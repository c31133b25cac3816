-- Files that are lists, one after the other.
use Rattle.std.proofs.Common.{◌≡◌, ◌+◌, ◌<◌, ◌≤◌, ℕ, List, [], ◌∷◌, ◌++◌, length, take, get_or, true, refl, sym, ap, subst, inl, inr}
use Rattle.std.proofs.lemmas.List.{take_all}
use Rattle.rpki_crl.specs.Lists.{CrlState, IsCertificateList}
use Rattle.rpki_files.specs.Contents.{IsList}
use Rattle.rpki_path.proofs.LatestLists.{gone_over}
use Rattle.rpki_verdicts.specs.PathFiles.{AreListsOf}

-- a further file that is none
pub lists_same : (files : List (List ℕ)) (lists : List CrlState) → AreListsOf files lists → (octets : List ℕ) →
    (IsList octets → ⊥) → AreListsOf (files ++ octets ∷ []) lists
lists_same [] lists h octets none = inl (none, h)
lists_same (f ∷ fs) lists (inl h) octets none = inl (h.0, lists_same fs lists h.1 octets none)
lists_same (f ∷ fs) lists (inr h) octets none = inr (h.0, h.1, h.2, h.3, lists_same fs h.1 h.4 octets none, h.5)

-- a further file that is one
pub lists_more : (files : List (List ℕ)) (lists : List CrlState) → AreListsOf files lists →
    (octets : List ℕ) (l : CrlState) → IsCertificateList l.list octets → l.is_cached ≡ true
    → AreListsOf (files ++ octets ∷ []) (lists ++ l ∷ [])
lists_more [] lists h octets l means cached = inr (l, [], means, cached, refl, ap (λ (ls : List CrlState). ls ++ l ∷ []) h)
lists_more (f ∷ fs) lists (inl h) octets l means cached = inl (h.0, lists_more fs lists h.1 octets l means cached)
lists_more (f ∷ fs) lists (inr h) octets l means cached =
    inr (h.0, h.1 ++ l ∷ [], h.2, h.3, lists_more fs h.1 h.4 octets l means cached, ap (λ (ls : List CrlState). ls ++ l ∷ []) h.5)

module _ (files : List (List ℕ)) (lists : List CrlState) (i : ℕ) (octets : List ℕ) (low : i < length files)
    (there : octets ≡ get_or files i octets) (read : AreListsOf (take i files) lists) where
  -- the next file is none
  pub next_same : (IsList octets → ⊥) → AreListsOf (take (i + 1) files) lists
  next_same none = subst (λ (l : List (List ℕ)). AreListsOf l lists) (sym (gone_over files i octets low there))
      (lists_same (take i files) lists read octets none)

  -- the next file is one
  pub next_more : (l : CrlState) → IsCertificateList l.list octets → l.is_cached ≡ true → AreListsOf (take (i + 1) files) (lists ++ l ∷ [])
  next_more l means cached = subst (λ (fs : List (List ℕ)). AreListsOf fs (lists ++ l ∷ []))
      (sym (gone_over files i octets low there)) (lists_more (take i files) lists read octets l means cached)

-- behind the last file
pub all_lists : (files : List (List ℕ)) (lists : List CrlState) (i : ℕ) → length files ≤ i →
    AreListsOf (take i files) lists → AreListsOf files lists
all_lists files lists i high read = subst (λ (fs : List (List ℕ)). AreListsOf fs lists) (take_all i files high) read
