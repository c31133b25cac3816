-- One string more, sorted into a folder.
use Rattle.std.specs.Prelude.{◌⊎◌}
use Rattle.std.proofs.Common.{◌≡◌, ◌+◌, ◌<◌, ◌≤◌, ℕ, List, [], ◌∷◌, ◌++◌, length, get_or, refl, sym, ap, subst, ◌∙◌}
use Rattle.std.proofs.Common.{inl, inr, arith}
use Rattle.std.proofs.Math.ListN.{get_or-append}
use Rattle.std.proofs.Math.Nat.{eq-or-lt_of_le}
use Rattle.std.proofs.Math.Seq.{get_or-append_seam}
use Rattle.std.proofs.lemmas.List.{length-append}
use Rattle.rpki_ext.specs.Kinds.{Means}
use Rattle.rpki_cert.specs.Certificates.{CertFields, IsCertificate}
use Rattle.rpki_crl.specs.Lists.{CrlState}
use Rattle.rpki_folder.specs.Folders.{FolderFields, with_cert, with_list, string_at, BeginsNoCertificate}
use Rattle.rpki_folder.specs.declared.folder.Added.{Added}
use Rattle.rpki_folder.specs.declared.folder.Added.TheVariants.{Certificate, List as list_added, Neither}
use Rattle.rpki_c.specs.Verdicts.{AreNoList}
use Rattle.rpki_c.specs.FolderFates.{IsTakenFor, IsTakenForNoList, AreListsAmong, AreCertificatesAmong, IsFiledAs}
use Rattle.rpki_c.specs.FolderFates.{IsAddedAs, AreSorted, IsSorted}
use Rattle.rpki_c.specs.declared.sorting.Sorted.{Sorted}
use Rattle.rpki_c.proofs.OneMore.{keep_push, pass_push}

-- ---- lists

certificate_no_list : (octets : List ℕ) (c : CertFields) → Means IsCertificate c octets → IsTakenForNoList octets
certificate_no_list octets c means l taken = taken.no_certificate c means

neither_no_list : (octets : List ℕ) → AreNoList octets → IsTakenForNoList octets
neither_no_list octets never l taken = never l.list taken.list_is

-- ---- places

module _ (strings : List (List ℕ)) (octets : List ℕ) where
  abbrev more : List (List ℕ)
  more = strings ++ octets ∷ []

  longer : length more ≡ length strings + 1
  longer = length-append strings (octets ∷ [])

  old_string : (i : ℕ) → i < length strings → string_at more i ≡ string_at strings i
  old_string i h = get_or-append strings (octets ∷ []) [] i h

  new_string : string_at more (length strings) ≡ octets
  new_string = get_or-append_seam strings octets [] []

  old_or_new : (i : ℕ) → i < length more → (i ≡ length strings) ⊎ (i < length strings)
  old_or_new i h = let low : i ≤ length strings = omega (arith, longer) in eq-or-lt_of_le low

  module _ (f : FolderFields) (added : List Added) (origins : List ℕ) (old : AreSorted strings f added origins)
      (one : Added) where
    abbrev addeds : List Added
    addeds = added ++ one ∷ []

    count_more : length addeds ≡ length more
    count_more = let e = old.count in omega (arith, longer, length-append added (one ∷ []), e)

    old_added : (i : ℕ) (d : Added) → i < length strings → get_or addeds i d ≡ get_or added i d
    old_added i d h = let e = old.count in get_or-append added (one ∷ []) d i (omega (arith, h, e))

    new_added : (d : Added) → get_or addeds (length strings) d ≡ one
    new_added d = subst (λ (n : ℕ). get_or addeds n d ≡ one) old.count (get_or-append_seam added one [] d)

    begins_more : IsAddedAs octets one → (i : ℕ) (d : Added) → i < length more →
        IsAddedAs (string_at more i) (get_or addeds i d)
    begins_more says i d h = elim (old_or_new i h) [
      | inl is ↦ subst (λ (n : ℕ). IsAddedAs (string_at more n) (get_or addeds n d)) (sym is)
          (subst (λ (o : List ℕ). IsAddedAs o (get_or addeds (length strings) d)) (sym new_string)
          (subst (λ (a : Added). IsAddedAs octets a) (sym (new_added d)) says))
      | inr low ↦ subst (λ (o : List ℕ). IsAddedAs o (get_or addeds i d)) (sym (old_string i low))
          (subst (λ (a : Added). IsAddedAs (string_at strings i) a) (sym (old_added i d low)) (old.begins i d low))
    ]

    -- what is no certificate leaves the certificates where they are
    module _ (g : FolderFields) (same : g.certs ≡ f.certs) where
      still_inside : (place d : ℕ) → place < length g.certs → get_or origins place d < length more
      still_inside place d h =
          let low : place < length f.certs = subst (λ (l : List (List ℕ)). place < length l) same h in
          let there = old.inside place d low in
          omega (arith, longer, there)

      still_from : (place d : ℕ) → place < length g.certs →
          string_at more (get_or origins place d) ≡ string_at g.certs place
      still_from place d h =
          let low : place < length f.certs = subst (λ (l : List (List ℕ)). place < length l) same h in
          old_string (get_or origins place d) (old.inside place d low) ∙ old.came_from place d low ∙
          ap (λ (l : List (List ℕ)). string_at l place) (sym same)

      still_placed : ((place : ℕ) → one ≡ Certificate place → ⊥) → (i place : ℕ) (d : Added) → i < length more →
          get_or addeds i d ≡ Certificate place →
          (place < length g.certs) × ((e : ℕ) → get_or origins place e ≡ i)
      still_placed never i place d h is = elim (old_or_new i h) [
        | inl new ↦ absurd (never place (sym (new_added d) ∙ ap (λ (n : ℕ). get_or addeds n d) (sym new) ∙ is))
        | inr low ↦
            let p = old.placed i place d low (sym (old_added i d low) ∙ is) in
            (subst (λ (l : List (List ℕ)). place < length l) (sym same) p.0, p.1)
      ]

      other_more : ((place : ℕ) → one ≡ Certificate place → ⊥) → IsAddedAs octets one → BeginsNoCertificate octets →
          AreListsAmong more g.lists → AreSorted more g addeds origins
      other_more never says no_cert lists = record {
        count = count_more;
        origin_count = old.origin_count ∙ ap (λ (l : List (List ℕ)). length l) (sym same);
        inside = still_inside;
        ascend = λ place other d e less h. old.ascend place other d e less
            (subst (λ (l : List (List ℕ)). other < length l) same h);
        came_from = still_from;
        begins = begins_more says;
        placed = still_placed never;
        lists_are = lists;
        certs_are = subst (λ (l : List (List ℕ)). AreCertificatesAmong more l) (sym same)
            (pass_push BeginsNoCertificate IsFiledAs strings f.certs octets old.certs_are no_cert);
      }

module _ (strings : List (List ℕ)) (octets : List ℕ) (f g : FolderFields) (added addeds : List Added)
    (origins : List ℕ) (old : AreSorted strings f added origins) where
  -- a string that is taken for a list
  pub sorted_list : (l : CrlState) → IsTakenFor octets l → g ≡ with_list f l → addeds ≡ added ++ list_added ∷ [] →
      AreSorted (strings ++ octets ∷ []) g addeds origins
  sorted_list l taken folder items =
      subst (λ (l : List Added). AreSorted (strings ++ octets ∷ []) g l origins) (sym items)
      (subst (λ (h : FolderFields). AreSorted (strings ++ octets ∷ []) h (added ++ list_added ∷ []) origins)
      (sym folder)
      (other_more strings octets f added origins old list_added (with_list f l) refl (λ place e. cc) (l, taken)
      taken.no_certificate (keep_push IsTakenForNoList IsTakenFor strings f.lists octets l old.lists_are taken)))

  -- a string that begins with neither
  pub sorted_neither : BeginsNoCertificate octets → AreNoList octets → g ≡ f → addeds ≡ added ++ Neither ∷ [] →
      AreSorted (strings ++ octets ∷ []) g addeds origins
  sorted_neither no_cert no_list folder items =
      subst (λ (l : List Added). AreSorted (strings ++ octets ∷ []) g l origins) (sym items)
      (subst (λ (h : FolderFields). AreSorted (strings ++ octets ∷ []) h (added ++ Neither ∷ []) origins) (sym folder)
      (other_more strings octets f added origins old Neither f refl (λ place e. cc) (no_cert, no_list) no_cert
      (pass_push IsTakenForNoList IsTakenFor strings f.lists octets old.lists_are (neither_no_list octets no_list))))

-- ---- a certificate

module _ (strings : List (List ℕ)) (octets : List ℕ) (f : FolderFields) (added : List Added) (origins : List ℕ)
    (old : AreSorted strings f added origins) (c : CertFields) (means : Means IsCertificate c octets) where
  abbrev g : FolderFields
  g = with_cert f octets

  abbrev froms : List ℕ
  froms = origins ++ length strings ∷ []

  abbrev one : Added
  one = Certificate (length f.certs)

  more_certs : length g.certs ≡ length f.certs + 1
  more_certs = length-append f.certs (octets ∷ [])

  more_origins : length froms ≡ length origins + 1
  more_origins = length-append origins (length strings ∷ [])

  old_or_last : (place : ℕ) → place < length g.certs → (place ≡ length f.certs) ⊎ (place < length f.certs)
  old_or_last place h = let low : place ≤ length f.certs = omega (arith, more_certs) in eq-or-lt_of_le low

  old_origin : (place d : ℕ) → place < length f.certs → get_or froms place d ≡ get_or origins place d
  old_origin place d h = let e = old.origin_count in
      get_or-append origins (length strings ∷ []) d place (omega (arith, h, e))

  new_origin : (d : ℕ) → get_or froms (length f.certs) d ≡ length strings
  new_origin d = subst (λ (n : ℕ). get_or froms n d ≡ length strings) old.origin_count
      (get_or-append_seam origins (length strings) [] d)

  cert_inside : (place d : ℕ) → place < length g.certs → get_or froms place d < length (strings ++ octets ∷ [])
  cert_inside place d h = elim (old_or_last place h) [
    | inl is ↦ let there : get_or froms place d ≡ length strings = ap (λ (n : ℕ). get_or froms n d) is ∙
        new_origin d in omega (arith, longer strings octets, there)
    | inr low ↦ let there = old.inside place d low in let same = old_origin place d low in
        omega (arith, longer strings octets, there, same)
  ]

  cert_ascend : (place other d e : ℕ) → place < other → other < length g.certs →
      get_or froms place d < get_or froms other e
  cert_ascend place other d e less h = elim (old_or_last other h) [
    | inl is ↦
        let before : place < length f.certs = omega (arith, less, is) in
        let here = old_origin place d before in
        let there : get_or froms other e ≡ length strings = ap (λ (n : ℕ). get_or froms n e) is ∙ new_origin e in
        let within = old.inside place d before in
        omega (arith, here, there, within)
    | inr low ↦
        let before : place < length f.certs = omega (arith, less, low) in
        let here = old_origin place d before in
        let there = old_origin other e low in
        let later = old.ascend place other d e less low in
        omega (arith, here, there, later)
  ]

  cert_from : (place d : ℕ) → place < length g.certs → string_at (strings ++ octets ∷ []) (get_or froms place d) ≡
      string_at g.certs place
  cert_from place d h = elim (old_or_last place h) [
    | inl is ↦ ap (λ (n : ℕ). string_at (strings ++ octets ∷ []) n)
        (ap (λ (n : ℕ). get_or froms n d) is ∙ new_origin d) ∙ new_string strings octets
        ∙ sym (ap (λ (n : ℕ). string_at g.certs n) is ∙ get_or-append_seam f.certs octets [] [])
    | inr low ↦ ap (λ (n : ℕ). string_at (strings ++ octets ∷ []) n) (old_origin place d low) ∙
        old_string strings octets (get_or origins place d) (old.inside place d low)
        ∙ old.came_from place d low ∙ sym (get_or-append f.certs (octets ∷ []) [] place low)
  ]

  cert_placed : (i place : ℕ) (d : Added) → i < length (strings ++ octets ∷ []) →
      get_or (added ++ one ∷ []) i d ≡ Certificate place →
      (place < length g.certs) × ((e : ℕ) → get_or froms place e ≡ i)
  cert_placed i place d h is = elim (old_or_new strings octets i h) [
    | inl new ↦
        let same : one ≡ Certificate place = sym (new_added strings octets f added origins old one d) ∙
        ap (λ (n : ℕ). get_or (added ++ one ∷ []) n d) (sym new) ∙ is in
        let at : place ≡ length f.certs = cc in
        (omega (arith, more_certs, at), λ e. ap (λ (n : ℕ). get_or froms n e) at ∙ new_origin e ∙ sym new)
    | inr low ↦
        let p = old.placed i place d low (sym (old_added strings octets f added origins old one i d low) ∙ is) in
        let inside = p.0 in
        (omega (arith, more_certs, inside), λ e. old_origin place e inside ∙ p.1 e)
  ]

  cert_more : AreSorted (strings ++ octets ∷ []) g (added ++ one ∷ []) froms
  cert_more = record {
    count = count_more strings octets f added origins old one;
    origin_count = let e = old.origin_count in omega (arith, more_certs, more_origins, e);
    inside = cert_inside;
    ascend = cert_ascend;
    came_from = cert_from;
    begins = begins_more strings octets f added origins old one (c, means);
    placed = cert_placed;
    lists_are = pass_push IsTakenForNoList IsTakenFor strings f.lists octets old.lists_are
        (certificate_no_list octets c means);
    certs_are = keep_push BeginsNoCertificate IsFiledAs strings f.certs octets octets old.certs_are (refl, (c, means));
  }

  -- a string that begins with a certificate
  pub sorted_cert : (h : FolderFields) (addeds : List Added) (more_froms : List ℕ) → h ≡ g →
      addeds ≡ added ++ one ∷ [] → more_froms ≡ froms → AreSorted (strings ++ octets ∷ []) h addeds more_froms
  sorted_cert h addeds more_froms folder items from =
      subst (λ (ns : List ℕ). AreSorted (strings ++ octets ∷ []) h addeds ns) (sym from)
      (subst (λ (l : List Added). AreSorted (strings ++ octets ∷ []) h l froms) (sym items)
      (subst (λ (k : FolderFields). AreSorted (strings ++ octets ∷ []) k (added ++ one ∷ []) froms) (sym folder)
      cert_more))

-- ---- places

-- a certificate that was added stands in the folder as the string at its place
pub filed_at : (s : Sorted) → IsSorted s → (place at : ℕ) → place < length s.strings.now →
    get_or s.added.items place Neither ≡ Certificate at
    → (at < length s.folder.certs) × (string_at s.folder.certs at ≡ string_at s.strings.now place)
filed_at s sorted place at inside is =
    let placed = sorted.placed place at Neither inside is in
    (placed.0, sym (sorted.came_from at 0 placed.0) ∙ ap (λ (n : ℕ). string_at s.strings.now n) (placed.1 0))
