-- Paths through a folder: the places of their CAs, and what leads down them.
use Rattle.std.specs.List.{AllByRecursion, AllZip}
use Rattle.std.specs.Prelude.{Bool}
use Rattle.std.proofs.Common.{List, [], ap, arith, get_or, length, map, refl, subst, suc, sym, zero, ℕ, ◌++◌, ◌+◌, ◌<◌, ◌∙◌, ◌∷◌, ◌≡◌}
use Rattle.std.proofs.lemmas.List.Elements.{Contains-get_or}
use Rattle.rpki_der.specs.Values.{IsUnambiguous}
use Rattle.rpki_ext.specs.Kinds.{Means}
use Rattle.rpki_cert.specs.Certificates.{CertFields, IsCertificate}
use Rattle.rpki_cert.specs.Verification.{Context, ResourceFields}
use Rattle.rpki_cert.specs.declared.inspect.Kind.{Kind}
use Rattle.rpki_keys.specs.Locators.{NamedTal}
use Rattle.rpki_path.specs.AskedLists.{by_named_lists}
use Rattle.rpki_path.specs.LocatedPaths.{IsValidFrom, ListsSome}
use Rattle.rpki_path.specs.Paths.{Candidate, HasHeld, IsMember, IsPathOf, Member, Path, candidate, certificate_at, last, longer, member}
use Rattle.rpki_path.proofs.LongerPaths.{zip_more}
use Rattle.rpki_path.proofs.Rejections.{one_path}
use Rattle.rpki_folder.specs.Folders.{FolderFields, cas_at, string_at}
use Rattle.rpki_folder.specs.Strangers.{HasCertificate, LeadsThrough}
use Rattle.rpki_folder.specs.Walks.{LeadsTo, StandsAt, at_anchor}
use Rattle.rpki_folder.proofs.Descent.{there as inside_at}

-- ---- places

pub default_same : {X : Type 0} (l : List X) (k : ℕ) (d e : X) → k < length l → get_or l k d ≡ get_or l k e
default_same [] k d e low = absurd (omega (arith, low))
default_same (y ∷ l) zero d e low = refl
default_same (y ∷ l) (suc k) d e low = default_same l k d e (omega (arith, low))

module _ (folder : FolderFields) where
  -- a certificate of the folder stands at a place
  pub place_of : (c : CertFields) → HasCertificate folder c → (place : ℕ) × StandsAt folder.certs place c
  place_of c (octets, (k, low, is), means) = (
    k,
    subst (λ (o : List ℕ). Means IsCertificate c o) (sym (default_same folder.certs k [] octets low ∙ is))
        means,
  )

  -- what stands at one is of the folder
  pub has_there : (place : ℕ) (c : CertFields) → StandsAt folder.certs place c → HasCertificate folder c
  has_there place c stands = (
    string_at folder.certs place,
    Contains-get_or folder.certs place [] (inside_at folder.certs c place stands),
    stands,
  )

  abbrev Has : Member → Type 0
  Has m = HasCertificate folder m.cert

  pub have : (ms : List Member) (places : List ℕ) → AllZip IsMember ms (cas_at folder.certs places) → AllByRecursion Has ms
  have [] places h = tt
  have (m ∷ ms) [] h = absurd h
  have (m ∷ ms) (p ∷ places) h = (has_there p m.cert h.0.begins, have ms places h.1)

  pub as_many : (ms : List Member) (places : List ℕ) → AllZip IsMember ms (cas_at folder.certs places) → length places ≡ length ms
  as_many [] [] h = refl
  as_many [] (p ∷ places) h = absurd h
  as_many (m ∷ ms) [] h = absurd h
  as_many (m ∷ ms) (p ∷ places) h = ap suc (as_many ms places h.1)

  -- by the number of the member, and for each
  indexed : (ms : List Member) (d : CertFields) → AllByRecursion Has ms → (i : ℕ) → i < length ms →
      HasCertificate folder (get_or (map (λ (m : Member). m.cert) ms) i d)
  indexed [] d has i low = absurd (omega (arith, low))
  indexed (m ∷ ms) d has zero low = has.0
  indexed (m ∷ ms) d has (suc i) low = indexed ms d has.1 i (omega (arith, low))

  below_has : (p : Path) → AllByRecursion Has p.below → (i : ℕ) → i < last p → HasCertificate folder (certificate_at p (i + 1))
  below_has p has i low =
      let next : suc i ≡ i + 1 = omega arith in
      subst (λ (n : ℕ). HasCertificate folder (certificate_at p n)) next (indexed p.below p.anchor has i low)

-- what is so of the certificate at each index is so of each member
module _ (P : CertFields → Type 0) where
  each : (ms : List Member) (d : CertFields) →
      ((i : ℕ) → i < length ms → P (get_or (map (λ (m : Member). m.cert) ms) i d)) →
      AllByRecursion (λ (m : Member). P m.cert) ms
  each [] d has = tt
  each (m ∷ ms) d has = (has 0 (omega arith), each ms d (λ i low. has (suc i) (omega (arith, low))))

  pub all_below : (p : Path) → ((i : ℕ) → i < last p → P (certificate_at p (i + 1))) → AllByRecursion (λ (m : Member). P m.cert) p.below
  all_below p has = each p.below p.anchor (λ i low.
      let next : i + 1 ≡ suc i = omega arith in
      subst (λ (n : ℕ). P (certificate_at p n)) next (has i low))

pub all_front : {X : Type 0} (P : X → Type 0) (xs ys : List X) → AllByRecursion P (xs ++ ys) → AllByRecursion P xs
all_front P [] ys h = tt
all_front P (z ∷ xs) ys h = (h.0, all_front P xs ys h.1)

-- with a certificate below the CAs
pub with_end : (anchor : List ℕ) (certs : List (List ℕ)) (above : List ℕ) (place : ℕ) (kind : Kind) (p : Path)
    (c : CertFields) → IsPathOf anchor (cas_at certs above) p → StandsAt certs place c
    → IsPathOf anchor (cas_at certs above ++ candidate kind (string_at certs place) ∷ []) (longer p (member kind c))
with_end anchor certs above place kind p c path_of stands = record {
  anchor_begins = path_of.anchor_begins;
  members = zip_more IsMember p.below (cas_at certs above) (member kind c) (candidate kind (string_at certs place))
      path_of.members (record { kind_is = refl; begins = stands });
}

-- ---- what leads down a path

-- the path leads through the folder from the locator's key
pub record Leads (x : Context) (names : Bool) (t : NamedTal) (folder : FolderFields) (p : Path) (r : ResourceFields) : Type 0 where
  pub through : LeadsThrough names x folder p
  pub key_is : p.anchor.fields.key ≡ t.tal.key
  pub lists_some : ListsSome p.anchor
  pub held : HasHeld p t.name r

module _ (x : Context) (names : Bool) (t : NamedTal) (anchor : List ℕ) (law : IsUnambiguous IsCertificate) (folder : FolderFields) where
  pub leads_of : (p : Path) (members : List Candidate) (r : ResourceFields) →
      LeadsTo x (by_named_lists names x folder.lists) (at_anchor t anchor) members r → IsPathOf anchor members p →
      AllByRecursion (λ (m : Member). HasCertificate folder m.cert) p.below → Leads x names t folder p r
  leads_of p members r a path_of has =
      let same : a.path ≡ p = one_path law anchor members a.path p a.path_of path_of in
      let valid : IsValidFrom x (by_named_lists names x folder.lists) t.tal p =
      subst (λ (q : Path). IsValidFrom x (by_named_lists names x folder.lists) t.tal q) same a.is_valid in
      record {
        through = record { is_valid = valid.is_valid; members = below_has folder p has };
        key_is = valid.key_is;
        lists_some = valid.lists;
        held = subst (λ (q : Path). HasHeld q t.name r) same a.held;
      }

  pub to_leads : (p : Path) (members : List Candidate) (r : ResourceFields) → Leads x names t folder p r →
      IsPathOf anchor members p → LeadsTo x (by_named_lists names x folder.lists) (at_anchor t anchor) members r
  to_leads p members r l path_of = record {
    path = p;
    path_of = path_of;
    is_valid = record { is_valid = l.through.is_valid; key_is = l.key_is; lists = l.lists_some };
    held = l.held;
  }
