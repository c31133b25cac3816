-- One string more, and the first place of each.
use Rattle.std.specs.List.{AllZip}
use Rattle.std.specs.Prelude.{Bool, true, false, Option, None, Some, Contains, cond, bytes_eq, if◌then◌else◌}
use Rattle.std.specs.BTreeMap.{BTreeMap, get, is_at}
use Rattle.std.specs.Cmp.Lexicographic.{slice_cmp}
use Rattle.std.specs.Ordering.{nat_cmp}
use Rattle.std.proofs.Common.{◌≡◌, ◌+◌, ◌-◌, ◌<◌, ◌≤◌, ℕ, zero, suc, List, [], ◌∷◌, ◌++◌, length, map, take, get_or}
use Rattle.std.proofs.Common.{refl, sym, ap, subst, ◌∙◌, inl, inr, arith}
use Rattle.std.proofs.lemmas.List.{map-append, length-append, take-append-le, take_all}
use Rattle.std.proofs.lemmas.Map.Text.{is_eq-slice_cmp}
use Rattle.std.proofs.lemmas.Slice.Eq.{bytes_eq-Decides}
use Rattle.rpki_der.specs.Encoding.{Begins}
use Rattle.rpki_der.specs.Values.{IsUnambiguous}
use Rattle.rpki_der.proofs.Formats.{one_meant}
use Rattle.rpki_ext.specs.Kinds.{Means}
use Rattle.rpki_parts.specs.SignedDatas.{signed_data}
use Rattle.rpki_cert.specs.Certificates.{CertFields, IsCertificate}
use Rattle.rpki_folder.specs.FirstPlaces.{first_from, IsCertificateOctets, AreFirstsIn, first_place_of}
use Rattle.rpki_folder.specs.Folders.{string_at, AreOneAt, IsFirstPlaceOf}
use Rattle.rpki_folder.specs.declared.firsts.Firsts.{Firsts}
use Rattle.rpki_folder.proofs.PickedLists.{in_none, in_front, further, first_or_further}

some_one : (m n : ℕ) → Some m ≡ Some n → m ≡ n
some_one m n e = cc e

-- ---- the first of some strings

abbrev or_else : Option ℕ → Option ℕ → Option ℕ
or_else None o = o
or_else (Some p) o = Some p

-- a test that is true, or isn't
same_bytes : (s e : List ℕ) → bytes_eq s e ≡ true → s ≡ e
same_bytes s e test = (bytes_eq-Decides s e).0 test

equal_bytes : (s : List ℕ) → bytes_eq s s ≡ true
equal_bytes s = (bytes_eq-Decides s s).1 refl

-- with one string more
pushed_by : (n : ℕ) (strings : List (List ℕ)) (t s e : List ℕ) (b : Bool) →
    first_from (n + 1) (strings ++ s ∷ []) e ≡ or_else (first_from (n + 1) strings e)
    (if bytes_eq s e then Some (n + 1 + length strings) else None)
    → (if b then Some n else first_from (n + 1) (strings ++ s ∷ []) e) ≡
    or_else (if b then Some n else first_from (n + 1) strings e)
    (if bytes_eq s e then Some (n + length (t ∷ strings)) else None)
pushed_by n strings t s e true more = refl
pushed_by n strings t s e false more =
    let count : n + 1 + length strings ≡ n + length (t ∷ strings) = omega arith in
    more ∙ ap (λ (m : ℕ). or_else (first_from (n + 1) strings e) (if bytes_eq s e then Some m else None)) count

pushed : (n : ℕ) (strings : List (List ℕ)) (s e : List ℕ) →
    first_from n (strings ++ s ∷ []) e ≡ or_else (first_from n strings e)
    (if bytes_eq s e then Some (n + length strings) else None)
pushed n [] s e =
    let same : n + 0 ≡ n = omega arith in
    ap (λ (m : ℕ). if bytes_eq s e then Some m else None) (sym same)
pushed n (t ∷ strings) s e = pushed_by n strings t s e (bytes_eq t e) (pushed (n + 1) strings s e)

-- where the first stands
pub record Stands (n : ℕ) (strings : List (List ℕ)) (e : List ℕ) (p : ℕ) : Type 0 where
  pub index : ℕ
  pub place_is : p ≡ n + index
  pub low : index < length strings
  pub here : get_or strings index [] ≡ e
  pub none : (j : ℕ) → j < index → get_or strings j [] ≡ e → ⊥

apart : (strings : List (List ℕ)) (t e : List ℕ) → bytes_eq t e ≡ false → (i : ℕ) →
    ((j : ℕ) → j < i → get_or strings j [] ≡ e → ⊥) → (j : ℕ) → j < suc i → get_or (t ∷ strings) j [] ≡ e → ⊥
apart strings t e test i none zero low same = absurd (cc (test, (bytes_eq-Decides t e).1 same))
apart strings t e test i none (suc j) low same = none j (omega (arith, low)) same

stands_by : (n : ℕ) (strings : List (List ℕ)) (t e : List ℕ) (p : ℕ) (b : Bool) → bytes_eq t e ≡ b →
    (first_from (n + 1) strings e ≡ Some p → Stands (n + 1) strings e p) →
    (if b then Some n else first_from (n + 1) strings e) ≡ Some p → Stands n (t ∷ strings) e p
stands_by n strings t e p true test more found = record {
  index = 0;
  place_is = let one = some_one n p found in omega (arith, one);
  low = omega arith;
  here = same_bytes t e test;
  none = λ j low. absurd (omega (arith, low));
}
stands_by n strings t e p false test more found =
    let r = more found in
    let place = r.place_is in
    let less = r.low in
    record {
      index = suc r.index;
      place_is = omega (arith, place);
      low = omega (arith, less);
      here = r.here;
      none = apart strings t e test r.index r.none;
    }

pub stands : (n : ℕ) (strings : List (List ℕ)) (e : List ℕ) (p : ℕ) → first_from n strings e ≡ Some p →
    Stands n strings e p
stands n [] e p is = absurd (cc is)
stands n (t ∷ strings) e p is = stands_by n strings t e p (bytes_eq t e) refl
    (λ found. stands (n + 1) strings e p found) is

-- one that is among them has a first
there_by : (n : ℕ) (strings : List (List ℕ)) (t e : List ℕ) (b : Bool) → bytes_eq t e ≡ b →
    Contains (t ∷ strings) e → (Contains strings e → (p : ℕ) × (first_from (n + 1) strings e ≡ Some p)) →
    (p : ℕ) × ((if b then Some n else first_from (n + 1) strings e) ≡ Some p)
there_by n strings t e true test at more = (n, refl)
there_by n strings t e false test at more = elim (first_or_further t strings e at) [
  | inl same ↦ absurd (cc (test, (bytes_eq-Decides t e).1 same))
  | inr further ↦ more further
]

there : (n : ℕ) (strings : List (List ℕ)) (e : List ℕ) → Contains strings e →
    (p : ℕ) × (first_from n strings e ≡ Some p)
there n [] e at = absurd (in_none e at)
there n (t ∷ strings) e at = there_by n strings t e (bytes_eq t e) refl at (λ more. there (n + 1) strings e more)

-- ---- one string more

-- what was found stays
kept : (strings : List (List ℕ)) (s e : List ℕ) (p : ℕ) → first_from 0 strings e ≡ Some p →
    first_from 0 (strings ++ s ∷ []) e ≡ Some p
kept strings s e p is = pushed 0 strings s e ∙
    ap (λ (o : Option ℕ). or_else o (if bytes_eq s e then Some (0 + length strings) else None)) is

map_same : (f h : List ℕ → Option ℕ) (xs : List (List ℕ)) → ((x : List ℕ) → Contains xs x → f x ≡ h x) →
    map f xs ≡ map h xs
map_same f h [] same = refl
map_same f h (x ∷ xs) same =
    ap (λ (o : Option ℕ). o ∷ map f xs) (same x (in_front x xs x refl))
    ∙ ap (λ (l : List (Option ℕ)). h x ∷ l) (map_same f h xs (λ y at. same y (further x xs y at)))

module _ (strings : List (List ℕ)) (s : List ℕ) (firsts : List ℕ) (first : ℕ)
    (each : map (λ place. Some place) firsts ≡ map (first_from 0 strings) strings)
    (now : first_from 0 (strings ++ s ∷ []) s ≡ Some first) where
  pub each_pushed : map (λ place. Some place) (firsts ++ first ∷ []) ≡ map (first_from 0 (strings ++ s ∷ []))
      (strings ++ s ∷ [])
  each_pushed =
      let stay : map (first_from 0 strings) strings ≡ map (first_from 0 (strings ++ s ∷ [])) strings =
      map_same (first_from 0 strings) (first_from 0 (strings ++ s ∷ [])) strings
      (λ x at. let t = there 0 strings x at in t.1 ∙ sym (kept strings s x t.0 t.1)) in
      map-append (λ (place : ℕ). Some place) firsts (first ∷ [])
      ∙ ap (λ (l : List (Option ℕ)). l ++ Some first ∷ []) (each ∙ stay)
      ∙ ap (λ (o : Option ℕ). map (first_from 0 (strings ++ s ∷ [])) strings ++ o ∷ []) (sym now)
      ∙ sym (map-append (first_from 0 (strings ++ s ∷ [])) strings (s ∷ []))

module _ (strings : List (List ℕ)) (s : List ℕ) (m n : BTreeMap (List ℕ) ℕ) (found : (e : List ℕ) →
    get (slice_cmp nat_cmp) m e ≡ first_from 0 strings e) where
  -- where it was there
  module _ (first : ℕ) (was : first_from 0 strings s ≡ Some first) where
    unchanged : (e : List ℕ) (o : Option ℕ) → first_from 0 strings e ≡ o → o ≡ first_from 0 (strings ++ s ∷ []) e
    unchanged e (Some p) is = sym (kept strings s e p is)
    unchanged e None is = by_test (bytes_eq s e) refl where
      by_test : (b : Bool) → bytes_eq s e ≡ b → None ≡ first_from 0 (strings ++ s ∷ []) e
      by_test true test = absurd (cc (is, was, same_bytes s e test))
      by_test false test = sym
          (pushed 0 strings s e ∙
          ap (λ (o : Option ℕ). or_else o (if bytes_eq s e then Some (0 + length strings) else None)) is ∙
          ap (λ (b : Bool). if b then Some (0 + length strings) else None) test)

    pub found_still : (e : List ℕ) → get (slice_cmp nat_cmp) m e ≡ first_from 0 (strings ++ s ∷ []) e
    found_still e = found e ∙ unchanged e (first_from 0 strings e) refl

    pub first_still : first_from 0 (strings ++ s ∷ []) s ≡ Some first
    first_still = kept strings s s first was

  -- where it wasn't
  module _ (place : ℕ) (last : place ≡ length strings) (was : first_from 0 strings s ≡ None) (sets : (q : List ℕ) →
      get (slice_cmp nat_cmp) n q ≡ cond (is_at (slice_cmp nat_cmp s) q) (Some place)
      (get (slice_cmp nat_cmp) m q)) where
    set_at : (e : List ℕ) → get (slice_cmp nat_cmp) n e ≡ cond (bytes_eq s e) (Some place) (get (slice_cmp nat_cmp) m e)
    set_at e = sets e ∙ ap (λ (b : Bool). cond b (Some place) (get (slice_cmp nat_cmp) m e)) (is_eq-slice_cmp s e)

    zero_is : Some place ≡ Some (0 + length strings)
    zero_is = let count : place ≡ 0 + length strings = omega (arith, last) in ap (λ (k : ℕ). Some k) count

    or_none : (o : Option ℕ) → o ≡ or_else o None
    or_none None = refl
    or_none (Some p) = refl

    by_test : (e : List ℕ) (b : Bool) → bytes_eq s e ≡ b → cond b (Some place) (get (slice_cmp nat_cmp) m e) ≡
        or_else (first_from 0 strings e) (if b then Some (0 + length strings) else None)
    by_test e true test =
        let none : first_from 0 strings e ≡ None = subst (λ (k : List ℕ). first_from 0 strings k ≡ None)
        (same_bytes s e test) was in
        zero_is ∙ ap (λ (o : Option ℕ). or_else o (Some (0 + length strings))) (sym none)
    by_test e false test = found e ∙ or_none (first_from 0 strings e)

    pub found_more : (e : List ℕ) → get (slice_cmp nat_cmp) n e ≡ first_from 0 (strings ++ s ∷ []) e
    found_more e = set_at e ∙ by_test e (bytes_eq s e) refl ∙ sym (pushed 0 strings s e)

    pub first_now : first_from 0 (strings ++ s ∷ []) s ≡ Some place
    first_now =
        pushed 0 strings s s
        ∙ ap (λ (o : Option ℕ). or_else o (if bytes_eq s s then Some (0 + length strings) else None)) was
        ∙ ap (λ (b : Bool). if b then Some (0 + length strings) else None) (equal_bytes s)
        ∙ sym zero_is

-- ---- the octets of a certificate

-- what was read of the octets, without the rest
pub own_octets : (octets rest own : List ℕ) (c : CertFields) → Begins IsCertificate octets c rest →
    own ≡ take (length octets - length rest) octets → IsCertificateOctets octets own
own_octets octets rest own c begins is =
    let long = length-append begins.text rest in
    let count : length octets - length rest ≡ length begins.text = omega (arith, long, ap length begins.parts) in
    let low : length begins.text ≤ length begins.text = omega arith in
    let same : own ≡ begins.text =
    is
    ∙ ap (λ (n : ℕ). take n octets) count
    ∙ ap (λ (l : List ℕ). take (length begins.text) l) begins.parts
    ∙ take-append-le (length begins.text) begins.text rest low
    ∙ take_all (length begins.text) begins.text low in (
      c,
      subst (λ (l : List ℕ). IsCertificate c l) (sym same) begins.encoded,
      (rest, begins.parts ∙ ap (λ (l : List ℕ). l ++ rest) (sym same)),
    )

-- ---- the first place of a certificate

get_mapped : (firsts : List ℕ) (strings own : List (List ℕ)) (i : ℕ) (d : ℕ) →
    map (λ place. Some place) firsts ≡ map (first_from 0 own) strings → i < length strings →
    Some (get_or firsts i d) ≡ first_from 0 own (get_or strings i [])
get_mapped [] [] own i d each low = absurd (omega (arith, low))
get_mapped [] (s ∷ strings) own i d each low = absurd (cc each)
get_mapped (f ∷ firsts) [] own i d each low = absurd (cc each)
get_mapped (f ∷ firsts) (s ∷ strings) own zero d each low = cc each
get_mapped (f ∷ firsts) (s ∷ strings) own (suc i) d each low =
    let more : map (λ place. Some place) firsts ≡ map (first_from 0 own) strings = cc each in
    get_mapped firsts strings own i d more (omega (arith, low))

zip_at : (certs own : List (List ℕ)) (i : ℕ) → AllZip IsCertificateOctets certs own → i < length certs →
    (i < length own) × IsCertificateOctets (get_or certs i []) (get_or own i [])
zip_at [] own i zips low = absurd (omega (arith, low))
zip_at (o ∷ certs) [] i zips low = absurd zips
zip_at (o ∷ certs) (s ∷ own) zero zips low = (omega arith, zips.0)
zip_at (o ∷ certs) (s ∷ own) (suc i) zips low = let r = zip_at certs own i zips.1 (omega (arith, low)) in
    (omega (arith, r.0), r.1)

zip_low : (certs own : List (List ℕ)) (i : ℕ) → AllZip IsCertificateOctets certs own → i < length own → i < length certs
zip_low [] [] i zips low = absurd (omega (arith, low))
zip_low [] (s ∷ own) i zips low = absurd zips
zip_low (o ∷ certs) [] i zips low = absurd zips
zip_low (o ∷ certs) (s ∷ own) zero zips low = omega arith
zip_low (o ∷ certs) (s ∷ own) (suc i) zips low = let r = zip_low certs own i zips.1 (omega (arith, low)) in
    omega (arith, r)

-- the octets begin with it
means : (octets own : List ℕ) (c : CertFields) → IsCertificate c own → (rest : List ℕ) × (octets ≡ own ++ rest) →
    Means IsCertificate c octets
means octets own c is behind = (behind.0, record { text = own; encoded = is; parts = behind.1 })

module _ (law : IsUnambiguous IsCertificate) (octets_kept : (c : CertFields) (b : List ℕ) → IsCertificate c b →
    b ≡ signed_data c.signed_data) (certs : List (List ℕ)) (table : Firsts) (are : AreFirstsIn certs table)
    (place : ℕ) (low : place < length certs) where
  abbrev own : List (List ℕ)
  own = are.0

  here : (place < length own) × IsCertificateOctets (get_or certs place []) (get_or own place [])
  here = zip_at certs own place are.1 low

  abbrev first : ℕ
  first = first_place_of table place

  at : Stands 0 own (get_or own place []) first
  at = stands 0 own (get_or own place []) first
      (sym (get_mapped table.firsts.items own own place place are.2.each here.0))

  first_low : first < length own
  first_low = let s = at in let place = s.place_is in let less = s.low in omega (arith, place, less)

  index_is : at.index ≡ first
  index_is = let place = at.place_is in omega (arith, place)

  same_own : get_or own first [] ≡ get_or own place []
  same_own = ap (λ (n : ℕ). get_or own n []) (sym index_is) ∙ at.here

  abbrev cert : CertFields
  cert = here.1.0

  -- the certificate stands at the first place
  there_too : Means IsCertificate cert (string_at certs first)
  there_too =
      let f = (zip_at certs own first are.1 (zip_low certs own first are.1 first_low)).1 in
      means (get_or certs first []) (get_or own first []) cert
      (subst (λ (l : List ℕ). IsCertificate cert l) (sym same_own) here.1.1) f.2

  -- one certificate has one string
  string_is : (q : ℕ) (c : CertFields) → q < length certs → Means IsCertificate c (string_at certs q) →
      get_or own q [] ≡ signed_data c.signed_data
  string_is q c less begins =
      let z = (zip_at certs own q are.1 less).1 in
      let same : z.0 ≡ c = one_meant IsCertificate law z.0 c (get_or certs q [])
      (means (get_or certs q []) (get_or own q []) z.0 z.1 z.2) begins in
      octets_kept z.0 (get_or own q []) z.1 ∙ ap (λ (d : CertFields). signed_data d.signed_data) same

  no_earlier : (other : ℕ) → other < first → AreOneAt certs first other → ⊥
  no_earlier other less (c, one, two) =
      let far = zip_low certs own first are.1 first_low in
      let near : other < length certs = omega (arith, less, far) in
      let before : other < at.index = let i = index_is in omega (arith, less, i) in
      at.none other before (string_is other c near two ∙ sym (string_is first c far one) ∙ same_own)

  pub is_first_of : IsFirstPlaceOf certs place first
  is_first_of = record {
    one = (cert, means (get_or certs place []) (get_or own place []) cert here.1.1 here.1.2, there_too);
    is_first = no_earlier;
  }
