-- Formats that are made of lawful formats are lawful.
use Rattle.std.specs.Prelude.{bytes_eq, is_some, not}
use Rattle.std.specs.List.{flat_map, AllByRecursion}
use Rattle.std.proofs.Common.{◌≡◌, ℕ, zero, suc, ◌+◌, ◌%◌, ◌^◌, ◌<◌, ◌≤◌, Bool, true, false, List, [], ◌∷◌, ◌++◌}
use Rattle.std.proofs.Common.{length, Option, Some, None, refl, sym, ap, subst, ◌∙◌, inl, inr, arith, eqb}
use Rattle.std.proofs.lemmas.Bool.{cases_Bool, eqb-true, eq-eqb, and_parts, not-true}
use Rattle.std.proofs.lemmas.List.{length-append, append_cancel_right}
use Rattle.std.proofs.lemmas.Slice.Eq.{bytes_eq-Decides}
use Rattle.rpki_der.specs.Values.{AreOctets, IsEnc, enc, IsUnambiguous}
use Rattle.rpki_der.specs.Values.Reading.{value_at, ◌>>=◌}
use Rattle.rpki_der.specs.Encoding.{BeginsOther}
use Rattle.rpki_der.specs.Reading.{ReadsBefore, ReadsWhole, Reads, Inside, inside, optional, Optional, BeginWith, content}
use Rattle.rpki_der.specs.Choices.{exactly}
use Rattle.rpki_der.specs.Sequences.{AreEncodings}
use Rattle.rpki_der.specs.Sequences.Reading.{sequence_of, Shrinks}
use Rattle.rpki_der.specs.Formats.{Format, IsLawful, Starts, Follows, among, may_begin, are_apart, may_follow}
use Rattle.rpki_der.specs.Formats.{either_head, heads_then, shut_then, own_value, any_octets, tagged, then, only}
use Rattle.rpki_der.specs.Formats.{fits_if, written_if, OPTIONAL, PRESENT, when, some_of, AreSome, list_in, some_in}
use Rattle.rpki_der.specs.Formats.{Fields, ◌∶◌, fields}
use Rattle.rpki_der.proofs.Octets.{AreOctets-append, bind_some, some, both_are, nothing}
use Rattle.rpki_der.proofs.Readings.{both_before, inside_before, map_value_before, before, before_anything}
use Rattle.rpki_der.proofs.Optionals.{optional_before}
use Rattle.rpki_der.proofs.Readings.{content_reads}
use Rattle.rpki_der.proofs.Choices.{content_shrinks, inside_shrinks}
use Rattle.rpki_der.proofs.ValueReads.{value_reads, value_shorter}
use Rattle.rpki_der.proofs.ValueWritten.{enc_longer, made}
use Rattle.rpki_der.proofs.WrittenOctets.{octets_enc}
use Rattle.rpki_der.proofs.Choices.{enc_begins, inside_begins, sequence_reads}

pub begins_with : (t : ℕ) (tail text : List ℕ) → text ≡ t ∷ tail → Starts (Some (t ∷ [])) 1 text
begins_with t tail [] e = absurd cc
begins_with t tail (n ∷ text) e = let same : n ≡ t = cc in rw (eq-eqb n t same) refl

-- ---- a value

-- a value of a tag
pub own_value_lawful : {V : Type 0} (t : ℕ) (encodes : V → List ℕ → Type 0) (read : List ℕ → Option (V × List ℕ))
    (fits : V → Type 0) (written inside : V → List ℕ)
    → Reads read encodes → ((v : V) (text : List ℕ) → encodes v text → (tail : List ℕ) × (text ≡ t ∷ tail)) → Shrinks read
    → ((v : V) → fits v → length (written v) < 2 ^ 32 → AreOctets (written v)) →
    ((v : V) → fits v → length (written v) < 2 ^ 32 → encodes v (written v))
    → IsLawful (own_value t encodes read fits written inside)
own_value_lawful t encodes read fits written inside F begins shrinks octets made = record {
  reads = before (Follows []) read encodes F;
  starts = λ v text s. let g = begins v text s in begins_with t g.0 text g.1;
  shorter = λ bytes v rest e. omega (arith, shrinks bytes v rest e);
  octets = octets;
  made = made;
}

-- any octets in a value of a tag
pub any_octets_lawful : (t : ℕ) → t < 256 → t % 32 < 31 → IsLawful (any_octets t)
any_octets_lawful t a b =
    own_value_lawful t (IsEnc t) (value_at t) AreOctets (enc t) (λ v. v) (value_reads t) (enc_begins t)
    (λ octets v rest e. omega (arith, value_shorter t octets v rest e))
    (λ v fits short. let l = enc_longer t v in octets_enc t v a (omega arith) fits)
    (λ v fits short. let l = enc_longer t v in made t v b (short, octets_enc t v a (omega arith) fits))

-- a value of a tag whose content is lawful
pub tagged_lawful : {V : Type 0} (t : ℕ) (f : Format V) → t < 256 → t % 32 < 31 → IsLawful f → IsLawful (tagged t f)
tagged_lawful {V} t f a b F = record {
  reads = before (Follows []) (inside t f.read) (Inside t f.encodes) (inside_before (Follows f.shut) t f.read f.encodes tt F.reads);
  starts = λ v text s. let g = inside_begins t f.encodes v text s in begins_with t g.0 text g.1;
  shorter = λ octets v rest e. omega (arith, inside_shrinks t f.read octets v rest e);
  octets = λ v fits short. let l = enc_longer t (f.written v) in octets_enc t (f.written v) a (omega arith) (F.octets v fits (omega arith));
  made = λ v fits short.
      let l = enc_longer t (f.written v) in
      let whole = octets_enc t (f.written v) a (omega arith) (F.octets v fits (omega arith)) in
      (f.written v, F.made v fits (omega arith), made t (f.written v) b (short, whole));
}

-- ---- what follows

among_append : (n : ℕ) (a b : List ℕ) → among n (a ++ b) ≡ false → (among n a ≡ false) × (among n b ≡ false)
among_append n [] b e = (refl, e)
among_append n (m ∷ a) b e =
    elim (cases_Bool (eqb n m)) [
      | inl y ↦ absurd (clash (rw y at e))
      | inr f ↦ let r = among_append n a b (rw f at e) in (rw (f, r.0) refl, r.1)
    ]
  where
    clash : true ≡ false → ⊥
    clash e = cc

among_front : (n : ℕ) (a b : List ℕ) → among n a ≡ true → among n (a ++ b) ≡ true
among_front n [] b e = absurd cc
among_front n (m ∷ a) b e =
    elim (cases_Bool (eqb n m)) [
      | inl y ↦ rw y refl
      | inr f ↦ rw (f, among_front n a b (rw f at e)) refl
    ]

among_back : (n : ℕ) (a b : List ℕ) → among n b ≡ true → among n (a ++ b) ≡ true
among_back n [] b e = e
among_back n (m ∷ a) b e =
    elim (cases_Bool (eqb n m)) [
      | inl y ↦ rw y refl
      | inr f ↦ rw (f, among_back n a b e) refl
    ]

follows_front : (a b rest : List ℕ) → Follows (a ++ b) rest → Follows a rest
follows_front a b [] h = tt
follows_front a b (n ∷ rest) h = (among_append n a b h).0

follows_back : (a b rest : List ℕ) → Follows (a ++ b) rest → Follows b rest
follows_back a b [] h = tt
follows_back a b (n ∷ rest) h = (among_append n a b h).1

apart_at : (n : ℕ) (heads shut : List ℕ) → are_apart heads shut ≡ true → among n heads ≡ true → among n shut ≡ false
apart_at n [] shut a e = absurd cc
apart_at n (m ∷ heads) shut a e =
    let p = and_parts (not (among m shut)) (are_apart heads shut) a in
    elim (cases_Bool (eqb n m)) [
      | inl y ↦ let same : n ≡ m = eqb-true n m y in rw same (not-true (among m shut) p.0)
      | inr f ↦ apart_at n heads shut p.1 (rw f at e)
    ]

pub follow_at : (n : ℕ) (shut : List ℕ) (heads : Option (List ℕ)) → may_follow shut heads ≡ true →
    may_begin heads n ≡ true → among n shut ≡ false
follow_at n [] heads a e = refl
follow_at n (m ∷ shut) None a e = absurd cc
follow_at n (m ∷ shut) (Some heads) a e = apart_at n heads (m ∷ shut) a e

-- what may follow both may follow the second
last_follows : (least : ℕ) (a b rest : List ℕ) → Follows (shut_then least a b) rest → Follows b rest
last_follows zero a b rest h = follows_back a b rest h
last_follows (suc n) a b rest h = h

-- what follows the first: the second, or what follows both
first_follows : (heads : Option (List ℕ)) (least : ℕ) (a b text rest : List ℕ) → may_follow a heads ≡ true →
    Starts heads least text → Follows (shut_then least a b) rest → Follows a (text ++ rest)
first_follows heads zero a b [] rest m s h = follows_front a b rest h
first_follows heads (suc n) a b [] rest m s h = absurd cc
first_follows heads least a b (n ∷ text) rest m s h = follow_at n a heads m s

pub head_front : (a b : Option (List ℕ)) (n : ℕ) → may_begin a n ≡ true → may_begin (either_head a b) n ≡ true
head_front None b n e = refl
head_front (Some a) None n e = refl
head_front (Some a) (Some b) n e = among_front n a b e

pub head_back : (a b : Option (List ℕ)) (n : ℕ) → may_begin b n ≡ true → may_begin (either_head a b) n ≡ true
head_back None b n e = refl
head_back (Some a) None n e = refl
head_back (Some a) (Some b) n e = among_back n a b e

heads_first : (least : ℕ) (a b : Option (List ℕ)) (n : ℕ) → may_begin a n ≡ true → may_begin (heads_then least a b) n ≡ true
heads_first zero a b n e = head_front a b n e
heads_first (suc k) a b n e = e

both_start : (f g : Option (List ℕ)) (k l : ℕ) (a b : List ℕ) → Starts f k a → Starts g l b → Starts (heads_then k f g) (k + l) (a ++ b)
both_start f g k l [] [] p q = omega arith
both_start f g zero l [] (n ∷ b) p q = head_back f g n q
both_start f g (suc k) l [] (n ∷ b) p q = absurd cc
both_start f g k l (n ∷ a) b p q = heads_first k f g n p

pub weaker : {X : Type 0} (P Q : List ℕ → Type 0) (f : List ℕ → Option (X × List ℕ)) (S : X → List ℕ → Type 0) →
    ((rest : List ℕ) → Q rest → P rest) → ReadsBefore P f S → ReadsBefore Q f S
weaker P Q f S w F = record { takes = F.takes; again = λ v text rest s q. F.again v text rest s (w rest q) }

-- one after the other, where the second begins with nothing that may not follow the first
pub then_lawful : {V W : Type 0} (f : Format V) (g : Format W) → may_follow f.shut g.heads ≡ true → IsLawful f →
    IsLawful g → IsLawful (then f g)
then_lawful {V} {W} f g m F G = record {
  reads =
      let P : List ℕ → Type 0 = Follows (shut_then g.least f.shut g.shut) in
      both_before P (Follows f.shut) f.read g.read f.encodes g.encodes F.reads
      (weaker (Follows g.shut) P g.read g.encodes (last_follows g.least f.shut g.shut) G.reads)
      (λ y text rest t p. first_follows g.heads g.least f.shut g.shut text rest m (G.starts y text t) p);
  starts = λ v text s. rw s.4 (both_start f.heads g.heads f.least g.least s.0 s.1 (F.starts v.0 s.0 s.2) (G.starts v.1 s.1 s.3));
  shorter = λ octets v rest e.
      let a = bind_some (f.read octets) (λ x. g.read x.1 >>= λ y. Some ((x.0, y.0), y.1)) (v, rest) e in
      let b = bind_some (g.read a.0.1) (λ y. Some ((a.0.0, y.0), y.1)) (v, rest) a.2 in
      let same : b.0.1 ≡ rest = (both_are ((a.0.0, b.0.0), b.0.1) (v, rest) b.2).1 in
      omega (arith, ap length same, F.shorter octets a.0.0 a.0.1 a.1, G.shorter a.0.1 b.0.0 b.0.1 b.1);
  octets = λ v fits short. let l = length-append (f.written v.0) (g.written v.1) in
      AreOctets-append (f.written v.0) (g.written v.1) (F.octets v.0 fits.0 (omega arith))
      (G.octets v.1 fits.1 (omega arith));
  made = λ v fits short. let l = length-append (f.written v.0) (g.written v.1) in
      (f.written v.0, g.written v.1, F.made v.0 fits.0 (omega arith), G.made v.1 fits.1 (omega arith), refl);
}

-- ---- fields

-- fields of a record that they determine, and that determines them
pub fields_lawful : {R X : Type 0} (make : X → R) (f : Fields R X) → ((x : X) → f.values (make x) ≡ x) →
    ((r : R) → make (f.values r) ≡ r) → IsLawful f.format → IsLawful (fields make f)
fields_lawful {R} {X} make f there back F = record {
  reads = map_value_before (Follows f.format.shut) make f.format.read f.format.encodes (λ r. f.format.encodes (f.values r)) F.reads
      (λ x text s. subst (λ (z : X). f.format.encodes z text) (sym (there x)) s)
      (λ r text s. (f.values r, back r, s));
  starts = λ r text s. F.starts (f.values r) text s;
  shorter = λ octets r rest e.
      let a = bind_some (f.format.read octets) (λ x. Some (make x.0, x.1)) (r, rest) e in
      let same : a.0.1 ≡ rest = (both_are (make a.0.0, a.0.1) (r, rest) a.2).1 in
      omega (arith, ap length same, F.shorter octets a.0.0 a.0.1 a.1);
  octets = λ r fits short. F.octets (f.values r) fits short;
  made = λ r fits short. F.made (f.values r) fits short;
}

-- ---- one value, of which nothing is kept

exact_only : (c x : List ℕ) (u : Unit {0}) → exactly c x ≡ Some u → x ≡ c
exact_only c x u e =
    elim (cases_Bool (bytes_eq x c)) [
      | inl y ↦ (bytes_eq-Decides x c).0 y
      | inr n ↦ nothing u (rw n at e)
    ]

pub only_lawful : (c : List ℕ) (f : Format (List ℕ)) → IsLawful f → IsLawful (only c f)
only_lawful c f F = record {
  reads = record {
    takes = λ octets u rest fits e.
        let a = bind_some (f.read octets) (λ x. exactly c x.0 >>= λ y. Some (y, x.1)) (u, rest) e in
        let b = bind_some (exactly c a.0.0) (λ y. Some (y, a.0.1)) (u, rest) a.2 in
        let one = F.reads.takes octets a.0.0 a.0.1 fits a.1 in
        let same : a.0.1 ≡ rest = (both_are (b.0, a.0.1) (u, rest) b.2).1 in
        record {
          text = one.text;
          encoded = subst (λ (z : List ℕ). f.encodes z one.text) (exact_only c a.0.0 b.0 b.1)
              one.encoded;
          parts = one.parts ∙ ap (λ (r : List ℕ). one.text ++ r) same;
        };
    again = λ u text rest s p. rw (F.reads.again c text rest s p, (bytes_eq-Decides c c).1 refl) refl;
  };
  starts = λ u text s. F.starts c text s;
  shorter = λ octets u rest e.
      let a = bind_some (f.read octets) (λ x. exactly c x.0 >>= λ y. Some (y, x.1)) (u, rest) e in
      let b = bind_some (exactly c a.0.0) (λ y. Some (y, a.0.1)) (u, rest) a.2 in
      let same : a.0.1 ≡ rest = (both_are (b.0, a.0.1) (u, rest) b.2).1 in
      omega (arith, ap length same, F.shorter octets a.0.0 a.0.1 a.1);
  octets = λ u fits short. F.octets c fits short;
  made = λ u fits short. F.made c fits short;
}

-- ---- what may be left out

-- a reading behind which anything may follow
pub whatever_follows : {V : Type 0} (f : Format V) → f.shut ≡ [] → IsLawful f → Reads f.read f.encodes
whatever_follows f none F =
    before_anything f.read f.encodes
    (record {
      takes = F.reads.takes;
      again = λ v text rest s p. F.reads.again v text rest s (rw none (always rest));
    })
  where
    always : (rest : List ℕ) → Follows [] rest
    always [] = tt
    always (n ∷ rest) = refl

head_is : (t least : ℕ) (text : List ℕ) → 0 < least → Starts (Some (t ∷ [])) least text → (tail : List ℕ) × (text ≡ t ∷ tail)
head_is t least [] some s = absurd (omega arith)
head_is t least (n ∷ text) some s =
    elim (cases_Bool (eqb n t)) [
      | inl y ↦ (text, ap (λ (k : ℕ). k ∷ text) (eqb-true n t y))
      | inr f ↦ let e : false ≡ true = rw f at s in absurd cc
    ]

pub begins_so : {V : Type 0} (t : ℕ) (f : Format V) → f.heads ≡ Some (t ∷ []) → 0 < f.least → IsLawful f → BeginWith t f.encodes
begins_so t f begin some F v text s = head_is t f.least text some (rw begin at (F.starts v text s))

pub other_follows : (t : ℕ) (rest : List ℕ) → Follows (t ∷ []) rest → BeginsOther t rest
other_follows t [] h = tt
other_follows t (n ∷ rest) h = λ same. let y = eq-eqb n t same in let e : true ≡ false = rw y at h in cc

pub optional_shorter : {V : Type 0} (t : ℕ) (f : List ℕ → Option (V × List ℕ)) →
    ((octets : List ℕ) (v : V) (rest : List ℕ) → f octets ≡ Some (v, rest) → length rest ≤ length octets)
    → (octets : List ℕ) (o : Option V) (rest : List ℕ) → optional t f octets ≡ Some (o, rest) → length rest ≤ length octets
optional_shorter {V} t f less [] o rest e = let same : [] ≡ rest =
    (both_are {A = Option V} {B = List ℕ} (None, []) (o, rest) e).1 in omega (arith, ap length same)
optional_shorter {V} t f less (b ∷ octets) o rest e =
    elim (cases_Bool (eqb b t)) [
      | inl y ↦
          let a = bind_some (f (b ∷ octets)) (λ x. some {A = Option V × List ℕ} (Some x.0, x.1)) (o, rest) (rw y at e) in
          let same : a.0.1 ≡ rest = (both_are {A = Option V} {B = List ℕ} (Some a.0.0, a.0.1) (o, rest) a.2).1 in
          omega (arith, ap length same, less (b ∷ octets) a.0.0 a.0.1 a.1)
      | inr n ↦ let same : b ∷ octets ≡ rest =
          (both_are {A = Option V} {B = List ℕ} (None, b ∷ octets) (o, rest) (rw n at e)).1 in
          omega (arith, ap length same)
    ]

optional_starts : {V : Type 0} (t : ℕ) (f : Format V) → BeginWith t f.encodes → (o : Option V) (text : List ℕ) →
    Optional f.encodes o text → Starts (Some (t ∷ [])) 0 text
optional_starts t f begin None text s = rw s refl
optional_starts t f begin (Some v) text s = let g = begin v text s in rw (g.1, eq-eqb t t refl) refl

-- a value that may be left out, where its format begins with the tag and anything may follow it
pub optional_lawful : {V : Type 0} (t : ℕ) (f : Format V) → f.shut ≡ [] → f.heads ≡ Some (t ∷ []) → 0 < f.least →
    IsLawful f → IsLawful (OPTIONAL t f)
optional_lawful {V} t f none begin positive F = record {
  reads = weaker (BeginsOther t) (Follows (t ∷ [])) (optional t f.read) (Optional f.encodes) (other_follows t)
      (optional_before t f.read f.encodes (whatever_follows f none F) (begins_so t f begin positive F));
  starts = optional_starts t f (begins_so t f begin positive F);
  shorter = λ octets o rest e.
      omega (
        arith,
        optional_shorter t f.read (λ bytes v left g. omega (arith, F.shorter bytes v left g)) octets o
            rest e,
      );
  octets = each_octets;
  made = each_made;
}
  where
    each_octets : (o : Option V) → fits_if f.fits o → length (written_if f.written o) < 2 ^ 32 → AreOctets (written_if f.written o)
    each_octets None fits short = tt
    each_octets (Some v) fits short = F.octets v fits short

    each_made : (o : Option V) → fits_if f.fits o → length (written_if f.written o) < 2 ^ 32 → Optional f.encodes o (written_if f.written o)
    each_made None fits short = refl
    each_made (Some v) fits short = F.made v fits short

-- ---- values one after the other

module _ {V : Type 0} (f : Format V) (F : IsLawful f) where
  -- what is written of values, if short, consists of octets
  pub values_octets : (vs : List V) → AllByRecursion f.fits vs → length (flat_map f.written vs) < 2 ^ 32 → AreOctets (flat_map f.written vs)
  values_octets [] fits short = tt
  values_octets (v ∷ vs) fits short = let l = length-append (f.written v) (flat_map f.written vs) in
      AreOctets-append (f.written v) (flat_map f.written vs) (F.octets v fits.0 (omega arith))
      (values_octets vs fits.1 (omega arith))

  -- and encodes them
  pub values_made : (vs : List V) → AllByRecursion f.fits vs → length (flat_map f.written vs) < 2 ^ 32 →
      AreEncodings f.encodes vs (flat_map f.written vs)
  values_made [] fits short = refl
  values_made (v ∷ vs) fits short = let l = length-append (f.written v) (flat_map f.written vs) in
      (f.written v, flat_map f.written vs, F.made v fits.0 (omega arith), values_made vs fits.1 (omega arith), refl)

  module _ (none : f.shut ≡ []) (positive : 0 < f.least) where
    -- reading such a value uses octets up
    pub values_shrinks : Shrinks f.read
    values_shrinks octets v rest e = omega (arith, F.shorter octets v rest e)

    -- values to the end are read as they are encoded
    pub values_read : ReadsWhole (sequence_of f.read) (AreEncodings f.encodes)
    values_read = sequence_reads f.read f.encodes (whatever_follows f none F) values_shrinks

    -- octets are those of at least one
    pub some_texts : (b : ℕ) (bytes : List ℕ) (vs : List V) → AreEncodings f.encodes vs (b ∷ bytes) → 1 ≤ length vs
    some_texts b bytes [] r = absurd cc
    some_texts b bytes (v ∷ vs) r = omega arith

    -- no octets are those of none
    pub some_octet : (vs : List V) → AreEncodings f.encodes vs [] → 1 ≤ length vs → ⊥
    some_octet [] r h = omega arith
    some_octet (v ∷ vs) r h = stops r.0 (F.starts v r.0 r.2) (omega (arith, ap length r.4, length-append r.0 r.1))
      where
        stops : (text : List ℕ) → Starts f.heads f.least text → length text ≡ 0 → ⊥
        stops [] s e = omega arith
        stops (n ∷ text) s e = omega arith

    -- the same with at least one
    pub some_read : ReadsWhole (some_of f.read) (AreSome f.encodes)
    some_read = record { takes = takes; again = again }
      where
        takes : (octets : List ℕ) (vs : List V) → AreOctets octets → some_of f.read octets ≡ Some vs → AreSome f.encodes vs octets
        takes [] vs fits e = nothing vs e
        takes (b ∷ bytes) vs fits e = let r = values_read.takes (b ∷ bytes) vs fits e in (r, some_texts b bytes vs r)

        again : (vs : List V) (octets : List ℕ) → AreSome f.encodes vs octets → some_of f.read octets ≡ Some vs
        again vs [] s = absurd (some_octet vs s.0 s.1)
        again vs (b ∷ bytes) s = values_read.again vs (b ∷ bytes) s.0

-- ---- SEQUENCE OF

module _ {V : Type 0} (t : ℕ) (f : Format V) (below : t < 256) (low : t % 32 < 31) (none : f.shut ≡ [])
    (positive : 0 < f.least) (F : IsLawful f) where
  list_octets : (vs : List V) → AllByRecursion f.fits vs → length (enc t (flat_map f.written vs)) < 2 ^ 32 →
      AreOctets (enc t (flat_map f.written vs))
  list_octets vs fits short = let l = enc_longer t (flat_map f.written vs) in
      octets_enc t (flat_map f.written vs) below (omega arith) (values_octets f F vs fits (omega arith))

  -- values one after the other, where each has an octet at least and anything may follow it
  pub list_lawful : IsLawful (list_in t f)
  list_lawful = record {
    reads = before (Follows []) (content t (sequence_of f.read)) (Inside t (AreEncodings f.encodes))
        (content_reads t (sequence_of f.read) (AreEncodings f.encodes) (values_read f F none positive));
    starts = λ vs text s. let g = inside_begins t (AreEncodings f.encodes) vs text s in begins_with t g.0 text g.1;
    shorter = λ octets vs rest e. omega (arith, content_shrinks t (sequence_of f.read) octets vs rest e);
    octets = list_octets;
    made = λ vs fits short. let l = enc_longer t (flat_map f.written vs) in (
      flat_map f.written vs,
      values_made f F vs fits (omega arith),
      made t (flat_map f.written vs) low (short, list_octets vs fits short),
    );
  }

  -- the same with at least one
  pub some_lawful : IsLawful (some_in t f)
  some_lawful = record {
    reads = before (Follows []) (content t (some_of f.read)) (Inside t (AreSome f.encodes))
        (content_reads t (some_of f.read) (AreSome f.encodes) (some_read f F none positive));
    starts = λ vs text s. let g = inside_begins t (AreSome f.encodes) vs text s in begins_with t g.0 text g.1;
    shorter = λ octets vs rest e. omega (arith, content_shrinks t (some_of f.read) octets vs rest e);
    octets = λ vs fits short. list_octets vs fits.1 short;
    made = λ vs fits short. let l = enc_longer t (flat_map f.written vs) in (
      flat_map f.written vs,
      (values_made f F vs fits.1 (omega arith), fits.0),
      made t (flat_map f.written vs) low (short, list_octets vs fits.1 short),
    );
  }

when_is : (o : Option (Unit {0})) → when (is_some o) ≡ o
when_is None = refl
when_is (Some u) = refl

is_when : (b : Bool) → is_some (when b) ≡ b
is_when true = refl
is_when false = refl

-- whether a value stands there
pub present_lawful : (t : ℕ) (f : Format (Unit {0})) → f.shut ≡ [] → f.heads ≡ Some (t ∷ []) → 0 < f.least →
    IsLawful f → IsLawful (PRESENT t f)
present_lawful t f none begin positive F = fields_lawful is_some (when ∶ OPTIONAL t f) when_is is_when
    (optional_lawful t f none begin positive F)

-- ---- what follows from a law

-- a lawful format behind which anything may follow
pub record IsAlone {V : Type 0} (f : Format V) : Type 0 where
  pub law : IsLawful f
  pub none : f.shut ≡ []

-- no string that encodes a value begins another one, and each encodes one value
pub one_meaning : {V : Type 0} (f : Format V) → f.shut ≡ [] → IsLawful f → IsUnambiguous f.encodes
one_meaning {V} f none F v w a b x y p q e =
    let law = whatever_follows f none F in
    let one : f.read (a ++ x) ≡ some {A = V × List ℕ} (v, x) = law.again v a x p in
    let two : f.read (a ++ x) ≡ some {A = V × List ℕ} (w, y) = rw e (law.again w b y q) in
    let same = both_are (v, x) (w, y) (sym one ∙ two) in
    (same.0, append_cancel_right a b y (ap (λ (z : List ℕ). a ++ z) (sym same.1) ∙ e))
