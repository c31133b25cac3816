-- Formats that choose, that test, and that are a content of one's own are lawful.
use Rattle.std.proofs.Common.{◌≡◌, Decides, ℕ, ◌+◌, ◌%◌, ◌^◌, ◌<◌, ◌≤◌, Bool, true, false, cond, List, [], ◌∷◌, ◌++◌}
use Rattle.std.proofs.Common.{length, Option, Some, None, refl, sym, ap, subst, ◌∙◌, inl, inr, arith, eqb}
use Rattle.std.proofs.lemmas.Bool.{cases_Bool, eq-eqb}
use Rattle.std.specs.Prelude.{is_some}
use Rattle.std.proofs.lemmas.List.{append-nil, length-append}
use Rattle.rpki_der.specs.Choices.{choice, Either, whole}
use Rattle.rpki_der.specs.Encoding.{BeginsOther}
use Rattle.rpki_der.specs.FormatChoices.{primitive, CHOICE, such_that, restricted, defined_by, image, if_whole, kept}
use Rattle.rpki_der.specs.Formats.{Format, IsLawful, Starts, Follows, may_begin, may_follow, either_head}
use Rattle.rpki_der.specs.Reading.{ReadsWhole, at_end, content, Inside}
use Rattle.rpki_der.specs.Skipping.Reading.{captured_at}
use Rattle.rpki_der.specs.Values.{AreOctets, IsValue, enc}
use Rattle.rpki_der.specs.Values.Reading.{◌>>=◌}
use Rattle.rpki_der.proofs.Choices.{choice_reads, content_shrinks, inside_begins}
use Rattle.rpki_der.proofs.FormatLaws.{begins_with, begins_so, whatever_follows, weaker, follow_at, head_front, head_back}
use Rattle.rpki_der.proofs.Octets.{AreOctets-append, AreOctets-front, bind_some, both_are, some, if_some}
use Rattle.rpki_der.proofs.Readings.{before, content_reads, same_before, and_then_before, ended_some}
use Rattle.rpki_der.proofs.SkippingReads.{captured_reads, captured_length}
use Rattle.rpki_der.proofs.ValueWritten.{Short, enc_longer, made}
use Rattle.rpki_der.proofs.WrittenOctets.{IfShort, octets_enc, value_octets}

-- a content of one's own, which is read as it is encoded, and of which what is written encodes it,
-- if short
pub primitive_lawful : {V : Type 0} (t : ℕ) (of : List ℕ → Option V) (is : V → List ℕ → Type 0) (fits : V → Type 0)
    (written : V → List ℕ) → t < 256 → t % 32 < 31
    → ReadsWhole of is → ((v : V) → fits v → IfShort (written v)) →
    ((v : V) → fits v → Short (written v) → is v (written v)) → IsLawful (primitive t of is fits written)
primitive_lawful {V} t of is fits written below low F octets encodes = record {
  reads = before (Follows []) (content t of) (Inside t is) (content_reads t of is F);
  starts = λ v text s. let g = inside_begins t is v text s in begins_with t g.0 text g.1;
  shorter = λ bytes v rest e. omega (arith, content_shrinks t of bytes v rest e);
  octets = whole;
  made = λ v f short. let l = enc_longer t (written v) in (
    written v,
    encodes v f (omega arith, octets v f (omega arith)),
    made t (written v) low (short, whole v f short),
  );
}
  where
    whole : (v : V) → fits v → IfShort (enc t (written v))
    whole v f short = let l = enc_longer t (written v) in octets_enc t (written v) below (omega arith) (octets v f (omega arith))

-- only values that pass a test
pub such_that_lawful : {V : Type 0} (passes : V → Bool) (f : Format V) → IsLawful f → IsLawful (such_that passes f)
such_that_lawful {V} passes f F =
    let test : V → Option V = λ v. cond (passes v) (Some v) None in
    record {
      reads = record {
        takes = λ octets v rest fits e.
            let a = bind_some (f.read octets) (λ x. test x.0 >>= λ y. Some (y, x.1)) (v, rest) e in
            let b = bind_some (test a.0.0) (λ y. Some (y, a.0.1)) (v, rest) a.2 in
            let c = if_some (passes a.0.0) a.0.0 b.0 b.1 in
            let d = both_are (b.0, a.0.1) (v, rest) b.2 in
            let one = F.reads.takes octets a.0.0 a.0.1 fits a.1 in
            record {
              text = one.text;
              encoded = subst (λ (z : V). (passes z ≡ true) × f.encodes z one.text) (c.1 ∙ d.0) (c.0, one.encoded);
              parts = one.parts ∙ ap (λ (r : List ℕ). one.text ++ r) d.1;
            };
        again = λ v text rest s p. rw (F.reads.again v text rest s.1 p, s.0) refl;
      };
      starts = λ v text s. F.starts v text s.1;
      shorter = λ octets v rest e.
          let a = bind_some (f.read octets) (λ x. test x.0 >>= λ y. Some (y, x.1)) (v, rest) e in
          let b = bind_some (test a.0.0) (λ y. Some (y, a.0.1)) (v, rest) a.2 in
          omega (arith, ap length (both_are (b.0, a.0.1) (v, rest) b.2).1, F.shorter octets a.0.0 a.0.1 a.1);
      octets = λ v fits short. F.octets v fits.1 short;
      made = λ v fits short. (fits.0, F.made v fits.1 short);
    }

-- a format that is restricted by a property, which the test decides
pub restricted_lawful : {V : Type 0} (test : V → Bool) (P : V → Type 0) (f : Format V) →
    ((v : V) (text : List ℕ) → f.encodes v text → Decides (test v) (P v)) → IsLawful f →
    IsLawful (restricted test P f)
restricted_lawful test P f decides F =
    let S = such_that_lawful test f F in
    record {
      reads = same_before (Follows f.shut) (such_that test f).read (such_that test f).encodes
          (restricted test P f).encodes S.reads (λ v text s. (s.1, (decides v text s.1).0 s.0))
          (λ v text s. ((decides v text s.0).1 s.1, s.0));
      starts = λ v text s. F.starts v text s.0;
      shorter = S.shorter;
      octets = λ v fits short. F.octets v fits.0 short;
      made = λ v fits short. (F.made v fits.0 short, fits.1);
    }

-- what a function makes of values
pub image_lawful : {X Y : Type 0} (of : X → Option Y) (chosen : Y → X) (f : Format X) → IsLawful f → IsLawful (image of chosen f)
image_lawful {X} {Y} of chosen f F = record {
  reads = record {
    takes = λ octets y rest fits e.
        let a = bind_some (f.read octets) (λ x. of x.0 >>= λ z. Some (z, x.1)) (y, rest) e in
        let b = bind_some (of a.0.0) (λ z. Some (z, a.0.1)) (y, rest) a.2 in
        let d = both_are (b.0, a.0.1) (y, rest) b.2 in
        let one = F.reads.takes octets a.0.0 a.0.1 fits a.1 in
        record {
          text = one.text;
          encoded = (a.0.0, one.encoded, b.1 ∙ ap (λ (z : Y). some {A = Y} z) d.0);
          parts =
              one.parts ∙ ap (λ (r : List ℕ). one.text ++ r) d.1;
        };
    again = λ y text rest s p. rw (F.reads.again s.0 text rest s.1 p, s.2) refl;
  };
  starts = λ y text s. F.starts s.0 text s.1;
  shorter = λ octets y rest e.
      let a = bind_some (f.read octets) (λ x. of x.0 >>= λ z. Some (z, x.1)) (y, rest) e in
      let b = bind_some (of a.0.0) (λ z. Some (z, a.0.1)) (y, rest) a.2 in
      omega (arith, ap length (both_are (b.0, a.0.1) (y, rest) b.2).1, F.shorter octets a.0.0 a.0.1 a.1);
  octets = λ y fits short. F.octets (chosen y) fits.1 short;
  made = λ y fits short. (chosen y, F.made (chosen y) fits.1 short, fits.0);
}

-- ---- kept as octets

whole_is : {V : Type 0} (f : Format V) (octets : List ℕ) (v : V) → f.read octets ≡ Some (v, []) → is_some (whole f.read octets) ≡ true
whole_is f octets v e = rw e refl

whole_read : {V : Type 0} (f : Format V) (octets found : List ℕ) → if_whole f.read octets ≡ Some found →
    ((v : V) × (f.read octets ≡ Some (v, []))) × (octets ≡ found)
whole_read {V} f octets found e =
    let c = if_some (is_some (whole f.read octets)) octets found e in
    let h = has_some (whole f.read octets) c.0 in
    let a = bind_some (f.read octets) (λ x. at_end x.1 x.0) h.0 h.1 in
    let g = ended_some a.0.1 a.0.0 h.0 a.2 in
    ((a.0.0, a.1 ∙ ap (λ (r : List ℕ). some {A = V × List ℕ} (a.0.0, r)) g.0), c.1)
  where
    has_some : (o : Option V) → is_some o ≡ true → (v : V) × (o ≡ Some v)
    has_some None e = absurd cc
    has_some (Some v) e = (v, refl)

-- values that are kept as their octets, where each text is one value and anything may follow it
pub kept_lawful : {V : Type 0} (f : Format V) → f.shut ≡ [] →
    ((v : V) (text : List ℕ) → f.encodes v text → IsValue text) → IsLawful f → IsLawful (kept f)
kept_lawful {V} f none one_value F =
    let law = whatever_follows f none F in
    record {
      reads = record {
        takes = λ octets found rest fits e.
            let a = bind_some (captured_at octets) (λ x. if_whole f.read x.0 >>= λ z. Some (z, x.1)) (found, rest) e in
            let b = bind_some (if_whole f.read a.0.0) (λ z. Some (z, a.0.1)) (found, rest) a.2 in
            let d = both_are (b.0, a.0.1) (found, rest) b.2 in
            let one = captured_reads.takes octets a.0.0 a.0.1 fits a.1 in
            let w = whole_read f a.0.0 b.0 b.1 in
            let low = AreOctets-front octets one.text a.0.1 one.parts fits in
            let read = law.takes a.0.0 w.0.0 [] (subst AreOctets (sym one.encoded.1) low) w.0.1 in
            let same : a.0.0 ≡ read.text = read.parts ∙ append-nil read.text in
            record {
              text = one.text;
              encoded = (
                (w.0.0, subst (λ (t : List ℕ). f.encodes w.0.0 t) (sym same ∙ one.encoded.1) read.encoded),
                sym d.0 ∙ sym w.1 ∙ one.encoded.1,
              );
              parts = one.parts ∙ ap (λ (r : List ℕ). one.text ++ r) d.1;
            };
        again = λ found text rest s p.
            let value = one_value s.0.0 text s.0.1 in
            let read : f.read text ≡ some {A = V × List ℕ} (s.0.0, []) = ap f.read (sym (append-nil text)) ∙
            law.again s.0.0 text [] s.0.1 in
            rw (captured_reads.again text text rest (value, refl), whole_is f text s.0.0 read, s.1) refl;
      };
      starts = λ found text s. F.starts s.0.0 text s.0.1;
      shorter = λ octets found rest e.
          let a = bind_some (captured_at octets) (λ x. if_whole f.read x.0 >>= λ z. Some (z, x.1)) (found, rest) e in
          let b = bind_some (if_whole f.read a.0.0) (λ z. Some (z, a.0.1)) (found, rest) a.2 in
          let d = both_are (b.0, a.0.1) (found, rest) b.2 in
          let w = whole_read f a.0.0 b.0 b.1 in
          omega (arith, F.shorter a.0.0 w.0.0 [] w.0.1, captured_length octets a.0.0 a.0.1 a.1, ap length d.1);
      octets = λ found fits short. let v = one_value fits.0 found fits.1 in value_octets v.enc;
      made = λ found fits short. (fits, refl);
    }

-- ---- CHOICE

choice_shorter : {V : Type 0} (t : ℕ) (f g : Format V) → IsLawful f → IsLawful g → 0 < f.least → 0 < g.least →
    (octets : List ℕ) (v : V) (rest : List ℕ) → choice t f.read g.read octets ≡ Some (v, rest) →
    1 + length rest ≤ length octets
choice_shorter t f g F G p q [] v rest e = omega (arith, G.shorter [] v rest e)
choice_shorter t f g F G p q (b ∷ octets) v rest e =
    elim (cases_Bool (eqb b t)) [
      | inl y ↦ omega (arith, F.shorter (b ∷ octets) v rest (rw y at e))
      | inr n ↦ omega (arith, G.shorter (b ∷ octets) v rest (rw n at e))
    ]

choice_starts : (least : ℕ) (heads other : Option (List ℕ)) (text : List ℕ) → 0 < least → Starts heads least text →
    ((n : ℕ) → may_begin heads n ≡ true → may_begin other n ≡ true) → Starts other 1 text
choice_starts least heads other [] p s h = absurd (omega arith)
choice_starts least heads other (n ∷ text) p s h = h n s

begins_otherwise : (t least : ℕ) (heads : Option (List ℕ)) (text rest : List ℕ) → 0 < least →
    may_follow (t ∷ []) heads ≡ true → Starts heads least text → BeginsOther t (text ++ rest)
begins_otherwise t least heads [] rest p m s = absurd (omega arith)
begins_otherwise t least heads (n ∷ text) rest p m s = λ same.
    let other = follow_at n (t ∷ []) heads m s in
    let e : true ≡ false = rw (eq-eqb n t same) at other in cc

-- of two formats, of which the first begins with the tag and the second doesn't, and behind which anything may follow
pub choice_lawful : {V : Type 0} (t : ℕ) (first : V → Bool) (f g : Format V) → f.shut ≡ [] → g.shut ≡ [] →
    f.heads ≡ Some (t ∷ []) → may_follow (t ∷ []) g.heads ≡ true → 0 < f.least → 0 < g.least
    → IsLawful f → IsLawful g → IsLawful (CHOICE t first f g)
choice_lawful {V} t first f g none nothing_shut begin apart p q F G = record {
  reads = before (Follows []) (choice t f.read g.read) (Either f.encodes g.encodes)
      (choice_reads t f.read g.read f.encodes g.encodes (whatever_follows f none F)
      (whatever_follows g nothing_shut G) (begins_so t f begin p F)
      (λ v text rest s. begins_otherwise t g.least g.heads text rest q apart (G.starts v text s)));
  starts = λ v text s. elim s [
    | inl a ↦ choice_starts f.least f.heads (either_head f.heads g.heads) text p (F.starts v text a) (head_front f.heads g.heads)
    | inr a ↦ choice_starts g.least g.heads (either_head f.heads g.heads) text q (G.starts v text a) (head_back f.heads g.heads)
  ];
  shorter = choice_shorter t f g F G p q;
  octets = λ v. by_test_octets v (first v) refl;
  made = λ v. by_test v (first v) refl;
}
  where
    by_test_octets : (v : V) (b : Bool) → first v ≡ b → (first v ≡ true → f.fits v) × (first v ≡ false → g.fits v) →
        length (cond (first v) (f.written v) (g.written v)) < 2 ^ 32 →
        AreOctets (cond (first v) (f.written v) (g.written v))
    by_test_octets v true e fits short = rw e (F.octets v (fits.0 e) (rw e at short))
    by_test_octets v false e fits short = rw e (G.octets v (fits.1 e) (rw e at short))

    by_test : (v : V) (b : Bool) → first v ≡ b → (first v ≡ true → f.fits v) × (first v ≡ false → g.fits v) →
        length (cond (first v) (f.written v) (g.written v)) < 2 ^ 32 →
        Either f.encodes g.encodes v (cond (first v) (f.written v) (g.written v))
    by_test v true e fits short = rw e (inl (F.made v (fits.0 e) (rw e at short)))
    by_test v false e fits short = rw e (inr (G.made v (fits.1 e) (rw e at short)))

-- ---- DEFINED BY

-- a format that a value before it decides, where that may stand before anything
pub defined_by_lawful : {X Y : Type 0} (f : Format X) (key : Y → X) (shut : List ℕ) (g : X → Format Y) → f.shut ≡ [] →
    0 < f.least → ((x : X) (rest : List ℕ) → Follows shut rest → Follows (g x).shut rest)
    → IsLawful f → ((x : X) → IsLawful (g x)) → IsLawful (defined_by f key shut g)
defined_by_lawful {X} {Y} f key shut g none positive weak F G = record {
  reads = and_then_before (Follows shut) f.read (λ x. (g x).read) f.encodes (λ x. (g x).encodes)
      (whatever_follows f none F)
      (λ x. weaker (Follows (g x).shut) (Follows shut) (g x).read (g x).encodes (weak x) (G x).reads);
  starts = λ y text s. rw s.5 (front s.1 s.2 (F.starts s.0 s.1 s.3));
  shorter = λ octets y rest e.
      let a = bind_some (f.read octets) (λ x. (g x.0).read x.1) (y, rest) e in
      omega (arith, F.shorter octets a.0.0 a.0.1 a.1, (G a.0.0).shorter a.0.1 y rest a.2);
  octets = λ y fits short. let l = length-append (f.written (key y)) ((g (key y)).written y) in
      AreOctets-append (f.written (key y)) ((g (key y)).written y) (F.octets (key y) fits.0 (omega arith))
      ((G (key y)).octets y fits.1 (omega arith));
  made = λ y fits short. let l = length-append (f.written (key y)) ((g (key y)).written y) in
      (key y, f.written (key y), (g (key y)).written y, F.made (key y) fits.0 (omega arith), (G (key y)).made y fits.1 (omega arith), refl);
}
  where
    front : (a b : List ℕ) → Starts f.heads f.least a → Starts f.heads f.least (a ++ b)
    front [] b s = absurd (omega arith)
    front (n ∷ a) b s = s
