-- Readings made of readings, with what follows them where that has to be known.
use Rattle.std.proofs.Common.{◌≡◌, ℕ, List, [], ◌∷◌, ◌++◌, length, Option, Some, None, refl, sym, ap, subst, ◌∙◌, append_assoc}
use Rattle.std.proofs.lemmas.List.{append-nil}
use Rattle.rpki_der.specs.Choices.{and_then, AndThen, whole}
use Rattle.rpki_der.specs.Reading.{at_end, inside, both, map_value, content, ReadsBefore, Anything, Reads, ReadsWhole, Both, Inside}
use Rattle.rpki_der.specs.Values.Reading.{value_at, ◌>>=◌}
use Rattle.rpki_der.specs.Encoding.{Begins}
use Rattle.rpki_der.specs.Place.{Place, remaining}
use Rattle.rpki_der.specs.Values.{AreOctets, length_octets, enc, IsEnc}
use Rattle.rpki_der.proofs.Octets.{AreOctets-after, AreOctets-front, bind_some, some, some_is, both_are, nothing}
use Rattle.rpki_der.proofs.ValueReads.{value_takes, value_again}

-- a reading's answer is the only one: two texts that encode values and begin the same octets are
-- one
pub one_reading : {A : Type 0} (read : List ℕ → Option (A × List ℕ)) (encodes : A → List ℕ → Type 0) → Reads read encodes
    → (bytes : List ℕ) (x y : A) (p q : List ℕ) → Begins encodes bytes x p → Begins encodes bytes y q → (x ≡ y) × (p ≡ q)
one_reading {A} read encodes law bytes x y p q a b =
    let one : read bytes ≡ some {A = A × List ℕ} (x, p) = rw a.parts (law.again x a.text p a.encoded) in
    let two : read bytes ≡ some {A = A × List ℕ} (y, q) = rw b.parts (law.again y b.text q b.encoded) in
    both_are (x, p) (y, q) (sym one ∙ two)

-- the content of a value that octets begin with is octets
pub AreOctets-content : {rest : List ℕ} (bytes : List ℕ) (t : ℕ) (c : List ℕ) → Begins (IsEnc t) bytes c rest →
    AreOctets bytes → AreOctets c
unfolding enc
AreOctets-content {rest} bytes t c v fits =
    let text = AreOctets-front bytes v.text rest v.parts fits in
    AreOctets-after v.text (t ∷ length_octets (length c)) c v.encoded.is text

-- a reading that has ended leaves nothing and gives its value
pub ended_some : {X : Type 0} (rest : List ℕ) (x y : X) → at_end rest x ≡ some y → (rest ≡ []) × (x ≡ y)
ended_some [] x y e = (refl, some_is x y e)
ended_some (b ∷ rest) x y e = nothing y e

-- ---- what begins some octets

-- equal answers begin the octets alike
pub begins_same : {X : Type 0} (S : X → List ℕ → Type 0) (octets : List ℕ) (a b : X × List ℕ) → a ≡ b →
    Begins S octets a.0 a.1 → Begins S octets b.0 b.1
begins_same {X} S octets a b e h = subst (λ (q : X × List ℕ). Begins S octets q.0 q.1) e h

-- where nothing remains, the octets are encoded
encoded_all : {X : Type 0} (S : X → List ℕ → Type 0) (octets : List ℕ) (x y : X) (rest : List ℕ) → rest ≡ [] → x ≡ y →
    Begins S octets x rest → S y octets
encoded_all {X} S octets x y rest none same b =
    let used : b.text ≡ octets = sym (append-nil b.text) ∙ ap (λ (r : List ℕ). b.text ++ r) (sym none) ∙ sym b.parts in
    subst (λ (c : List ℕ). S y c) used (subst (λ (z : X). S z b.text) same b.encoded)

-- one text after the other
one_after : (octets a next b rest : List ℕ) → octets ≡ a ++ next → next ≡ b ++ rest → octets ≡ (a ++ b) ++ rest
one_after octets a next b rest first second = first ∙ ap (λ (t : List ℕ). a ++ t) second ∙ sym (append_assoc a b rest)

-- one value after the other
both_begin : {X Y : Type 0} (S : X → List ℕ → Type 0) (T : Y → List ℕ → Type 0) (octets : List ℕ) (x : X)
    (next : List ℕ) (y : Y) (rest : List ℕ) → Begins S octets x next → Begins T next y rest →
    Begins (Both S T) octets (x, y) rest
both_begin S T octets x next y rest one two = record {
  text = one.text ++ two.text;
  encoded = (one.text, two.text, one.encoded, two.encoded, refl);
  parts = one_after octets one.text next two.text rest one.parts two.parts;
}

-- a content that isn't used up
pub not_used_up : {X : Type 0} {c rest more : List ℕ} {x : X} {now ahead : Place} (t : ℕ) (f : List ℕ → Option (X × List ℕ))
    → ahead ≡ now → value_at t (remaining ahead) ≡ Some (c, rest) → f c ≡ Some (x, more) → (more ≡ [] → ⊥) →
    inside t f (remaining now) ≡ None
not_used_up {X} {c} {rest} {more} {x} {now} {ahead} t f same v e h =
    let here : value_at t (remaining now) ≡ Some (c, rest) = subst (λ (p : Place). value_at t (remaining p) ≡ Some (c, rest)) same v in
    rw (here, e) (unended more (x, rest) h)
  where
    unended : {X : Type 0} (more : List ℕ) (x : X) → (more ≡ [] → ⊥) → at_end more x ≡ None
    unended [] x h = absurd (h refl)
    unended (b ∷ more) x h = refl

-- ---- before such octets

module _ (P : List ℕ → Type 0) where
  -- what is lawful whatever follows is lawful before such octets
  pub before : {X : Type 0} (f : List ℕ → Option (X × List ℕ)) (S : X → List ℕ → Type 0) → Reads f S → ReadsBefore P f S
  before f S F = record { takes = F.takes; again = λ v text rest s p. F.again v text rest s }

  -- a lawful reading stays lawful for an equivalent relation
  pub same_before : {X : Type 0} (f : List ℕ → Option (X × List ℕ)) (S T : X → List ℕ → Type 0) → ReadsBefore P f S →
      ((x : X) (text : List ℕ) → S x text → T x text) → ((x : X) (text : List ℕ) → T x text → S x text) →
      ReadsBefore P f T
  same_before f S T F to back = record {
    takes = λ bytes x rest fits e. let one = F.takes bytes x rest fits e in
        record { text = one.text; encoded = to x one.text one.encoded; parts = one.parts };
    again = λ x text rest t p. F.again x text rest (back x text t) p;
  }

  -- what a function makes of the value
  pub map_value_before : {X Y : Type 0} (to : X → Y) (f : List ℕ → Option (X × List ℕ)) (S : X → List ℕ → Type 0)
      (T : Y → List ℕ → Type 0) → ReadsBefore P f S
      → ((x : X) (text : List ℕ) → S x text → T (to x) text) →
      ((y : Y) (text : List ℕ) → T y text → (x : X) × (to x ≡ y) × S x text) → ReadsBefore P (map_value to f) T
  map_value_before {X} {Y} to f S T F there back = record {
    takes = λ bytes y rest fits e.
        let a = bind_some (f bytes) (λ x. Some (to x.0, x.1)) (y, rest) e in
        let one = F.takes bytes a.0.0 a.0.1 fits a.1 in
        let made : Y × List ℕ = (to a.0.0, a.0.1) in
        begins_same T bytes made (y, rest) (some_is made (y, rest) a.2)
        (record { text = one.text; encoded = there a.0.0 one.text one.encoded; parts = one.parts });
    again = λ y text rest t p. let x = back y text t in rw (F.again x.0 text rest x.2 p, x.1) refl;
  }

  -- a lawful reading that depends on one before it is lawful before such octets
  pub and_then_before : {X Y : Type 0} (f : List ℕ → Option (X × List ℕ)) (g : X → List ℕ → Option (Y × List ℕ))
      (S : X → List ℕ → Type 0) (T : X → Y → List ℕ → Type 0)
      → Reads f S → ((x : X) → ReadsBefore P (g x) (T x)) → ReadsBefore P (and_then f g) (AndThen S T)
  and_then_before f g S T F G = record {
    takes = λ bytes y rest fits e.
        let a = bind_some (f bytes) (λ x. g x.0 x.1) (y, rest) e in
        let one = F.takes bytes a.0.0 a.0.1 fits a.1 in
        let two = (G a.0.0).takes a.0.1 y rest (AreOctets-after bytes one.text a.0.1 one.parts fits) a.2 in
        record {
          text = one.text ++ two.text;
          encoded = (a.0.0, one.text, two.text, one.encoded, two.encoded, refl);
          parts = one_after bytes one.text a.0.1 two.text rest one.parts two.parts;
        };
    again = λ y text rest s p.
        let all : text ++ rest ≡ s.1 ++ (s.2 ++ rest) = rw s.5 (append_assoc s.1 s.2 rest) in
        rw (all, F.again s.0 s.1 (s.2 ++ rest) s.3) ((G s.0).again y s.2 rest s.4 p);
  }

  -- the octets end
  pub whole_before : {X : Type 0} (f : List ℕ → Option (X × List ℕ)) (S : X → List ℕ → Type 0) → P [] →
      ReadsBefore P f S → ReadsWhole (whole f) S
  whole_before {X} f S end F = record {
    takes = λ octets x fits e.
        let a = bind_some (f octets) (λ r. at_end r.1 r.0) x e in
        let g = ended_some a.0.1 a.0.0 x a.2 in
        encoded_all S octets a.0.0 x a.0.1 g.0 g.1 (F.takes octets a.0.0 a.0.1 fits a.1);
    again = λ x octets s.
        let all : f octets ≡ some {A = X × List ℕ} (x, []) = ap f (sym (append-nil octets)) ∙ F.again x octets [] s end in
        rw all refl;
  }

  -- the enclosing value ends
  pub inside_before : {X : Type 0} (t : ℕ) (f : List ℕ → Option (X × List ℕ)) (S : X → List ℕ → Type 0) → P [] →
      ReadsBefore P f S → Reads (inside t f) (Inside t S)
  inside_before {X} t f S end F = record {
    takes = λ bytes p rest fits e.
        let a = bind_some (value_at t bytes) (λ v. f v.0 >>= λ x. at_end x.1 (x.0, v.1)) (p, rest) e in
        let b = bind_some (f a.0.0) (λ x. at_end x.1 (x.0, a.0.1)) (p, rest) a.2 in
        let made : X × List ℕ = (b.0.0, a.0.1) in
        let g = ended_some b.0.1 made (p, rest) b.2 in
        let one = value_takes t bytes a.0.0 a.0.1 fits a.1 in
        let low = AreOctets-content bytes t a.0.0 one fits in
        let all = encoded_all S a.0.0 b.0.0 b.0.0 b.0.1 g.0 refl (F.takes a.0.0 b.0.0 b.0.1 low b.1) in
        begins_same (Inside t S) bytes made (p, rest) g.1 (record {
          text = one.text;
          encoded = (a.0.0, all, one.encoded);
          parts = one.parts;
        });
    again = λ p text rest s.
        let all : f s.0 ≡ some {A = X × List ℕ} (p, []) = ap f (sym (append-nil s.0)) ∙ F.again p s.0 [] s.1 end in
        rw (value_again t s.0 text rest s.2, all) refl;
  }

  -- a second value stands between the first and what follows
  pub both_before : {X Y : Type 0} (Q : List ℕ → Type 0) (f : List ℕ → Option (X × List ℕ))
      (g : List ℕ → Option (Y × List ℕ)) (S : X → List ℕ → Type 0) (T : Y → List ℕ → Type 0)
      → ReadsBefore Q f S → ReadsBefore P g T →
      ((y : Y) (text rest : List ℕ) → T y text → P rest → Q (text ++ rest)) →
      ReadsBefore P (both f g) (Both S T)
  both_before {X} {Y} Q f g S T F G other = record {
    takes = λ bytes p rest fits e.
        let a = bind_some (f bytes) (λ x. g x.1 >>= λ y. Some ((x.0, y.0), y.1)) (p, rest) e in
        let b = bind_some (g a.0.1) (λ y. Some ((a.0.0, y.0), y.1)) (p, rest) a.2 in
        let one = F.takes bytes a.0.0 a.0.1 fits a.1 in
        let two = G.takes a.0.1 b.0.0 b.0.1 (AreOctets-after bytes one.text a.0.1 one.parts fits) b.1 in
        let made : (X × Y) × List ℕ = ((a.0.0, b.0.0), b.0.1) in
        begins_same (Both S T) bytes made (p, rest) (some_is made (p, rest) b.2) (both_begin S T bytes a.0.0 a.0.1 b.0.0 b.0.1 one two);
    again = λ p text rest s follows.
        let all : text ++ rest ≡ s.0 ++ (s.1 ++ rest) = rw s.4 (append_assoc s.0 s.1 rest) in
        rw (all, F.again p.0 s.0 (s.1 ++ rest) s.2 (other p.1 s.1 rest s.3 follows), G.again p.1 s.1 rest s.3 follows) refl;
  }

-- ---- whatever follows

-- what is lawful before any octets is lawful whatever follows
pub before_anything : {X : Type 0} (f : List ℕ → Option (X × List ℕ)) (S : X → List ℕ → Type 0) → ReadsBefore Anything f S → Reads f S
before_anything f S F = record { takes = F.takes; again = λ v text rest s. F.again v text rest s tt }

-- another value follows
pub before_then : {X Y : Type 0} (P : List ℕ → Type 0) (f : List ℕ → Option (X × List ℕ))
    (g : List ℕ → Option (Y × List ℕ)) (S : X → List ℕ → Type 0) (T : Y → List ℕ → Type 0)
    → ReadsBefore P f S → Reads g T → ((y : Y) (text rest : List ℕ) → T y text → P (text ++ rest)) → Reads (both f g) (Both S T)
before_then P f g S T F G other =
    before_anything (both f g) (Both S T)
    (both_before Anything P f g S T F (before Anything g T G) (λ y text rest s follows. other y text rest s))

-- two lawful readings, one after the other, are lawful
pub both_reads : {X Y : Type 0} (f : List ℕ → Option (X × List ℕ)) (g : List ℕ → Option (Y × List ℕ))
    (S : X → List ℕ → Type 0) (T : Y → List ℕ → Type 0)
    → Reads f S → Reads g T → Reads (both f g) (Both S T)
both_reads f g S T F G = before_then Anything f g S T (before Anything f S F) G (λ y text rest s. tt)

-- a lawful reading inside a tag is lawful
pub inside_reads : {X : Type 0} (t : ℕ) (f : List ℕ → Option (X × List ℕ)) (S : X → List ℕ → Type 0) → Reads f S →
    Reads (inside t f) (Inside t S)
inside_reads t f S F = inside_before Anything t f S tt (before Anything f S F)

-- the whole of some octets
pub whole_reads : {X : Type 0} (f : List ℕ → Option (X × List ℕ)) (S : X → List ℕ → Type 0) → Reads f S → ReadsWhole (whole f) S
whole_reads f S F = whole_before Anything f S tt (before Anything f S F)

-- a lawful reading of a whole content is lawful inside its tag
pub content_reads : {X : Type 0} (t : ℕ) (f : List ℕ → Option X) (S : X → List ℕ → Type 0) → ReadsWhole f S →
    Reads (content t f) (Inside t S)
content_reads {X} t f S F = record {
  takes = λ bytes p rest fits e.
      let a = bind_some (value_at t bytes) (λ v. f v.0 >>= λ x. Some (x, v.1)) (p, rest) e in
      let b = bind_some (f a.0.0) (λ x. Some (x, a.0.1)) (p, rest) a.2 in
      let made : X × List ℕ = (b.0, a.0.1) in
      let one = value_takes t bytes a.0.0 a.0.1 fits a.1 in
      let low = AreOctets-content bytes t a.0.0 one fits in
      begins_same (Inside t S) bytes made (p, rest) (some_is made (p, rest) b.2) (record {
        text = one.text;
        encoded = (a.0.0, F.takes a.0.0 b.0 low b.1, one.encoded);
        parts = one.parts;
      });
  again = λ p text rest s. rw (value_again t s.0 text rest s.2, F.again p s.0 s.1) refl;
}

-- a lawful reading stays lawful for an equivalent relation
pub same_reads : {X : Type 0} (f : List ℕ → Option (X × List ℕ)) (S T : X → List ℕ → Type 0) → Reads f S →
    ((x : X) (text : List ℕ) → S x text → T x text) → ((x : X) (text : List ℕ) → T x text → S x text) → Reads f T
same_reads f S T F to back = before_anything f T (same_before Anything f S T (before Anything f S F) to back)
