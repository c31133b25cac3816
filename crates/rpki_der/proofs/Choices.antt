-- Readings that choose by what stands next, and readings that turn what they read.
use Rattle.std.proofs.Common.{◌≡◌, ℕ, eqb, List, [], ◌∷◌, ◌++◌, length, Option, Some, refl, ap, ◌∙◌, inl, inr, arith}
use Rattle.std.proofs.lemmas.Bool.{cases_Bool, eq-eqb, ne_eqb}
use Rattle.rpki_der.specs.Choices.{choice, Either, conversion, IsConversion}
use Rattle.rpki_der.specs.Reading.{at_end, content, inside, Reads, ReadsWhole, Inside, BeginWith}
use Rattle.rpki_der.specs.Values.Reading.{value_at, ◌>>=◌}
use Rattle.rpki_der.specs.Sequences.{AreEncodings}
use Rattle.rpki_der.specs.Sequences.Reading.{sequence_of, Shrinks}
use Rattle.rpki_der.specs.Encoding.{Begins, BeginsOther}
use Rattle.rpki_der.specs.Values.{AreOctets, length_octets, enc, IsEnc}
use Rattle.rpki_der.proofs.Octets.{bind_some, some, both_are}
use Rattle.rpki_der.proofs.Readings.{ended_some}
use Rattle.rpki_der.proofs.ValueReads.{value_shorter}
use Rattle.rpki_der.proofs.Sequences.{elements_are, sequence_again}

by_first : {X : Type 0} (t : ℕ) (f g : List ℕ → Option X) (bytes tail : List ℕ) → bytes ≡ t ∷ tail → choice t f g bytes ≡ f bytes
by_first t f g [] tail e = absurd cc
by_first t f g (b ∷ bytes) tail e = let same : b ≡ t = cc in rw (eq-eqb b t same) refl

by_second : {X : Type 0} (t : ℕ) (f g : List ℕ → Option X) (bytes : List ℕ) → BeginsOther t bytes → choice t f g bytes ≡ g bytes
by_second t f g [] other = refl
by_second t f g (b ∷ bytes) other = rw (ne_eqb b t other) refl

choice_takes : {V : Type 0} (t : ℕ) (f g : List ℕ → Option (V × List ℕ)) (S T : V → List ℕ → Type 0) → Reads f S → Reads g T
    → (bytes : List ℕ) (v : V) (rest : List ℕ) → AreOctets bytes → choice t f g bytes ≡ Some (v, rest) → Begins (Either S T) bytes v rest
choice_takes t f g S T F G [] v rest fits e = let r = G.takes [] v rest fits e in
    record { text = r.text; encoded = inr r.encoded; parts = r.parts }
choice_takes t f g S T F G (b ∷ bytes) v rest fits e =
    elim (cases_Bool (eqb b t)) [
      | inl y ↦ let r = F.takes (b ∷ bytes) v rest fits (rw y at e) in record { text = r.text; encoded = inl r.encoded; parts = r.parts }
      | inr n ↦ let r = G.takes (b ∷ bytes) v rest fits (rw n at e) in record { text = r.text; encoded = inr r.encoded; parts = r.parts }
    ]

-- where the second form begins otherwise
pub choice_reads : {V : Type 0} (t : ℕ) (f g : List ℕ → Option (V × List ℕ)) (S T : V → List ℕ → Type 0)
    → Reads f S → Reads g T → BeginWith t S →
    ((v : V) (text rest : List ℕ) → T v text → BeginsOther t (text ++ rest)) → Reads (choice t f g) (Either S T)
choice_reads t f g S T F G begin other = record {
  takes = choice_takes t f g S T F G;
  again = λ v text rest s. elim s [
    | inl a ↦ let b = begin v text a in
        by_first t f g (text ++ rest) (b.0 ++ rest) (ap (λ (x : List ℕ). x ++ rest) b.1) ∙ F.again v text rest a
    | inr a ↦ by_second t f g (text ++ rest) (other v text rest a) ∙ G.again v text rest a
  ];
}

-- ---- what a function makes of a value

-- what a function makes of a whole
pub conversion_reads_whole : {X Y : Type 0} (f : X → Option Y) (read : List ℕ → Option X) (S : X → List ℕ → Type 0) →
    ReadsWhole read S → ReadsWhole (λ c. read c >>= f) (IsConversion f S)
conversion_reads_whole {X} {Y} f read S F = record {
  takes = λ octets y fits e.
      let a = bind_some (read octets) f y e in
      (a.0, F.takes octets a.0 fits a.1, a.2);
  again = λ y octets s. rw (F.again s.0 octets s.1) s.2;
}

-- ---- the whole of some octets

-- a sequence is a whole
pub sequence_reads : {X : Type 0} (read : List ℕ → Option (X × List ℕ)) (S : X → List ℕ → Type 0) → Reads read S →
    Shrinks read → ReadsWhole (sequence_of read) (AreEncodings S)
sequence_reads read S F less =
    record {
      takes = λ octets xs fits e. elements_are read S F octets xs fits e;
      again =
          λ xs octets s. sequence_again read S F less xs octets s;
    }

-- ---- a content, or something else

-- a value begins with its tag
pub enc_begins : (t : ℕ) → BeginWith t (IsEnc t)
unfolding enc
enc_begins t c text e = (length_octets (length c) ++ c, e.is)

-- a value inside a tag begins with this tag
pub inside_begins : {X : Type 0} (t : ℕ) (S : X → List ℕ → Type 0) → BeginWith t (Inside t S)
inside_begins t S x text s = enc_begins t s.0 text s.2

-- ---- readings of values shrink

-- reading a content uses octets up
pub content_shrinks : {X : Type 0} (t : ℕ) (f : List ℕ → Option X) → Shrinks (content t f)
content_shrinks {X} t f = λ bytes x rest e.
    let a = bind_some (value_at t bytes) (λ v. f v.0 >>= λ y. some {A = X × List ℕ} (y, v.1)) (x, rest) e in
    let b = bind_some (f a.0.0) (λ y. some {A = X × List ℕ} (y, a.0.1)) (x, rest) a.2 in
    let same : a.0.1 ≡ rest = (both_are (b.0, a.0.1) (x, rest) b.2).1 in
    omega (arith, value_shorter t bytes a.0.0 a.0.1 a.1, ap length same)

-- reading inside a value uses octets up
pub inside_shrinks : {X : Type 0} (t : ℕ) (f : List ℕ → Option (X × List ℕ)) → Shrinks (inside t f)
inside_shrinks {X} t f = λ bytes x rest e.
    let p = bind_some (value_at t bytes) (λ v. f v.0 >>= λ y. at_end y.1 (y.0, v.1)) (x, rest) e in
    let q = bind_some (f p.0.0) (λ y. at_end y.1 (y.0, p.0.1)) (x, rest) p.2 in
    let same : p.0.1 ≡ rest = ap (λ (z : X × List ℕ). z.1) (ended_some q.0.1 (q.0.0, p.0.1) (x, rest) q.2).1 in
    omega (arith, ap length same, value_shorter t bytes p.0.0 p.0.1 p.1)

-- a reading that is turned uses octets up where the reading does
pub conversion_shrinks : {X Y : Type 0} (f : X → Option Y) (read : List ℕ → Option (X × List ℕ)) → Shrinks read →
    Shrinks (conversion f read)
conversion_shrinks {X} {Y} f read less = λ bytes y rest e.
    let a = bind_some (read bytes) (λ x. f x.0 >>= λ z. some {A = Y × List ℕ} (z, x.1)) (y, rest) e in
    let b = bind_some (f a.0.0) (λ z. some {A = Y × List ℕ} (z, a.0.1)) (y, rest) a.2 in
    let same : a.0.1 ≡ rest = (both_are (b.0, a.0.1) (y, rest) b.2).1 in
    omega (arith, less bytes a.0.0 a.0.1 a.1, ap length same)

-- a choice of readings uses octets up where both do
pub choice_shrinks : {X : Type 0} (t : ℕ) (f g : List ℕ → Option (X × List ℕ)) → Shrinks f → Shrinks g → Shrinks (choice t f g)
choice_shrinks t f g F G [] x rest e = G [] x rest e
choice_shrinks t f g F G (b ∷ bytes) x rest e =
    elim (cases_Bool (eqb b t)) [
      | inl y ↦ F (b ∷ bytes) x rest (rw y at e)
      | inr n ↦ G (b ∷ bytes) x rest (rw n at e)
    ]
