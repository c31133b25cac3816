-- Readings made of readings, what is encoded where they read, and when a reading and an encoding
-- say the same.
use Rattle.std.specs.Prelude.{ℕ, List, [], ◌∷◌, Option, Some, None, ◌≡◌, ◌++◌, nat_eq, if◌then◌else◌}
use Rattle.rpki_der.specs.Encoding.{Begins, BeginsOrAbsent}
use Rattle.rpki_der.specs.Values.{IsEnc, AreOctets}
use Rattle.rpki_der.specs.Values.Reading.{◌>>=◌, value_at}

-- the value, where no octets are remaining
abbrev pub at_end : {X : Type 0} → List ℕ → X → Option X
at_end [] x = Some x
at_end (b ∷ bytes) x = None

-- what is read inside a value of this tag, which is used up
abbrev pub inside : {X : Type 0} → ℕ → (List ℕ → Option (X × List ℕ)) → List ℕ → Option (X × List ℕ)
inside t read bytes = do
  v ← value_at t bytes
  x ← read v.0
  at_end x.1 (x.0, v.1)

-- a value that is the content of a value of this tag
abbrev pub Inside : {V : Type 0} → ℕ → (V → List ℕ → Type 0) → V → List ℕ → Type 0
Inside tag encodes v text = (content : List ℕ) × encodes v content × IsEnc tag content text

-- one after the other
abbrev pub both : {X Y : Type 0} → (List ℕ → Option (X × List ℕ)) → (List ℕ → Option (Y × List ℕ)) → List ℕ → Option ((X × Y) × List ℕ)
both first second bytes = do
  x ← first bytes
  y ← second x.1
  Some ((x.0, y.0), y.1)

-- one value after the other
abbrev pub Both : {X Y : Type 0} → (X → List ℕ → Type 0) → (Y → List ℕ → Type 0) → X × Y → List ℕ → Type 0
Both first second v text = (a : List ℕ) × (b : List ℕ) × first v.0 a × second v.1 b × (text ≡ a ++ b)

-- a value in another form
abbrev pub map_value : {X Y : Type 0} → (X → Y) → (List ℕ → Option (X × List ℕ)) → List ℕ → Option (Y × List ℕ)
map_value f read bytes = do
  x ← read bytes
  Some (f x.0, x.1)

-- a whole content
abbrev pub content : {X : Type 0} → ℕ → (List ℕ → Option X) → List ℕ → Option (X × List ℕ)
content t read bytes = do
  v ← value_at t bytes
  x ← read v.0
  Some (x, v.1)

-- nothing at the end or before another tag
abbrev pub optional : {X : Type 0} → ℕ → (List ℕ → Option (X × List ℕ)) → List ℕ → Option (Option X × List ℕ)
optional t read [] = Some (None, [])
optional t read (found ∷ bytes) = if nat_eq found t then (read (found ∷ bytes) >>= λ x. Some (Some x.0, x.1))
    else Some (None, found ∷ bytes)

-- a value, or nothing
abbrev pub Optional : {V : Type 0} → (V → List ℕ → Type 0) → Option V → List ℕ → Type 0
Optional encodes None text = text ≡ []
Optional encodes (Some v) text = encodes v text

-- every encoding of these values begins with this tag
abbrev pub BeginWith : {V : Type 0} → ℕ → (V → List ℕ → Type 0) → Type 0
BeginWith {V} tag encodes = (v : V) (text : List ℕ) → encodes v text → (tail : List ℕ) × (text ≡ tag ∷ tail)

-- ---- a reading function and an encoding

-- what is read is encoded so, and what is encoded so is read, where such octets follow
pub record ReadsBefore {V : Type 0} (follows : List ℕ → Type 0) (read : List ℕ → Option (V × List ℕ))
    (encodes : V → List ℕ → Type 0) : Type 0 where
  pub takes : (octets : List ℕ) (v : V) (rest : List ℕ) → AreOctets octets → read octets ≡ Some (v, rest) → Begins encodes octets v rest
  pub again : (v : V) (text rest : List ℕ) → encodes v text → follows rest → read (text ++ rest) ≡ Some (v, rest)

-- any octets may follow
abbrev pub Anything : List ℕ → Type 0
Anything rest = Unit {0}

-- what is read is encoded so, and what is encoded so is read, whatever follows
pub record Reads {V : Type 0} (read : List ℕ → Option (V × List ℕ)) (encodes : V → List ℕ → Type 0) : Type 0 where
  pub takes : (octets : List ℕ) (v : V) (rest : List ℕ) → AreOctets octets → read octets ≡ Some (v, rest) → Begins encodes octets v rest
  pub again : (v : V) (text rest : List ℕ) → encodes v text → read (text ++ rest) ≡ Some (v, rest)

-- what is read of whole octets is encoded so, and what is encoded so is read
pub record ReadsWhole {V : Type 0} (read : List ℕ → Option V) (encodes : V → List ℕ → Type 0) : Type 0 where
  pub takes : (octets : List ℕ) (v : V) → AreOctets octets → read octets ≡ Some v → encodes v octets
  pub again : (v : V) (octets : List ℕ) → encodes v octets → read octets ≡ Some v

-- what is read of a value that may be absent is encoded so, and what is encoded so is read
pub record ReadsOrAbsent {V : Type 0} (tag : ℕ) (read : List ℕ → Option (V × List ℕ)) (encodes : V → List ℕ → Type 0) : Type 0 where
  pub takes : (octets : List ℕ) (v : V) (rest : List ℕ) → AreOctets octets → read octets ≡ Some (v, rest) →
      BeginsOrAbsent tag encodes octets v rest
  pub again : (octets : List ℕ) (v : V) (rest : List ℕ) → BeginsOrAbsent tag encodes octets v rest → read octets ≡ Some (v, rest)
