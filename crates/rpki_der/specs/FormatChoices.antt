-- Formats that choose, that test, that make something of a value or keep its octets, and that are a
-- content of one's own.
use Rattle.std.specs.Prelude.{◌≡◌, ℕ, Bool, true, false, List, [], ◌∷◌, ◌++◌, Option, Some, None, if◌then◌else◌, cond, is_some}
use Rattle.rpki_der.specs.Choices.{choice, Either, conversion, IsConversion, and_then, AndThen, whole}
use Rattle.rpki_der.specs.Formats.{Format, either_head}
use Rattle.rpki_der.specs.Reading.{content, Inside}
use Rattle.rpki_der.specs.Skipping.Reading.{captured_at}
use Rattle.rpki_der.specs.Values.{enc}

-- a content of one's own in a value of this tag (X.690 8.1): how it is read, what it encodes, and
-- what is written of a value that fits
abbrev pub primitive : {V : Type 0} → ℕ → (List ℕ → Option V) → (V → List ℕ → Type 0) → (V → Type 0) → (V → List ℕ) → Format V
primitive t of is fits written = record {
  encodes = Inside t is;
  read = content t of;
  fits = fits;
  written = λ v. enc t (written v);
  inside = written;
  heads = Some (t ∷ []);
  least = 1;
  shut = [];
}

-- CHOICE of what begins with this tag and what doesn't (X.680 29, X.690 8.13); the test tells which
-- of the two is written
abbrev pub CHOICE : {V : Type 0} → ℕ → (V → Bool) → Format V → Format V → Format V
CHOICE t first f g = record {
  encodes = Either f.encodes g.encodes;
  read = choice t f.read g.read;
  fits = λ v. (first v ≡ true → f.fits v) × (first v ≡ false → g.fits v);
  written = λ v. cond (first v) (f.written v) (g.written v);
  inside = λ v. cond (first v) (f.inside v) (g.inside v);
  heads = either_head f.heads g.heads;
  least = 1;
  shut = [];
}

-- only values that pass a test: a constraint (X.680 49)
abbrev pub such_that : {V : Type 0} → (V → Bool) → Format V → Format V
such_that passes f = record {
  encodes = λ v text. (passes v ≡ true) × f.encodes v text;
  read = conversion (λ v. if passes v then Some v else None) f.read;
  fits = λ v. (passes v ≡ true) × f.fits v;
  written = f.written;
  inside = f.inside;
  heads = f.heads;
  least = f.least;
  shut = f.shut;
}

-- only values with a property, which the test tells: a constraint (X.680 49)
abbrev pub restricted : {V : Type 0} → (V → Bool) → (V → Type 0) → Format V → Format V
restricted test P f = record {
  encodes = λ v text. f.encodes v text × P v;
  read = conversion (λ v. if test v then Some v else None) f.read;
  fits = λ v. f.fits v × P v;
  written = f.written;
  inside = f.inside;
  heads = f.heads;
  least = f.least;
  shut = f.shut;
}

-- ANY DEFINED BY (X.208): a value, of which nothing but what it decides is kept, and one whose
-- format it decides, behind which these may not follow
abbrev pub defined_by : {X Y : Type 0} → Format X → (Y → X) → List ℕ → (X → Format Y) → Format Y
defined_by f key shut g = record {
  encodes = AndThen f.encodes (λ x. (g x).encodes);
  read = and_then f.read (λ x. (g x).read);
  fits = λ y. f.fits (key y) × (g (key y)).fits y;
  written = λ y. f.written (key y) ++ (g (key y)).written y;
  inside = λ y. f.written (key y) ++ (g (key y)).written y;
  heads = f.heads;
  least = f.least;
  shut = shut;
}

-- what a function makes of a value, where it makes anything; of several values that make one, the
-- chosen one is written
abbrev pub image : {X Y : Type 0} → (X → Option Y) → (Y → X) → Format X → Format Y
image of chosen f = record {
  encodes = IsConversion of f.encodes;
  read = conversion of f.read;
  fits = λ y. (of (chosen y) ≡ Some y) × f.fits (chosen y);
  written = λ y. f.written (chosen y);
  inside = λ y. f.inside (chosen y);
  heads = f.heads;
  least = f.least;
  shut = f.shut;
}

-- ---- kept as octets

-- the octets, where they are one value and nothing else
abbrev pub if_whole : {V : Type 0} → (List ℕ → Option (V × List ℕ)) → List ℕ → Option (List ℕ)
if_whole read octets = if is_some (whole read octets) then Some octets else None

-- a value that is kept as the octets that encode it
abbrev pub kept : {V : Type 0} → Format V → Format (List ℕ)
kept {V} f = record {
  encodes = λ octets text. ((v : V) × f.encodes v text) × (octets ≡ text);
  read = conversion (if_whole f.read) captured_at;
  fits = λ octets. (v : V) × f.encodes v octets;
  written = λ octets. octets;
  inside = λ octets. [];
  heads = f.heads;
  least = f.least;
  shut = [];
}
