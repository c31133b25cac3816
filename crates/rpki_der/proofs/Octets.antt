-- Octets, and steps of a reading.
use Rattle.std.proofs.Common.{◌≡◌, ℕ, suc, ◌<◌, Bool, true, false, cond, List, [], ◌∷◌, ◌++◌, get_or, take, drop}
use Rattle.std.proofs.Common.{Option, Some, None, refl, sym, ap, subst}
use Rattle.std.proofs.lemmas.List.{take-append-drop}
use Rattle.rpki_der.specs.Values.Reading.{◌>>=◌}
use Rattle.rpki_der.specs.Values.{AreOctets}

-- octets after octets are octets
pub AreOctets-append : (a b : List ℕ) → AreOctets a → AreOctets b → AreOctets (a ++ b)
AreOctets-append [] b g h = h
AreOctets-append (x ∷ a) b g h = (g.0, AreOctets-append a b g.1 h)

-- both parts of octets are octets
pub AreOctets-parts : (a b : List ℕ) → AreOctets (a ++ b) → AreOctets a × AreOctets b
AreOctets-parts [] b h = (tt, h)
AreOctets-parts (x ∷ a) b h = let r = AreOctets-parts a b h.1 in ((h.0, r.0), r.1)

-- what follows a front, and the front
pub AreOctets-after : (bytes text rest : List ℕ) → bytes ≡ text ++ rest → AreOctets bytes → AreOctets rest
AreOctets-after bytes text rest e h = (AreOctets-parts text rest (subst AreOctets e h)).1

-- a front of octets is octets
pub AreOctets-front : (bytes text rest : List ℕ) → bytes ≡ text ++ rest → AreOctets bytes → AreOctets text
AreOctets-front bytes text rest e h = (AreOctets-parts text rest (subst AreOctets e h)).0

-- octets without the first n are octets
pub AreOctets-drop : (n : ℕ) (bytes : List ℕ) → AreOctets bytes → AreOctets (drop n bytes)
AreOctets-drop n bytes h = AreOctets-after bytes (take n bytes) (drop n bytes) (sym (take-append-drop n bytes)) h

-- the first n of octets are octets
pub AreOctets-take : (n : ℕ) (bytes : List ℕ) → AreOctets bytes → AreOctets (take n bytes)
AreOctets-take n bytes h = AreOctets-front bytes (take n bytes) (drop n bytes) (sym (take-append-drop n bytes)) h

-- from each place
pub AreOctets-each : (bytes : List ℕ) → ((i : ℕ) → get_or bytes i 0 < 256) → AreOctets bytes
AreOctets-each [] h = tt
AreOctets-each (b ∷ bytes) h = (h 0, AreOctets-each bytes (λ i. h (suc i)))

-- the value of a step that gave one
pub bind_some : {A B : Type 0} (r : Option A) (f : A → Option B) (y : B) → (r >>= f) ≡ Some y → (x : A) × (r ≡ Some x) × (f x ≡ Some y)
bind_some (Some x) f y e = (x, refl, e)
bind_some None f y e = absurd cc

-- tests that gave a value
pub if_some : {A : Type 0} (b : Bool) (x y : A) → cond b (Some x) None ≡ Some y → (b ≡ true) × (x ≡ y)
if_some true x y e = (refl, cc)
if_some false x y e = absurd cc

-- what a test gives in the true case only, it gives because it was passed
pub chosen : {A : Type 0} (b : Bool) (x : Option A) (y : A) → cond b x None ≡ Some y → (b ≡ true) × (x ≡ Some y)
chosen true x y e = (refl, e)
chosen false x y e = absurd cc

-- what a test gives in the false case only, it gives because it was failed
pub unless_some : {A : Type 0} (b : Bool) (x y : A) → cond b None (Some x) ≡ Some y → (b ≡ false) × (x ≡ y)
unless_some true x y e = absurd cc
unless_some false x y e = (refl, cc)

-- a value that is there, of a named type
abbrev pub some : {A : Type 0} → A → Option A
some x = Some x

-- values that are there are equal where their options are
pub some_is : {A : Type 0} (x y : A) → some x ≡ some y → x ≡ y
some_is x y e = cc

-- what a reading gave is one value and one rest
pub both_are : {A B : Type 0} (x y : A × B) → some x ≡ some y → (x.0 ≡ y.0) × (x.1 ≡ y.1)
both_are {A} {B} x y e = let f = some_is x y e in (ap (λ (z : A × B). z.0) f, ap (λ (z : A × B). z.1) f)

-- nothing is not something
pub nothing : {A B : Type 0} (x : A) → None ≡ Some x → B
nothing x e = absurd cc
