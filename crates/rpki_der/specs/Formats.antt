-- Formats: one description tells what encodes a value, how it is read, and what is written of it.
-- The words have the names that ASN.1 has, with the clauses of X.680 (2021) and X.690 (2021) that
-- they restate.
use Rattle.std.specs.Prelude.{ℕ, zero, suc, Bool, true, false, List, [], ◌∷◌, ◌++◌, Option, Some, None, ◌≡◌, ◌+◌}
use Rattle.std.specs.Prelude.{◌&&◌, ◌||◌, not, nat_eq, ◌≤◌, ◌<◌, ◌^◌, length, is_some}
use Rattle.std.specs.List.{flat_map, AllByRecursion}
use Rattle.rpki_der.specs.Tags.{SEQUENCE, SET}
use Rattle.rpki_der.specs.Writers.{Part}
use Rattle.rpki_der.specs.Values.{AreOctets, IsEnc, enc}
use Rattle.rpki_der.specs.Values.Reading.{value_at}
use Rattle.rpki_der.specs.Reading.{ReadsBefore, inside, Inside, both, Both, map_value, optional, Optional, content}
use Rattle.rpki_der.specs.Choices.{exactly, conversion}
use Rattle.rpki_der.specs.Sequences.{AreEncodings}
use Rattle.rpki_der.specs.Sequences.Reading.{sequence_of}

-- A format of values V: which strings encode a value, how a value is read from the front of octets,
-- which values can be written and what is written of them. The last three tell where it may stand:
-- its first octets (None: any), how many octets it has at least, and which octets may not follow.
pub record Format (V : Type 0) : Type 1 where
  pub encodes : V → List ℕ → Type 0
  pub read : List ℕ → Option (V × List ℕ)
  pub fits : V → Type 0
  pub written : V → List ℕ
  pub inside : V → List ℕ
  pub heads : Option (List ℕ)
  pub least : ℕ
  pub shut : List ℕ

-- ---- where a format may stand

-- whether it is one of them
abbrev pub among : ℕ → List ℕ → Bool
among n [] = false
among n (m ∷ ms) = nat_eq n m || among n ms

-- whether a text may begin with this octet
abbrev pub may_begin : Option (List ℕ) → ℕ → Bool
may_begin None n = true
may_begin (Some heads) n = among n heads

-- whether none of these is among those
abbrev pub are_apart : List ℕ → List ℕ → Bool
are_apart [] shut = true
are_apart (n ∷ ns) shut = not (among n shut) && are_apart ns shut

-- whether what begins so may stand behind a format behind which these may not
abbrev pub may_follow : List ℕ → Option (List ℕ) → Bool
may_follow [] heads = true
may_follow (n ∷ shut) None = false
may_follow (n ∷ shut) (Some heads) = are_apart heads (n ∷ shut)

-- these octets may stand there
abbrev pub Follows : List ℕ → List ℕ → Type 0
Follows shut [] = Unit {0}
Follows shut (n ∷ octets) = among n shut ≡ false

-- the first octets of one or the other
abbrev pub either_head : Option (List ℕ) → Option (List ℕ) → Option (List ℕ)
either_head None b = None
either_head (Some a) None = None
either_head (Some a) (Some b) = Some (a ++ b)

-- the first octets of one after the other
abbrev pub heads_then : ℕ → Option (List ℕ) → Option (List ℕ) → Option (List ℕ)
heads_then zero a b = either_head a b
heads_then (suc n) a b = a

-- what may not follow one after the other
abbrev pub shut_then : ℕ → List ℕ → List ℕ → List ℕ
shut_then zero a b = a ++ b
shut_then (suc n) a b = b

-- ---- descriptions

-- a value of this tag (X.690 8.1), whose relation, reading and writing are its own
abbrev pub own_value : {V : Type 0} → ℕ → (V → List ℕ → Type 0) → (List ℕ → Option (V × List ℕ)) → (V → Type 0) →
    (V → List ℕ) → (V → List ℕ) → Format V
own_value t encodes read fits written inside =
    record {
      encodes = encodes;
      read = read;
      fits = fits;
      written = written;
      inside = inside;
      heads =
          Some (t ∷ []);
      least = 1;
      shut = [];
    }

-- any octets, in a value of this tag (with OCTET_STRING: X.680 23, X.690 8.7)
abbrev pub any_octets : ℕ → Format (List ℕ)
any_octets t = own_value t (IsEnc t) (value_at t) AreOctets (enc t) (λ v. v)

-- in a value of this tag: an EXPLICIT tag, and what stands inside a SEQUENCE (X.680 31.2, X.690
-- 8.14)
abbrev pub tagged : {V : Type 0} → ℕ → Format V → Format V
tagged t f = record {
  encodes = Inside t f.encodes;
  read = inside t f.read;
  fits = f.fits;
  written =
      λ v. enc t (f.written v);
  inside = f.written;
  heads = Some (t ∷ []);
  least = 1;
  shut = [];
}

-- one after the other: the components of a sequence (X.680 25, X.690 8.9)
abbrev pub then : {V W : Type 0} → Format V → Format W → Format (V × W)
then f g = record {
  encodes = Both f.encodes g.encodes;
  read = both f.read g.read;
  fits = λ v. f.fits v.0 × g.fits v.1;
  written = λ v. f.written v.0 ++ g.written v.1;
  inside = λ v. f.written v.0 ++ g.written v.1;
  heads = heads_then f.least f.heads g.heads;
  least = f.least + g.least;
  shut = shut_then g.least f.shut g.shut;
}

-- this value alone, of which nothing is kept: a single value (X.680 51.2)
abbrev pub only : List ℕ → Format (List ℕ) → Format (Unit {0})
only c f = record {
  encodes = λ u. f.encodes c;
  read = conversion (exactly c) f.read;
  fits = λ u. f.fits c;
  written = λ u. f.written c;
  inside = λ u. f.inside c;
  heads = f.heads;
  least = f.least;
  shut = f.shut;
}

-- which values can be written, where none can
abbrev pub fits_if : {V : Type 0} → (V → Type 0) → Option V → Type 0
fits_if fits None = Unit {0}
fits_if fits (Some v) = fits v

-- what is written, where nothing stands for none
abbrev pub written_if : {V : Type 0} → (V → List ℕ) → Option V → List ℕ
written_if written None = []
written_if written (Some v) = written v

-- OPTIONAL, of a format that begins with this tag (X.680 25, X.690 8.9.3)
abbrev pub OPTIONAL : {V : Type 0} → ℕ → Format V → Format (Option V)
OPTIONAL t f = record {
  encodes = Optional f.encodes;
  read = optional t f.read;
  fits = fits_if f.fits;
  written = written_if f.written;
  inside = written_if f.inside;
  heads = Some (t ∷ []);
  least = 0;
  shut = t ∷ [];
}

-- a sequence that has a value
abbrev pub some_of : {V : Type 0} → (List ℕ → Option (V × List ℕ)) → List ℕ → Option (List V)
some_of read [] = None
some_of read (b ∷ bytes) = sequence_of read (b ∷ bytes)

-- values one after the other, and at least one
abbrev pub AreSome : {V : Type 0} → (V → List ℕ → Type 0) → List V → List ℕ → Type 0
AreSome encodes vs text = AreEncodings encodes vs text × (1 ≤ length vs)

-- values one after the other in a value of this tag
abbrev pub list_in : {V : Type 0} → ℕ → Format V → Format (List V)
list_in t f = record {
  encodes = Inside t (AreEncodings f.encodes);
  read = content t (sequence_of f.read);
  fits = AllByRecursion f.fits;
  written = λ vs. enc t (flat_map f.written vs);
  inside = flat_map f.written;
  heads = Some (t ∷ []);
  least = 1;
  shut = [];
}

-- the same with at least one
abbrev pub some_in : {V : Type 0} → ℕ → Format V → Format (List V)
some_in t f = record {
  encodes = Inside t (AreSome f.encodes);
  read = content t (some_of f.read);
  fits = λ vs. (1 ≤ length vs) × AllByRecursion f.fits vs;
  written = λ vs. enc t (flat_map f.written vs);
  inside = flat_map f.written;
  heads = Some (t ∷ []);
  least = 1;
  shut = [];
}

-- SEQUENCE OF (X.680 26, X.690 8.10)
abbrev pub SEQUENCE_OF : {V : Type 0} → Format V → Format (List V)
SEQUENCE_OF f = list_in SEQUENCE f

-- SET SIZE (1..MAX) OF (X.680 28, X.690 8.12); in any order, where DER wants an ascending one
-- (X.690 11.6; own)
abbrev pub SET_OF_SOME : {V : Type 0} → Format V → Format (List V)
SET_OF_SOME f = some_in SET f

-- ---- fields

-- fields of a record, their values X, and the format of these
pub record Fields (R X : Type 0) : Type 1 where
  pub values : R → X
  pub format : Format X

infixr 30 ◌⨟◌
infix 40 ◌∶◌
-- a field and its format
abbrev pub ◌∶◌ : {R X : Type 0} → (R → X) → Format X → Fields R X
field ∶ f = record { values = field; format = f }

-- fields one after the other
abbrev pub ◌⨟◌ : {R X Y : Type 0} → Fields R X → Fields R Y → Fields R (X × Y)
f ⨟ g = record { values = λ r. (f.values r, g.values r); format = then f.format g.format }

-- the record of these fields
abbrev pub fields : {R X : Type 0} → (X → R) → Fields R X → Format R
fields make f = record {
  encodes = λ r. f.format.encodes (f.values r);
  read = map_value make f.format.read;
  fits = λ r. f.format.fits (f.values r);
  written = λ r. f.format.written (f.values r);
  inside = λ r. f.format.inside (f.values r);
  heads = f.format.heads;
  least = f.format.least;
  shut = f.format.shut;
}

-- SEQUENCE of these fields (X.680 25, X.690 8.9)
abbrev pub SEQUENCE_WITH : {R X : Type 0} → (X → R) → Fields R X → Format R
SEQUENCE_WITH make f = tagged SEQUENCE (fields make f)

-- something or nothing
abbrev pub when : Bool → Option (Unit {0})
when true = Some tt
when false = None

-- whether it stands there, before another tag
abbrev pub PRESENT : ℕ → Format (Unit {0}) → Format Bool
PRESENT t f = fields is_some (when ∶ OPTIONAL t f)

-- what is written of a value, and what stands inside it
abbrev pub part : {V : Type 0} → Format V → V → Part
part f v = record { written = f.written v; inside = f.inside v }

-- ---- what makes a format one

-- a text begins as it may, and is empty only where nothing is asked for
abbrev pub Starts : Option (List ℕ) → ℕ → List ℕ → Type 0
Starts heads least [] = least ≡ 0
Starts heads least (n ∷ text) = may_begin heads n ≡ true

-- Reading and encoding say the same; texts begin as they may; reading uses octets up; what is
-- written of a value that fits encodes it and consists of octets, if it has fewer than 2^32.
pub record IsLawful {V : Type 0} (f : Format V) : Type 0 where
  pub reads : ReadsBefore (Follows f.shut) f.read f.encodes
  pub starts : (v : V) (text : List ℕ) → f.encodes v text → Starts f.heads f.least text
  pub shorter : (octets : List ℕ) (v : V) (rest : List ℕ) → f.read octets ≡ Some (v, rest) → f.least + length rest ≤ length octets
  pub octets : (v : V) → f.fits v → length (f.written v) < 2 ^ 32 → AreOctets (f.written v)
  pub made : (v : V) → f.fits v → length (f.written v) < 2 ^ 32 → f.encodes v (f.written v)
