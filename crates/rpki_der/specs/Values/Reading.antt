-- Reading functions of values: of octets they give a value and the octets after it, or nothing.
use Rattle.std.specs.Prelude.{Option, Some, None, ℕ, List, nat_lt, if◌then◌else◌, [], ◌∷◌, ◌+◌, ◌*◌, nat_eq, length}
use Rattle.std.specs.Prelude.{take, drop, ◌%◌, ◌&&◌, not}

infixl 10 ◌>>=◌
abbrev pub ◌>>=◌ : {A B : Type 0} → Option A → (A → Option B) → Option B
(Some x) >>= f = f x
None >>= f = None

-- the length and the rest, if the length is long enough for its form
abbrev pub at_least : ℕ → ℕ → List ℕ → Option (ℕ × List ℕ)
at_least least n rest = if nat_lt n least then None else Some (n, rest)

-- a length in one octet behind 81, at least 80
abbrev pub long1 : List ℕ → Option (ℕ × List ℕ)
long1 (a ∷ rest) = at_least 0x80 a rest
long1 [] = None

-- a length in two octets behind 82, at least 100
abbrev pub long2 : List ℕ → Option (ℕ × List ℕ)
long2 (a ∷ b ∷ rest) = at_least 0x100 (a * 0x100 + b) rest
long2 (a ∷ []) = None
long2 [] = None

-- a length in three octets behind 83, at least 10000
abbrev pub long3 : List ℕ → Option (ℕ × List ℕ)
long3 (a ∷ b ∷ c ∷ rest) = at_least 0x10000 (a * 0x10000 + b * 0x100 + c) rest
long3 (a ∷ b ∷ []) = None
long3 (a ∷ []) = None
long3 [] = None

-- a length in four octets behind 84, at least 1000000
abbrev pub long4 : List ℕ → Option (ℕ × List ℕ)
long4 (a ∷ b ∷ c ∷ d ∷ rest) = at_least 0x1000000 (a * 0x1000000 + b * 0x10000 + c * 0x100 + d) rest
long4 (a ∷ b ∷ c ∷ []) = None
long4 (a ∷ b ∷ []) = None
long4 (a ∷ []) = None
long4 [] = None

-- the length that stands at the front
abbrev pub length_at : List ℕ → Option (ℕ × List ℕ)
length_at [] = None
length_at (n ∷ rest) =
    if nat_lt n 0x80 then Some (n, rest)
    else if nat_eq n 0x81 then long1 rest
    else if nat_eq n 0x82 then long2 rest
    else if nat_eq n 0x83 then long3 rest
    else if nat_eq n 0x84 then long4 rest
    else None

-- as many octets as the length says
abbrev pub content_at : ℕ × List ℕ → Option (List ℕ × List ℕ)
content_at x = if nat_lt (length x.1) x.0 then None else Some (take x.0 x.1, drop x.0 x.1)

-- the content of the value of this tag that stands at the front
unfoldable pub value_at : ℕ → List ℕ → Option (List ℕ × List ℕ)
value_at t [] = None
value_at t (found ∷ rest) =
    if nat_eq found t && not (nat_eq (t % 32) 31) then length_at rest >>= content_at else None
