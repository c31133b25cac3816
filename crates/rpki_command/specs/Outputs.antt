-- What a run puts out: a text on standard output, what it says on standard error, and files that it
-- makes (own).
use Rattle.std.specs.List.{list_any}
use Rattle.std.specs.Prelude.{◌≡◌, ℕ, List, [], ◌∷◌, ◌++◌, Bool, IsFalse, bytes_eq, codes, if◌then◌else◌, Option, Some, None}

-- a file that is made: its name and its octets, whether one that was there may be overwritten, and
-- the names of the files that were read, none of which may be
pub record MadeFile : Type 0 where
  pub name : List ℕ
  pub octets : List ℕ
  pub overwrites : Bool
  pub read : List (List ℕ)

pub record Output : Type 0 where
  pub text : List ℕ
  pub said : List ℕ
  pub files : List MadeFile

-- a text, and no more
abbrev pub only_text : List ℕ → Output
only_text text = record { text = text; said = []; files = [] }

-- what is said, and no more
abbrev pub only_said : List ℕ → Output
only_said said = record { text = []; said = said; files = [] }

-- octets in the file of this name, and no more
abbrev pub only_file : List ℕ → Bool → List (List ℕ) → List ℕ → Output
only_file name overwrites read octets = record {
  text = [];
  said = [];
  files = record { name = name; octets = octets; overwrites = overwrites; read = read } ∷ [];
}

-- octets on standard output, which `-` names too, or in the file that is named, where these files
-- were read
abbrev pub placed_output : List (List ℕ) → Bool → List (List ℕ) → List ℕ → Output
placed_output [] overwrites read octets = only_text octets
placed_output (name ∷ more) overwrites read octets =
    if bytes_eq name (codes "-") then only_text octets else only_file name overwrites read octets

-- the name is one of these
abbrev pub is_among : List ℕ → List (List ℕ) → Bool
is_among name names = list_any (λ other. bytes_eq other name) names

-- the file that is named, if one is, is none of those that were read by its name
abbrev pub IsApart : List (List ℕ) → List (List ℕ) → Type 0
IsApart [] read = Unit {0}
IsApart (name ∷ more) read = IsFalse (bytes_eq name (codes "-")) → IsFalse (is_among name read)

-- the files that were made, where they are known, are those from before and these
abbrev pub Makes : Option (List MadeFile) → Option (List MadeFile) → List MadeFile → Type 0
Makes None after files = Unit {0}
Makes (Some before) None files = ⊥
Makes (Some before) (Some after) files = after ≡ before ++ files
