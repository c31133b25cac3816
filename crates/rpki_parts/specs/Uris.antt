-- Rsync and https URIs as octets (RFC 3986 3, RFC 5781 2, RFC 9110 4.2.2). Own is that an authority
-- isn't empty and ends at a slash alone, that any octet from 21 to 7E may stand, that a path with
-- dot segments is refused (RFC 3986 5.2.4 removes them), and how URIs are compared.
use Rattle.std.specs.Prelude.{ℕ, ◌≤◌, List, [], ◌∷◌, ◌++◌, codes, ◌≡◌, ◌≢◌, ◌==◌, ◌⊎◌}
use Rattle.std.specs.List.{AllByRecursion, concat, slice_split}
use Rattle.std.specs.Str.{str_to_ascii_lowercase}
pub mod Tests

-- the octet of /
abbrev pub slash : ℕ
slash = 47

-- each octet is from 21 to 7E
abbrev pub ArePrintable : List ℕ → Type 0
ArePrintable text = AllByRecursion (λ octet. (0x21 ≤ octet) × (octet ≤ 0x7E)) text

-- no octet is a slash
abbrev pub HasNoSlash : List ℕ → Type 0
HasNoSlash text = AllByRecursion (λ octet. octet ≢ slash) text

-- what stands between two slashes of a URI, or after the last one, and isn't empty
abbrev pub IsUriPart : List ℕ → Type 0
IsUriPart text = (text ≢ []) × HasNoSlash text

-- the text is empty or begins with a slash
abbrev pub IsEmptyOrBeginsWithSlash : List ℕ → Type 0
IsEmptyOrBeginsWithSlash text = (text ≡ []) ⊎ ((rest : List ℕ) × (text ≡ slash ∷ rest))

-- the text is empty or ends with a slash
abbrev pub IsEmptyOrEndsWithSlash : List ℕ → Type 0
IsEmptyOrEndsWithSlash text = (text ≡ []) ⊎ ((front : List ℕ) × (text ≡ front ++ slash ∷ []))

-- Uri is a scheme in any case (RFC 3986 3.1), an authority, which ends before the first slash after
-- it (3.2), and the rest.
pub record IsUri (scheme authority rest uri : List ℕ) : Type 0 where
  pub written : List ℕ
  pub written_is : str_to_ascii_lowercase written ≡ scheme
  pub is : uri ≡ concat (written ∷ authority ∷ rest ∷ [])
  pub authority_is : IsUriPart authority
  pub rest_is : IsEmptyOrBeginsWithSlash rest

-- uri is an https URI (RFC 9110 4.2.2)
pub record IsHttps (uri : List ℕ) : Type 0 where
  pub authority : List ℕ
  pub rest : List ℕ
  pub is : IsUri (codes "https://") authority rest uri
  pub printable : ArePrintable uri

-- none of the segments between the slashes of a path is . or .. (own)
abbrev pub HasNoDots : List ℕ → Type 0
HasNoDots path = AllByRecursion (λ segment. (segment ≢ codes ".") × (segment ≢ codes "..")) (slice_split (λ octet. octet == slash) path)

-- after the authority a slash and the module, and then nothing, or a slash and a path
pub record IsRsync (uri : List ℕ) : Type 0 where
  pub authority : List ℕ
  pub top : List ℕ
  pub tail : List ℕ
  pub is : IsUri (codes "rsync://") authority (concat (codes "/" ∷ top ∷ tail ∷ [])) uri
  pub top_is : IsUriPart top
  pub tail_is : (tail ≡ []) ⊎ ((path : List ℕ) × (tail ≡ slash ∷ path) × HasNoDots path)
  pub printable : ArePrintable uri

-- ---- how they are compared

-- The authorities are equal without ASCII case (RFC 3986 6.2.2.1), and the rest by octets.
pub record AreEqual (scheme uri other : List ℕ) : Type 0 where
  pub authority : List ℕ
  pub other_authority : List ℕ
  pub rest : List ℕ
  pub is : IsUri scheme authority rest uri
  pub other_is : IsUri scheme other_authority rest other
  pub authorities : str_to_ascii_lowercase authority ≡ str_to_ascii_lowercase other_authority

-- trimmed is text without one slash at its end, where it has one
abbrev pub IsTrimmed : List ℕ → List ℕ → Type 0
IsTrimmed text trimmed = (text ≡ trimmed ++ slash ∷ []) ⊎ ((text ≡ trimmed) × ((front : List ℕ) → text ≢ front ++ slash ∷ []))

-- equal after each lost one slash at its end
pub record AreIdentical (uri other : List ℕ) : Type 0 where
  pub trimmed : List ℕ
  pub other_trimmed : List ℕ
  pub is : IsTrimmed uri trimmed
  pub other_is : IsTrimmed other other_trimmed
  pub equal : AreEqual (codes "rsync://") trimmed other_trimmed

-- uri has a path, empty or not, and front is all that stands before it
pub record HasPath (front path uri : List ℕ) : Type 0 where
  pub authority : List ℕ
  pub top : List ℕ
  pub is : IsUri (codes "rsync://") authority (concat (codes "/" ∷ top ∷ codes "/" ∷ path ∷ [])) uri
  pub top_is : IsUriPart top
  pub front_is : front ≡ concat (is.written ∷ authority ∷ codes "/" ∷ top ∷ codes "/" ∷ [])

-- the path is empty, or there is none
pub record HasNoPath (uri : List ℕ) : Type 0 where
  pub authority : List ℕ
  pub top : List ℕ
  pub tail : List ℕ
  pub is : IsUri (codes "rsync://") authority (concat (codes "/" ∷ top ∷ tail ∷ [])) uri
  pub top_is : IsUriPart top
  pub tail_is : (tail ≡ []) ⊎ (tail ≡ slash ∷ [])

-- The path isn't empty. It loses one slash at its end, and what remains is kept through its last
-- slash, if it has one.
pub record IsParent (uri parent : List ℕ) : Type 0 where
  pub front : List ℕ
  pub path : List ℕ
  pub trimmed : List ℕ
  pub kept : List ℕ
  pub name : List ℕ
  pub is : HasPath front path uri
  pub path_is : path ≢ []
  pub trimmed_is : IsTrimmed path trimmed
  pub split : trimmed ≡ kept ++ name
  pub kept_is : IsEmptyOrEndsWithSlash kept
  pub name_is : HasNoSlash name
  pub parent_is : parent ≡ front ++ kept

-- it has a parent, which is identical to other
pub record HasParent (uri other : List ℕ) : Type 0 where
  pub parent : List ℕ
  pub is : IsParent uri parent
  pub identical : AreIdentical parent other
