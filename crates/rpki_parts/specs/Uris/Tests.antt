-- URIs taken apart and compared, by functions.
use Rattle.std.specs.Prelude.{ℕ, List, [], ◌∷◌, ◌==◌, Bool, true, false, not, ◌&&◌, cond, codes, take, drop, bytes_eq}
use Rattle.std.specs.List.{list_all, slice_split}
use Rattle.std.specs.Ordering.{on, eq_of_both}
use Rattle.std.specs.Char.{is_ascii_graphic}
use Rattle.std.specs.Str.{str_eq_ignore_ascii_case, str_to_ascii_lowercase}
use Rattle.rpki_parts.specs.Uris.{slash}

-- whether the octet is a slash
abbrev pub is_slash : ℕ → Bool
is_slash octet = octet == slash

-- whether the text is empty
abbrev pub is_empty : List ℕ → Bool
is_empty [] = true
is_empty (x ∷ xs) = false

-- what stands before the first slash, all where there is none
abbrev pub before_slash : List ℕ → List ℕ
before_slash [] = []
before_slash (x ∷ xs) = cond (is_slash x) [] (x ∷ before_slash xs)

-- the rest, from the first slash on
abbrev pub from_slash : List ℕ → List ℕ
from_slash [] = []
from_slash (x ∷ xs) = cond (is_slash x) (x ∷ xs) (from_slash xs)

-- the authority: both schemes are written by eight octets
abbrev pub authority_of : List ℕ → List ℕ
authority_of uri = before_slash (drop 8 uri)

-- what follows the authority
abbrev pub rest_of : List ℕ → List ℕ
rest_of uri = from_slash (drop 8 uri)

-- whether the URI begins with the scheme in any case and has an authority
abbrev pub has_scheme : List ℕ → List ℕ → Bool
has_scheme scheme uri = str_eq_ignore_ascii_case (take 8 uri) scheme && not (is_empty (authority_of uri))

-- whether the octets are a URI of the scheme, all of them printable
abbrev pub is_uri : List ℕ → List ℕ → Bool
is_uri scheme uri = has_scheme scheme uri && list_all is_ascii_graphic uri

-- whether the octets are an https URI
abbrev pub is_https : List ℕ → Bool
is_https uri = is_uri (codes "https://") uri

-- whether the segment is neither . nor ..
abbrev pub is_segment : List ℕ → Bool
is_segment text = not (bytes_eq text (codes ".")) && not (bytes_eq text (codes ".."))

-- the module of an rsync URI
abbrev pub module_of : List ℕ → List ℕ
module_of uri = before_slash (drop 1 (rest_of uri))

-- what follows the module and its slash
abbrev pub path_of : List ℕ → List ℕ
path_of uri = drop 1 (from_slash (drop 1 (rest_of uri)))

-- whether a module stands there, and no segment of the path is . or ..
abbrev pub has_module_and_path : List ℕ → Bool
has_module_and_path uri = not (is_empty (module_of uri)) && list_all is_segment (slice_split is_slash (path_of uri))

-- whether the octets are an rsync URI
abbrev pub is_rsync : List ℕ → Bool
is_rsync uri = is_uri (codes "rsync://") uri && has_module_and_path uri

-- ---- compared

-- whether both have one authority, without ASCII case
abbrev pub same_authority : List ℕ → List ℕ → Bool
same_authority = on (λ uri. str_to_ascii_lowercase (authority_of uri)) bytes_eq

-- whether both have the same octets after the authority
abbrev pub same_rest : List ℕ → List ℕ → Bool
same_rest = on rest_of bytes_eq

-- whether both have one authority, without ASCII case, and the same octets after it
abbrev pub are_equal : List ℕ → List ℕ → Bool
are_equal = eq_of_both same_authority same_rest

-- without one slash at the end
abbrev pub trimmed : List ℕ → List ℕ
trimmed [] = []
trimmed (x ∷ []) = cond (is_slash x) [] (x ∷ [])
trimmed (x ∷ y ∷ more) = x ∷ trimmed (y ∷ more)

-- up to the last slash, with it
abbrev pub through_slash : List ℕ → List ℕ
through_slash [] = []
through_slash (x ∷ xs) = cond (is_empty (through_slash xs)) (cond (is_slash x) (x ∷ []) []) (x ∷ through_slash xs)
