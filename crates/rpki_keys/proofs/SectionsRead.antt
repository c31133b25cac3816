-- The sections of a file, and that they are the only ones.
use Rattle.std.proofs.Common.{◌≡◌, ◌≢◌, ◌⊎◌, inl, inr, ℕ, Bool, List, [], ◌∷◌, ◌++◌, map, append_assoc, append-nil}
use Rattle.std.proofs.Common.{refl, sym, ap, subst, ◌∙◌, arith}
use Rattle.std.proofs.ByRecursion.{All-push}
use Rattle.std.proofs.lemmas.List.{map-append}
use Rattle.std.specs.Char.{to_ascii_lowercase}
use Rattle.std.specs.List.{AllByRecursion}
use Rattle.std.specs.Prelude.{Result, Ok, Err, IfErr, IsErrAnd}
use Rattle.std.specs.Str.{str_to_ascii_lowercase}
use Rattle.std.specs.Str.Lines.{lines}
use Rattle.rpki_parts.specs.Keys.{KeyFields}
use Rattle.rpki_keys.specs.Locators.{HasUris, HasKey, IsComment, IsTalUri, IsText, uri_text}
use Rattle.rpki_keys.specs.LocatorFaults.{IsTalFault, RejectsTal}
use Rattle.rpki_keys.specs.Sections.{BeginWithNo, FollowComments, FollowUris, StopUris}
use Rattle.rpki_keys.specs.declared.tal.tal_error.TalError.{TalError}
use Rattle.rpki_keys.specs.declared.tal.tal_uri.TalUri.{TalUri}
use Rattle.rpki_keys.specs.declared.tal.tal_error.TalError.TheVariants.{NoText, BadUri, NoUri, NoKey, BadKey, Memory}

-- ---- a URI is neither a comment nor empty

begins_so : (c : ℕ) (cs written after line : List ℕ) → str_to_ascii_lowercase written ≡ c ∷ cs →
    line ≡ written ++ after → to_ascii_lowercase 35 ≢ c → (line ≢ []) × ¬ IsComment line
begins_so c cs [] after line low is other = absurd cc
begins_so c cs (x ∷ written) after line low is other = (
  λ e. absurd cc,
  λ comment.
      let first : x ≡ 35 = cc in
      let letter : to_ascii_lowercase x ≡ c = cc in
      other (ap to_ascii_lowercase (sym first) ∙ letter),
)

uri_begins : (line : List ℕ) → IsTalUri line → (line ≢ []) × ¬ IsComment line
uri_begins line (inl uri) = begins_so _ _ uri.is.written _ line uri.is.written_is uri.is.is (λ e. omega arith)
uri_begins line (inr uri) = begins_so _ _ uri.is.written _ line uri.is.written_is uri.is.is (λ e. omega arith)

pub empty_is_no_uri : ¬ IsTalUri []
empty_is_no_uri uri = (uri_begins [] uri).0 refl

-- ---- the sections that a file has are its only ones

-- lines of a kind end where none of the kind follows
same_parts : (IsKind : List ℕ → Type 0) (a b x y : List (List ℕ)) → AllByRecursion IsKind a →
    AllByRecursion IsKind b → BeginWithNo IsKind x → BeginWithNo IsKind y → a ++ x ≡ b ++ y → (a ≡ b) × (x ≡ y)
same_parts IsKind [] [] x y all others ends stops same = (refl, same)
same_parts IsKind [] (l ∷ b) x y all others ends stops same = absurd (subst (BeginWithNo IsKind) same ends others.0)
same_parts IsKind (l ∷ a) [] x y all others ends stops same = absurd (subst (BeginWithNo IsKind) (sym same) stops all.0)
same_parts IsKind (l ∷ a) (m ∷ b) x y all others ends stops same =
    let rest : a ++ x ≡ b ++ y = cc in
    let parts = same_parts IsKind a b x y all.1 others.1 ends stops rest in
    let first : l ≡ m = cc in
    let front : a ≡ b = parts.0 in
    (cc, parts.1)

-- the URIs end where they end, and the comments before them
record Ends (uris rest : List (List ℕ)) : Type 0 where
  no_uri : BeginWithNo IsTalUri rest
  no_comment : BeginWithNo IsComment (uris ++ rest)

ends : (uris rest : List (List ℕ)) → AllByRecursion IsTalUri uris → BeginWithNo IsTalUri rest →
    (uris ≡ [] → BeginWithNo IsComment rest) → Ends uris rest
ends [] rest all no_uri no_comment = record { no_uri = no_uri; no_comment = no_comment refl }
ends (uri ∷ uris) rest all no_uri no_comment = record { no_uri = no_uri; no_comment = (uri_begins uri all.0).1 }

-- at an empty line
at_empty : {file : List ℕ} (uris digits : List (List ℕ)) → HasUris file uris ([] ∷ digits) → Ends uris ([] ∷ digits)
at_empty uris digits h = ends uris ([] ∷ digits) h.uris_are empty_is_no_uri (λ _ comment. absurd cc)

one_section : {file : List ℕ} (u v x y : List (List ℕ)) → HasUris file u x → HasUris file v y → Ends u x → Ends v y → (u ≡ v) × (x ≡ y)
one_section u v x y h o here there =
    let behind = same_parts IsComment h.comments o.comments (u ++ x) (v ++ y) h.comments_are o.comments_are
    here.no_comment there.no_comment (sym h.lines_are ∙ o.lines_are) in
    same_parts IsTalUri u v x y h.uris_are o.uris_are here.no_uri there.no_uri behind.1

-- the sections of a locator are its only ones
pub same_sections : {file : List ℕ} (u v d e : List (List ℕ)) → HasUris file u ([] ∷ d) → HasUris file v ([] ∷ e) → (u ≡ v) × (d ≡ e)
same_sections u v d e h o =
    let same = one_section u v ([] ∷ d) ([] ∷ e) h o (at_empty u d h) (at_empty v e o) in
    let digits : d ≡ e = let all : [] ∷ d ≡ [] ∷ e = same.1 in cc in
    (same.0, digits)

-- ---- a file with a fault is no locator

pub rejects : (strict : Bool) (e : TalError) (file : List ℕ) → IsTalFault strict e file → RejectsTal strict e file
rejects strict NoText file h = λ t is. h.1 (is.is_text h.0)
rejects strict BadUri file h = λ t is.
    let bad = h.1 in
    let same = one_section bad.uris t.uris (bad.line ∷ bad.more) ([] ∷ is.digits) bad.sections is.sections
    (ends bad.uris (bad.line ∷ bad.more) bad.sections.uris_are bad.no_uri bad.no_comment) (at_empty t.uris is.digits is.sections) in
    let lines : bad.line ∷ bad.more ≡ [] ∷ is.digits = same.1 in
    bad.some cc
rejects strict NoUri file h = λ t is.
    let same = one_section [] t.uris ([] ∷ h.1.more) ([] ∷ is.digits) h.1.sections is.sections
    (at_empty [] h.1.more h.1.sections) (at_empty t.uris is.digits is.sections) in
    is.some (sym same.0)
rejects strict NoKey file h = λ t is.
    let same = one_section h.1.uris t.uris [] ([] ∷ is.digits) h.1.sections is.sections
    (ends h.1.uris [] h.1.sections.uris_are tt (λ _. tt)) (at_empty t.uris is.digits is.sections) in
    let lines : [] ≡ [] ∷ is.digits = same.1 in
    absurd cc
rejects strict BadKey file h = λ t is.
    let same = same_sections h.1.uris t.uris h.1.digits is.digits h.1.sections is.sections in
    h.1.no_key t.key (subst (HasKey t.key) (sym same.1) is.key_is)
rejects strict Memory file h = tt

-- ---- lines that were read

-- with one line more
pub comment_follows : (all behind more : List (List ℕ)) (line : List ℕ) → FollowComments all behind →
    behind ≡ line ∷ more → IsComment line → FollowComments all more
comment_follows all behind more line h is comment = record {
  comments = h.comments ++ line ∷ [];
  comments_are = All-push IsComment h.comments line h.comments_are comment;
  lines_are = rw append_assoc (h.lines_are ∙ ap (λ l. h.comments ++ l) is);
}

pub uri_follows : (all uris others rest more : List (List ℕ)) (line : List ℕ) → FollowUris all uris rest →
    rest ≡ line ∷ more → others ≡ uris ++ line ∷ [] → IsTalUri line → FollowUris all others more
uri_follows all uris others rest more line h is new uri = rw new (record {
  uris_are = All-push IsTalUri uris line h.uris_are uri;
  lines_are = rw append_assoc (h.lines_are ∙ ap (λ l. uris ++ l) is);
})

-- behind comments, these URIs and this rest
pub sections_of : (file : List ℕ) (behind uris rest : List (List ℕ)) → FollowComments (lines file) behind →
    FollowUris behind uris rest → HasUris file uris rest
sections_of file behind uris rest h u = record {
  comments = h.comments;
  comments_are = h.comments_are;
  uris_are = u.uris_are;
  lines_are = h.lines_are ∙ ap (λ l. h.comments ++ l) u.lines_are;
}

first_is : (uris : List (List ℕ)) (line : List ℕ) (more behind : List (List ℕ)) → BeginWithNo IsComment behind →
    behind ≡ uris ++ line ∷ more → uris ≡ [] → ¬ IsComment line
first_is [] line more behind ends is none = subst (BeginWithNo IsComment) is ends
first_is (uri ∷ uris) line more behind ends is none = absurd cc

-- why the URI section isn't read is a fault of the file
pub fault_of : (strict : Bool) (e : TalError) (file : List ℕ) (behind : List (List ℕ)) → IsText strict file →
    FollowComments (lines file) behind → BeginWithNo IsComment behind → StopUris e behind → IsTalFault strict e file
fault_of strict NoText file behind text h ends stop = absurd stop
fault_of strict BadUri file behind text h ends stop = (
  text,
  record {
    uris = stop.uris;
    line = stop.line;
    more = stop.more;
    sections = sections_of file behind stop.uris (stop.line ∷ stop.more) h stop.follow;
    some = stop.some;
    no_uri = stop.no_uri;
    no_comment = first_is stop.uris stop.line stop.more behind ends stop.follow.lines_are;
  },
)
fault_of strict NoUri file behind text h ends stop = (
  text,
  record {
    more = stop.0;
    sections = sections_of file behind [] ([] ∷ stop.0) h (record { uris_are = tt; lines_are = stop.1 });
  },
)
fault_of strict NoKey file behind text h ends stop = (
  text,
  record {
    uris = behind;
    sections = sections_of file behind behind [] h (record { uris_are = stop; lines_are = sym (append-nil behind) });
  },
)
fault_of strict BadKey file behind text h ends stop = absurd stop
fault_of strict Memory file behind text h ends stop = tt

pub some_texts : (uris : List TalUri) → uris ≢ [] → map uri_text uris ≢ []
some_texts [] some = absurd (some refl)
some_texts (uri ∷ uris) some = λ e. absurd cc

-- why the key isn't read is a fault of the file
pub fault_of_key : (strict : Bool) (e : TalError) (file : List ℕ) (behind : List (List ℕ)) (uris : List TalUri)
    (digits : List (List ℕ)) → IsText strict file → FollowComments (lines file) behind
    → FollowUris behind (map uri_text uris) ([] ∷ digits) → uris ≢ [] →
    (e ≡ Memory) ⊎ ((e ≡ BadKey) × ((k : KeyFields) → ¬ HasKey k digits)) → IsTalFault strict e file
fault_of_key strict e file behind uris digits text h u some (inl memory) = rw memory tt
fault_of_key strict e file behind uris digits text h u some (inr key) = rw key.0 (
  text,
  record {
    uris = map uri_text uris;
    some = some_texts uris some;
    digits = digits;
    sections = sections_of file behind (map uri_text uris) ([] ∷ digits) h u;
    no_key = key.1;
  },
)

-- no fault is named where memory ran out
pub out_of_memory : {T : Type 0} (strict : Bool) (file : List ℕ) (r : Result T TalError) →
    IsErrAnd r (λ e. e ≡ Memory) → IfErr r (λ e. RejectsTal strict e file) × IfErr r (λ e. IsTalFault strict e file)
out_of_memory strict file (Ok x) is = absurd is
out_of_memory strict file (Err e) is = rw is (tt, tt)

-- one URI more
pub one_more_uri : (old new : List TalUri) (uri : TalUri) (line : List ℕ) → new ≡ old ++ uri ∷ [] →
    uri_text uri ≡ line → map uri_text new ≡ map uri_text old ++ line ∷ []
one_more_uri old new uri line pushed is = ap (map uri_text) pushed ∙ map-append uri_text old (uri ∷ []) ∙
    ap (λ (l : List ℕ). map uri_text old ++ l ∷ []) is

-- an error of memory alone is one of the two
pub memory_alone : {T : Type 0} (P : Type 0) (r : Result T TalError) → IsErrAnd r (λ e. e ≡ Memory) →
    IfErr r (λ e. (e ≡ Memory) ⊎ ((e ≡ BadUri) × P))
memory_alone P (Ok x) is = absurd is
memory_alone P (Err e) is = inl is
