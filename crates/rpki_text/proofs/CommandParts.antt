-- The parts of a command line, by the sort of their first word.
use Rattle.std.specs.Prelude.{codes, Option, Some, None}
use Rattle.std.specs.List.{before_first}
use Rattle.std.specs.Str.{bytes_eq}
use Rattle.std.proofs.Common.{◌≡◌, ◌⊎◌, ◌&&◌, ◌==◌, ◌<◌, ℕ, Bool, true, false, cond, inl, inr, List, [], ◌∷◌, ◌++◌, length}
use Rattle.std.proofs.Common.{refl, sym, ap, ◌∙◌, subst, arith}
use Rattle.std.proofs.lemmas.Bool.{and_parts, eqb-true, false≢true}
use Rattle.std.proofs.lemmas.Slice.Eq.{bytes_eq-Decides}
use Rattle.rpki_text.specs.declared.command_line.arguments.Format.{Format}
use Rattle.rpki_text.specs.declared.command_line.arguments.Format.TheVariants.{Text, Json, JsonLines}
use Rattle.rpki_text.specs.declared.command_line.arguments.Setting.{Setting}
use Rattle.rpki_text.specs.declared.command_line.arguments.Setting.TheVariants.{Crl, Tal, In, Depth, StepCount, At}
use Rattle.rpki_text.specs.declared.command_line.arguments.Setting.TheVariants.{MaxSize, Output, ShortOutput, Only}
use Rattle.rpki_text.specs.CommandLines.{IsFormatName, LinePart, file, list, locator, folder, depth, steps, at_moment}
use Rattle.rpki_text.specs.CommandLines.{max_size, output, lenient, json, quiet, all, no_names, trust_first, no_crl}
use Rattle.rpki_text.specs.CommandLines.{strict_exit, only_rejected, help, setting_name, IsPart, IsSwitch}
use Rattle.rpki_text.specs.WordParts.{BeginsNoPart, IsOption, GivesValue, Joins}
use Rattle.rpki_text.proofs.JoinedNames.{is_equals}
use Rattle.rpki_text.proofs.PartsOfWords.{Sort, single, before, joining, Grammar, Shape, IsClear, alone_is, given_is}
use Rattle.rpki_text.specs.CommandLines.Steps.{IsSetPart, IsOptionName}
use Rattle.rpki_text.proofs.OneMoment.{one_moment}

-- ---- the first word

-- what a first word is
abbrev pub LineSort : Type 0
LineSort = Sort LinePart Setting

-- what stands in a word behind a text
stripped : List ℕ → List ℕ → Option (List ℕ)
stripped [] word = Some word
stripped (c ∷ cs) [] = None
stripped (c ∷ cs) (w ∷ ws) = cond (w == c) (stripped cs ws) None

-- an option and its value, where there is one, or else another sort
joining_or : Setting → Option (List ℕ) → LineSort → LineSort
joining_or setting None sort = sort
joining_or setting (Some value) sort = joining setting value

-- the words that are an option by themselves, each with its sort
abbrev alone_sorts : List (List ℕ × LineSort)
alone_sorts =
    (codes "--crl", before Crl) ∷ (codes "--tal", before Tal) ∷ (codes "--in", before In)
    ∷ (codes "--depth", before Depth) ∷ (codes "--steps", before StepCount) ∷ (codes "--at", before At)
    ∷ (codes "--max-size", before MaxSize) ∷ (codes "--output", before Output) ∷ (codes "-o", before ShortOutput)
    ∷ (codes "--only", before Only) ∷ (codes "--lenient", single lenient) ∷ (codes "--json", single json)
    ∷ (codes "-j", single json) ∷ (codes "--quiet", single quiet) ∷ (codes "-q", single quiet) ∷ (codes "--all", single all)
    ∷ (codes "--no-names", single no_names) ∷ (codes "--trust-first", single trust_first) ∷ (codes "--no-crl", single no_crl)
    ∷ (codes "--strict-exit", single strict_exit) ∷ (codes "--help", single help) ∷ (codes "-h", single help) ∷ []

abbrev alone_or : List (List ℕ × LineSort) → List ℕ → LineSort → LineSort
alone_or [] word sort = sort
alone_or (entry ∷ more) word sort = cond (bytes_eq word entry.0) entry.1 (alone_or more word sort)

-- the options that take a value
abbrev settings : List Setting
settings = Crl ∷ Tal ∷ In ∷ Depth ∷ StepCount ∷ At ∷ MaxSize ∷ Output ∷ ShortOutput ∷ Only ∷ []

abbrev joined_or : List Setting → List ℕ → LineSort → LineSort
joined_or [] word sort = sort
joined_or (s ∷ more) word sort = joining_or s (stripped (setting_name s ++ codes "=") word) (joined_or more word sort)

-- the sort of a word
pub sort_of : List ℕ → LineSort
sort_of word = alone_or alone_sorts word (joined_or settings word (single (file word)))

-- an option that takes a value: by its name, joined to the value, and what stands before its first `=`
named : (setting : Setting) → sort_of (setting_name setting) ≡ before setting
unfolding sort_of
named Crl = refl
named Tal = refl
named In = refl
named Depth = refl
named StepCount = refl
named At = refl
named MaxSize = refl
named Output = refl
named ShortOutput = refl
named Only = refl

joined_front : (setting : Setting) (value : List ℕ) →
    (sort_of (setting_name setting ++ codes "=" ++ value) ≡ joining setting value)
    × (before_first is_equals (setting_name setting ++ codes "=" ++ value) ≡ setting_name setting)
unfolding sort_of stripped joining_or
joined_front Crl value = (refl, refl)
joined_front Tal value = (refl, refl)
joined_front In value = (refl, refl)
joined_front Depth value = (refl, refl)
joined_front StepCount value = (refl, refl)
joined_front At value = (refl, refl)
joined_front MaxSize value = (refl, refl)
joined_front Output value = (refl, refl)
joined_front ShortOutput value = (refl, refl)
joined_front Only value = (refl, refl)

joined : (setting : Setting) (value : List ℕ) → sort_of (setting_name setting ++ codes "=" ++ value) ≡ joining setting value
joined setting value = (joined_front setting value).0

pub front_is : (setting : Setting) (value : List ℕ) →
    before_first is_equals (setting_name setting ++ codes "=" ++ value) ≡ setting_name setting
front_is setting value = (joined_front setting value).1

-- a file isn't this option
unlike : (word option : List ℕ) → (IsOption word → ⊥) → IsOption option → bytes_eq word option ≡ false
unlike word option not_option is_option =
    let decides = bytes_eq-Decides word option in
    let split : (b : Bool) → (b ≡ true → word ≡ option) → b ≡ false =
    λ b. elim b as (λ b. (b ≡ true → word ≡ option) → b ≡ false) [
      | true ↦ λ same. absurd (not_option (subst IsOption (sym (same refl)) is_option))
      | false ↦ λ same. refl
    ] in
    split (bytes_eq word option) decides.0

none_if : (b : Bool) (o : Option (List ℕ)) → (b ≡ true → ⊥) → cond b o None ≡ None
none_if true o never = absurd (never refl)
none_if false o never = refl

either_none : (b : Bool) (o : Option (List ℕ)) → o ≡ None → cond b o None ≡ None
either_none true o is = is
either_none false o is = refl

-- and doesn't begin with a hyphen and another character
not_stripped : (c : ℕ) (cs word : List ℕ) → (IsOption word → ⊥) → stripped (45 ∷ c ∷ cs) word ≡ None
unfolding stripped
not_stripped c cs [] not_option = refl
not_stripped c cs (w ∷ []) not_option = either_none (w == 45) _ refl
not_stripped c cs (w ∷ v ∷ ws) not_option =
    none_if (w == 45) _ (λ same. let long : 1 < length (w ∷ v ∷ ws) = omega arith in not_option (eqb-true w 45 same, long))

-- nor with an option and `=`
not_joined : (setting : Setting) (word : List ℕ) → (IsOption word → ⊥) → stripped (setting_name setting ++ codes "=") word ≡ None
not_joined Crl word not_option = not_stripped 45 (codes "crl=") word not_option
not_joined Tal word not_option = not_stripped 45 (codes "tal=") word not_option
not_joined In word not_option = not_stripped 45 (codes "in=") word not_option
not_joined Depth word not_option = not_stripped 45 (codes "depth=") word not_option
not_joined StepCount word not_option = not_stripped 45 (codes "steps=") word not_option
not_joined At word not_option = not_stripped 45 (codes "at=") word not_option
not_joined MaxSize word not_option = not_stripped 45 (codes "max-size=") word not_option
not_joined Output word not_option = not_stripped 45 (codes "output=") word not_option
not_joined ShortOutput word not_option = not_stripped 111 (codes "=") word not_option
not_joined Only word not_option = not_stripped 45 (codes "only=") word not_option

-- a hyphen and something behind it
hyphened : List ℕ → Bool
hyphened (c ∷ d ∷ more) = c == 45
hyphened _ = false

hyphened_is : (word : List ℕ) → hyphened word ≡ true → IsOption word
unfolding hyphened
hyphened_is [] is = absurd (false≢true is)
hyphened_is (c ∷ []) is = absurd (false≢true is)
hyphened_is (c ∷ d ∷ more) is = let long : 1 < length (c ∷ d ∷ more) = omega arith in (eqb-true c 45 is, long)

abbrev all_hyphened : List (List ℕ × LineSort) → Bool
all_hyphened [] = true
all_hyphened (entry ∷ more) = hyphened entry.0 && all_hyphened more

module _ (word : List ℕ) (not_option : IsOption word → ⊥) (sort : LineSort) where
  none_alone : (entries : List (List ℕ × LineSort)) → all_hyphened entries ≡ true → alone_or entries word sort ≡ sort
  none_alone [] are = refl
  none_alone (entry ∷ more) are =
      let parts = and_parts (hyphened entry.0) (all_hyphened more) are in
      rw (unlike word entry.0 not_option (hyphened_is entry.0 parts.0)) (none_alone more parts.1)

  none_joined : (some : List Setting) → joined_or some word sort ≡ sort
  unfolding joining_or
  none_joined [] = refl
  none_joined (s ∷ more) = rw (not_joined s word not_option) (none_joined more)

-- a file is a part by itself
file_sort : (word : List ℕ) → (IsOption word → ⊥) → sort_of word ≡ single (file word)
unfolding sort_of hyphened
file_sort word not_option =
    none_alone word not_option (joined_or settings word (single (file word))) alone_sorts refl
    ∙ none_joined word not_option (single (file word)) settings

-- ---- a part

-- the format that a text names
format_of : List ℕ → Option Format
format_of text =
    cond (bytes_eq text (codes "text")) (Some Text)
    (cond (bytes_eq text (codes "json")) (Some Json)
    (cond (bytes_eq text (codes "jsonl")) (Some JsonLines) None))

named_format : (f : Format) (text : List ℕ) → IsFormatName f text → format_of text ≡ Some f
unfolding format_of
named_format Text text h = ap format_of h
named_format Json text h = ap format_of h
named_format JsonLines text h = ap format_of h

-- a text names one format at most
one_format : (f g : Format) (text : List ℕ) → IsFormatName f text → IsFormatName g text → f ≡ g
one_format f g text h k =
    let is : Some f ≡ Some g = sym (named_format f text h) ∙ named_format g text k in
    cc

-- an option with its value is one part
one_set : (setting : Setting) (value : List ℕ) (p q : LinePart) → IsSetPart setting value p → IsSetPart setting value q → p ≡ q
one_set Crl value p q h k = h ∙ sym k
one_set Tal value p q h k = h ∙ sym k
one_set In value p q h k = h ∙ sym k
one_set At value p q h k = h.1 ∙ ap at_moment (one_moment h.0 k.0 value h.3 k.3) ∙ sym k.1
one_set Depth value p q h k = h.1 ∙ ap depth (sym h.2.1 ∙ k.2.1) ∙ sym k.1
one_set StepCount value p q h k = h.1 ∙ ap steps (sym h.2.1 ∙ k.2.1) ∙ sym k.1
one_set MaxSize value p q h k = h.1 ∙ ap max_size (sym h.2.1 ∙ k.2.1) ∙ sym k.1
one_set Output value p q h k = h.1 ∙ ap output (one_format h.0 k.0 value h.2 k.2) ∙ sym k.1
one_set ShortOutput value p q h k = h.1 ∙ ap output (one_format h.0 k.0 value h.2 k.2) ∙ sym k.1
one_set Only value p q h k = h.0 ∙ sym k.0

-- the parts of a command line
abbrev pub line_grammar : Grammar LinePart Setting
line_grammar = record { IsPart = IsPart; name = setting_name; IsSet = IsSetPart; sort_of = sort_of }

-- an option with its value
line_given : (setting : Setting) (value : List ℕ) (part : LinePart) (words : List (List ℕ)) →
    IsSetPart setting value part → GivesValue (setting_name setting) value words → Shape line_grammar part words
line_given = given_is line_grammar named joined

-- an option that names a format, by either of its names
given_format : (f : Format) (text : List ℕ) (words : List (List ℕ)) → IsFormatName f text →
    GivesValue (codes "--output") text words ⊎ GivesValue (codes "-o") text words →
    Shape line_grammar (output f) words
given_format f text words is (inl h) = line_given Output text (output f) words (f, refl, is) h
given_format f text words is (inr h) = line_given ShortOutput text (output f) words (f, refl, is) h

-- an option that takes none
switch_sort : (part : LinePart) (word : List ℕ) → IsSwitch part word → sort_of word ≡ single part
unfolding sort_of
switch_sort lenient word is = ap sort_of is
switch_sort json word (inl is) = ap sort_of is
switch_sort json word (inr is) = ap sort_of is
switch_sort quiet word (inl is) = ap sort_of is
switch_sort quiet word (inr is) = ap sort_of is
switch_sort all word is = ap sort_of is
switch_sort no_names word is = ap sort_of is
switch_sort trust_first word is = ap sort_of is
switch_sort no_crl word is = ap sort_of is
switch_sort strict_exit word is = ap sort_of is
switch_sort help word (inl is) = ap sort_of is
switch_sort help word (inr is) = ap sort_of is
switch_sort _ word is = absurd is

-- the words of a part have its shape
shape : (part : LinePart) (words : List (List ℕ)) → IsPart part words → Shape line_grammar part words
unfolding sort_of
shape (file name) words h = alone_is line_grammar (file name) words name h.0 (file_sort name h.1)
shape (list name) words h = line_given Crl name (list name) words refl h
shape (locator name) words h = line_given Tal name (locator name) words refl h
shape (folder name) words h = line_given In name (folder name) words refl h
shape (at_moment m) words h = line_given At h.0 (at_moment m) words (m, refl, h.2, h.3) h.1
shape (depth n) words h = line_given Depth h.0 (depth n) words (n, refl, h.2) h.1
shape (steps n) words h = line_given StepCount h.0 (steps n) words (n, refl, h.2) h.1
shape (max_size n) words h = line_given MaxSize h.0 (max_size n) words (n, refl, h.2) h.1
shape (output f) words h = given_format f h.0 words h.2 h.1
shape only_rejected words h = line_given Only (codes "rejected") only_rejected words (refl, refl) h
shape part words h = alone_is line_grammar part words h.0 h.1 (switch_sort part h.0 h.2)

-- an option with its value is a part
set_is_part : (setting : Setting) (value : List ℕ) (part : LinePart) (words : List (List ℕ)) →
    IsSetPart setting value part → GivesValue (setting_name setting) value words → IsPart part words
set_is_part Crl value part words set gives = subst (λ (p : LinePart). IsPart p words) (sym set) gives
set_is_part Tal value part words set gives = subst (λ (p : LinePart). IsPart p words) (sym set) gives
set_is_part In value part words set gives = subst (λ (p : LinePart). IsPart p words) (sym set) gives
set_is_part At value part words set gives = subst (λ (p : LinePart). IsPart p words) (sym set.1) (value, gives, set.2, set.3)
set_is_part Depth value part words set gives = subst (λ (p : LinePart). IsPart p words) (sym set.1) (value, gives, set.2)
set_is_part StepCount value part words set gives = subst (λ (p : LinePart). IsPart p words) (sym set.1) (value, gives, set.2)
set_is_part MaxSize value part words set gives = subst (λ (p : LinePart). IsPart p words) (sym set.1) (value, gives, set.2)
set_is_part Output value part words set gives = subst (λ (p : LinePart). IsPart p words) (sym set.1) (value, inl gives, set.2)
set_is_part ShortOutput value part words set gives = subst (λ (p : LinePart). IsPart p words) (sym set.1) (value, inr gives, set.2)
set_is_part Only value part words set gives =
    subst (λ (p : LinePart). IsPart p words) (sym set.0) (subst (λ (v : List ℕ). GivesValue (codes "--only") v words) set.1 gives)

-- which tells all parts apart
pub line_clear : IsClear line_grammar
line_clear = record { named = named; joined = joined; one_set = one_set; is_part = set_is_part; shape = shape }

-- ---- words that begin no part

-- a word that is an option and none of those that there are
module _ (word : List ℕ) (is_option : IsOption word) (unnamed : (setting : Setting) → IsOptionName setting word → ⊥)
    (unjoined : (setting : Setting) (value : List ℕ) → Joins (setting_name setting) value word → ⊥)
    (no_switch : (part : LinePart) → IsSwitch part word → ⊥) where
  not_given : (setting : Setting) (value : List ℕ) (its behind rest : List (List ℕ)) →
      GivesValue (setting_name setting) value its → (word ∷ []) ++ behind ≡ its ++ rest → ⊥
  not_given setting value its behind rest (inl is) e = unnamed setting cc
  not_given setting value its behind rest (inr is) e = unjoined setting value cc

  pub no_option : BeginsNoPart IsPart (word ∷ [])
  no_option (file name) its behind rest is e = let same : word ≡ name = cc in is.1 (subst IsOption same is_option)
  no_option (list name) its behind rest is e = not_given Crl name its behind rest is e
  no_option (locator name) its behind rest is e = not_given Tal name its behind rest is e
  no_option (folder name) its behind rest is e = not_given In name its behind rest is e
  no_option (at_moment m) its behind rest is e = not_given At is.0 its behind rest is.1 e
  no_option (depth n) its behind rest is e = not_given Depth is.0 its behind rest is.1 e
  no_option (steps n) its behind rest is e = not_given StepCount is.0 its behind rest is.1 e
  no_option (max_size n) its behind rest is e = not_given MaxSize is.0 its behind rest is.1 e
  no_option (output f) its behind rest (text, inl is, named) e = not_given Output text its behind rest is e
  no_option (output f) its behind rest (text, inr is, named) e = not_given ShortOutput text its behind rest is e
  no_option only_rejected its behind rest is e = not_given Only (codes "rejected") its behind rest is e
  no_option part its behind rest is e =
      let its_is : its ≡ is.0 ∷ [] = is.1 in
      let same : word ≡ is.0 = cc in
      no_switch part (subst (λ (w : List ℕ). IsSwitch part w) (sym same) is.2)
