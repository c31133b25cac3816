-- The parts of a request, by the sort of their first word.
use Rattle.std.specs.List.{before_first, after_first, position_or_len}
use Rattle.std.specs.Prelude.{codes, Option, Some, None, cond, Result, Ok, Err, OnOk}
use Rattle.std.specs.Str.{bytes_eq}
use Rattle.std.proofs.Common.{◌≡◌, ℕ, Bool, true, false, List, [], ◌∷◌, ◌++◌, refl, sym, ap, ◌∙◌, subst, take, drop}
use Rattle.std.proofs.Common.{inl, inr, lit<}
use Rattle.std.proofs.lemmas.List.{take-append-drop, append-nil}
use Rattle.std.proofs.lemmas.Slice.Eq.{bytes_eq-Decides}
use Rattle.rpki_text.specs.WordParts.{AddsPart, BeginsNoPart, IsOption, GivesValue, Joins}
use Rattle.rpki_text.proofs.JoinedNames.{is_equals}
use Rattle.rpki_text.proofs.PartsOfWords.{Sort, single, before, joining, Grammar, Shape, IsClear, alone_is, given_is}
use Rattle.rpki_requests.specs.declared.words.Setting.{Setting}
use Rattle.rpki_requests.specs.declared.words.Setting.TheVariants.{Issuer, Key, Serial, From, Until, Ipv4, Ipv6}
use Rattle.rpki_requests.specs.declared.words.Setting.TheVariants.{AsNumbers, Repository, Manifest, Notify, Object}
use Rattle.rpki_requests.specs.declared.words.Setting.TheVariants.{IssuerUri, CrlUri, Crl, Previous, Number, Revoke}
use Rattle.rpki_requests.specs.declared.words.Setting.TheVariants.{NextUpdate, At, Out}
use Rattle.rpki_requests.specs.declared.words.Switch.{Switch}
use Rattle.rpki_requests.specs.declared.words.Switch.TheVariants.{Trim, Lenient, Pem, Force}
use Rattle.rpki_requests.specs.RequestWords.{AskedFields, IsRequestPart, RequestPart, file, option, switch}
use Rattle.rpki_requests.specs.RequestWords.{asked_option_name, switch_name, with_request_part}
use Rattle.rpki_requests.proofs.Settings.{setting_of, first_named, settings, found, none_found, dashed}

-- ---- the first word

-- what a first word is
abbrev pub RequestSort : Type 0
RequestSort = Sort RequestPart Setting

-- the option without a value that has this name
switch_of : List ℕ → Option Switch
switch_of word =
    cond (bytes_eq word (codes "--trim")) (Some Trim)
    (cond (bytes_eq word (codes "--lenient")) (Some Lenient)
    (cond (bytes_eq word (codes "--pem")) (Some Pem)
    (cond (bytes_eq word (codes "--force")) (Some Force) None)))

or_before : Option Setting → RequestSort → RequestSort
or_before None sort = sort
or_before (Some setting) sort = before setting

or_joining : Option Setting → List ℕ → RequestSort → RequestSort
or_joining None value sort = sort
or_joining (Some setting) value sort = joining setting value

or_switch : Option Switch → RequestSort → RequestSort
or_switch None sort = sort
or_switch (Some s) sort = single (switch s)

-- the sort of a word: by its name, else by what stands before and behind its first `=`
pub sort_of : List ℕ → RequestSort
sort_of word =
    or_before (setting_of word)
    (or_joining (setting_of (before_first is_equals word)) (after_first is_equals word)
    (or_switch (switch_of word) (single (file word))))

-- an option that takes a value
named : (setting : Setting) → sort_of (asked_option_name setting) ≡ before setting
unfolding sort_of or_before
named setting = rw (found setting) refl

joined : (setting : Setting) (value : List ℕ) → sort_of (asked_option_name setting ++ codes "=" ++ value) ≡
    joining setting value
unfolding sort_of or_before or_joining first_named
joined Issuer value = refl
joined Key value = refl
joined Serial value = refl
joined From value = refl
joined Until value = refl
joined Ipv4 value = refl
joined Ipv6 value = refl
joined AsNumbers value = refl
joined Repository value = refl
joined Manifest value = refl
joined Notify value = refl
joined Object value = refl
joined IssuerUri value = refl
joined CrlUri value = refl
joined Crl value = refl
joined Previous value = refl
joined Number value = refl
joined Revoke value = refl
joined NextUpdate value = refl
joined At value = refl
joined Out value = refl

-- what stands before its first `=` is its name
pub front_is : (setting : Setting) (value : List ℕ) →
    before_first is_equals (asked_option_name setting ++ codes "=" ++ value) ≡ asked_option_name setting
front_is Issuer value = refl
front_is Key value = refl
front_is Serial value = refl
front_is From value = refl
front_is Until value = refl
front_is Ipv4 value = refl
front_is Ipv6 value = refl
front_is AsNumbers value = refl
front_is Repository value = refl
front_is Manifest value = refl
front_is Notify value = refl
front_is Object value = refl
front_is IssuerUri value = refl
front_is CrlUri value = refl
front_is Crl value = refl
front_is Previous value = refl
front_is Number value = refl
front_is Revoke value = refl
front_is NextUpdate value = refl
front_is At value = refl
front_is Out value = refl

-- ---- a file

module _ (word : List ℕ) (not_option : IsOption word → ⊥) where
  no_name : (setting : Setting) → word ≡ asked_option_name setting → ⊥
  no_name setting is = not_option (subst IsOption (append-nil (asked_option_name setting) ∙ sym is) (dashed setting []))

  no_front : (n : ℕ) (setting : Setting) → take n word ≡ asked_option_name setting → ⊥
  no_front n setting is =
      not_option (subst IsOption (ap (λ (l : List ℕ). l ++ drop n word) (sym is) ∙ take-append-drop n word)
      (dashed setting (drop n word)))

  not_same : (other : List ℕ) → IsOption other → bytes_eq word other ≡ true → ⊥
  not_same other is_option same = not_option (subst IsOption (sym ((bytes_eq-Decides word other).0 same)) is_option)

  cond_none : (b : Bool) (here later : Option Switch) → (b ≡ true → ⊥) → later ≡ None → cond b here later ≡ None
  cond_none true here later never is = absurd (never refl)
  cond_none false here later never is = is

  no_switch : switch_of word ≡ None
  unfolding switch_of
  no_switch =
      cond_none (bytes_eq word (codes "--trim")) _ _ (not_same (codes "--trim") (refl, lit< tt))
      (cond_none (bytes_eq word (codes "--lenient")) _ _ (not_same (codes "--lenient") (refl, lit< tt))
      (cond_none (bytes_eq word (codes "--pem")) _ _ (not_same (codes "--pem") (refl, lit< tt))
      (cond_none (bytes_eq word (codes "--force")) _ _ (not_same (codes "--force") (refl, lit< tt)) refl)))

  -- is a part by itself
  file_sort : sort_of word ≡ single (file word)
  unfolding sort_of or_before or_joining or_switch
  file_sort =
      rw (
        none_found settings word no_name,
        none_found settings (before_first is_equals word) (no_front (position_or_len is_equals word)),
        no_switch,
      ) refl

-- ---- a part

-- an option with its value is this part
abbrev pub IsSet : Setting → List ℕ → RequestPart → Type 0
IsSet setting value part = part ≡ option (record { setting = setting; value = value })

-- the parts of a request
abbrev pub request_grammar : Grammar RequestPart Setting
request_grammar = record { IsPart = IsRequestPart; name = asked_option_name; IsSet = IsSet; sort_of = sort_of }

one_set : (setting : Setting) (value : List ℕ) (p q : RequestPart) → IsSet setting value p → IsSet setting value q →
    p ≡ q
one_set setting value p q h k = h ∙ sym k

is_part : (setting : Setting) (value : List ℕ) (part : RequestPart) (words : List (List ℕ)) →
    IsSet setting value part → GivesValue (asked_option_name setting) value words → IsRequestPart part words
is_part setting value part words set gives = subst (λ (p : RequestPart). IsRequestPart p words) (sym set) gives

switch_sort : (s : Switch) → sort_of (switch_name s) ≡ single (switch s)
unfolding sort_of or_before or_joining or_switch switch_of first_named
switch_sort Trim = refl
switch_sort Lenient = refl
switch_sort Pem = refl
switch_sort Force = refl

-- the words of a part have its shape
shape : (part : RequestPart) (words : List (List ℕ)) → IsRequestPart part words → Shape request_grammar part words
shape (file name) words h = alone_is request_grammar (file name) words name h.0 (file_sort name h.1)
shape (option g) words h = given_is request_grammar named joined g.setting g.value (option g) words refl h
shape (switch s) words h = alone_is request_grammar (switch s) words (switch_name s) h (switch_sort s)

-- which tells all parts apart
pub request_clear : IsClear request_grammar
request_clear = record { named = named; joined = joined; one_set = one_set; is_part = is_part; shape = shape }

-- ---- words that begin no part

-- a word that is an option and none of those that there are
module _ (word : List ℕ) (is_option : IsOption word) (unnamed : (setting : Setting) → word ≡ asked_option_name setting →
    ⊥) (unjoined : (setting : Setting) (value : List ℕ) → Joins (asked_option_name setting) value word → ⊥)
    (unswitched : (s : Switch) → word ≡ switch_name s → ⊥) where
  not_given : (setting : Setting) (value : List ℕ) (its behind rest : List (List ℕ)) →
      GivesValue (asked_option_name setting) value its → (word ∷ []) ++ behind ≡ its ++ rest → ⊥
  not_given setting value its behind rest (inl is) e = unnamed setting cc
  not_given setting value its behind rest (inr is) e = unjoined setting value cc

  pub no_option : BeginsNoPart IsRequestPart (word ∷ [])
  no_option (file name) its behind rest is e = let same : word ≡ name = cc in is.1 (subst IsOption same is_option)
  no_option (option g) its behind rest is e = not_given g.setting g.value its behind rest is e
  no_option (switch s) its behind rest is e = unswitched s cc

-- ---- parts that are added

-- a file is
pub file_added : {T E : Type 0} (r : Result T E) (old new : AskedFields) (name : List ℕ) →
    OnOk r (new ≡ with_request_part old (file name)) → (IsOption name → ⊥) →
    OnOk r (AddsPart IsRequestPart with_request_part (name ∷ []) old new)
file_added (Ok x) old new name e not_option = (file name, (refl, not_option), e)
file_added (Err x) old new name e not_option = e

-- an option is, whose value stands behind `=`
pub joined_added : {T E : Type 0} (r : Result T E) (old new : AskedFields) (setting : Setting)
    (value word : List ℕ) → Joins (asked_option_name setting) value word →
    OnOk r (new ≡ with_request_part old (option (record { setting = setting; value = value }))) →
    OnOk r (AddsPart IsRequestPart with_request_part (word ∷ []) old new)
joined_added (Ok x) old new setting value word joins e =
    (option (record { setting = setting; value = value }), inr (ap (λ (w : List ℕ). w ∷ []) joins), e)
joined_added (Err x) old new setting value word joins e = e
