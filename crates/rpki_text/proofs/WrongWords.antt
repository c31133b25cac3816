-- The first wrong word of a command line: how it is found, and that there are no parts then.
use Rattle.std.specs.Prelude.{Some, codes}
use Rattle.std.specs.Borrow.{Bor}
use Rattle.std.specs.declared.vec.Vec.{Vec}
use Rattle.std.proofs.Common.{◌≡◌, ℕ, ◌+◌, ◌<◌, List, [], ◌∷◌, ◌++◌, length, get_or, take, drop, refl, ap, ◌∙◌, subst, inl, inr}
use Rattle.rpki_der.specs.Times.{Moment, IsMoment}
use Rattle.rpki_text.specs.MomentTexts.{IsMomentText}
use Rattle.rpki_text.specs.declared.command_line.arguments.Format.{Format}
use Rattle.rpki_text.specs.declared.command_line.arguments.Misuse.{Misuse}
use Rattle.rpki_text.specs.declared.command_line.arguments.Misuse.TheVariants.{Unknown, NoValue, WrongValue}
use Rattle.rpki_text.specs.declared.command_line.arguments.Setting.{Setting}
use Rattle.rpki_text.specs.declared.command_line.arguments.Setting.TheVariants.{At, MaxSize, Only}
use Rattle.rpki_text.specs.CommandLines.{IsFormatName, IsCountText, IsPart, IsSwitch, LinePart, file, list, locator}
use Rattle.rpki_text.specs.CommandLines.{folder, at_moment, depth, steps, max_size, output, only_rejected, AreParts}
use Rattle.rpki_text.specs.CommandLines.{RequestFields, setting_name, with_part}
use Rattle.rpki_text.specs.CommandLines.Steps.{IsOptionName, IsSetPart}
use Rattle.rpki_text.specs.CommandLines.Views.{word_octets}
use Rattle.rpki_text.specs.Misuses.{BeginsWithOption, IsUnknownOption, IsWrongFirst}
use Rattle.rpki_text.specs.Misuses.Steps.{IsBound, NamesFormat, TellsValue, TellsWord}
use Rattle.rpki_text.specs.WordParts.{BeginsNoPart, IsFirstWrong, IsOption, Joins}
use Rattle.rpki_text.proofs.CommandParts.{line_grammar, line_clear, no_option}
use Rattle.rpki_text.proofs.PartsOfWords.{none_behind, value_missing, no_value, no_joined}
use Rattle.rpki_text.proofs.WordByWord.{AreAdded, value_split}

-- ---- a word

-- an option that there isn't
pub unknown_option : (word : List ℕ) → IsOption word → ((setting : Setting) → IsOptionName setting word → ⊥) →
    ((setting : Setting) (value : List ℕ) → Joins (setting_name setting) value word → ⊥) →
    ((part : LinePart) → IsSwitch part word → ⊥) → IsUnknownOption word
unknown_option word is_option unnamed unjoined no_switch =
    (is_option, (λ part is. no_option word is_option unnamed unjoined no_switch part (word ∷ []) [] [] is refl), unnamed, unjoined)

-- an option that bounds a walk, and a value that is no number
pub no_number : (setting : Setting) (value : List ℕ) → IsBound setting → ((n : ℕ) → IsCountText n value → ⊥) →
    (part : LinePart) → IsSetPart setting value part → ⊥
no_number setting value (inl is) none part set =
    let its = subst (λ (s : Setting). IsSetPart s value part) is set in
    none its.0 its.2
no_number setting value (inr is) none part set =
    let its = subst (λ (s : Setting). IsSetPart s value part) is set in
    none its.0 its.2

-- the one of a file's size, and a value that is no number
pub no_size : (value : List ℕ) → ((n : ℕ) → IsCountText n value → ⊥) → (part : LinePart) → IsSetPart MaxSize value part → ⊥
no_size value none part set = none set.0 set.2

-- one that names a format, and a value that is none
pub no_format : (setting : Setting) (value : List ℕ) → NamesFormat setting →
    ((f : Format) → IsFormatName f value → ⊥) → (part : LinePart) → IsSetPart setting value part → ⊥
no_format setting value (inl is) none part set =
    let its = subst (λ (s : Setting). IsSetPart s value part) is set in
    none its.0 its.2
no_format setting value (inr is) none part set =
    let its = subst (λ (s : Setting). IsSetPart s value part) is set in
    none its.0 its.2

-- one that names a moment, and a value that is none
pub no_moment : (value : List ℕ) → ((m : Moment) → IsMoment m → IsMomentText m value → ⊥) → (part : LinePart) → IsSetPart At value part → ⊥
no_moment value none part set = none set.0 set.2 set.3

-- that of what is printed alone, and another value
pub not_only : (value : List ℕ) → (value ≡ codes "rejected" → ⊥) → (part : LinePart) → IsSetPart Only value part → ⊥
not_only value none part set = none set.1

-- a value that an option doesn't take is told
pub value_told : (setting : Setting) (value : Bor (List ℕ)) →
    ((part : LinePart) → IsSetPart setting value.now part → ⊥) →
    TellsValue (WrongValue setting value) setting value.now
value_told setting value none words begins = (
  begins,
  λ takes. no_value line_grammar line_clear setting value.now none takes.0
      (setting_name setting ∷ value.now ∷ []) [] [] takes.1 refl,
)

-- what is told of an option and its value is told of a word that joins them
pub word_joined : (misuse : Misuse) (setting : Setting) (value word : List ℕ) →
    Joins (setting_name setting) value word → TellsValue misuse setting value → TellsWord misuse word
word_joined misuse setting value word joins tells rest =
    tells (word ∷ rest) (word ∷ [], rest, inr (ap (λ (w : List ℕ). w ∷ []) joins), refl)

-- ---- words of the command line, by their places

module _ {Z : Type 0} (words : List (Vec ℕ Z)) (i : ℕ) (word : Vec ℕ Z) (low : i < length words)
    (there : word ≡ get_or words i word) (old new : RequestFields) (text : List ℕ) (text_is : text ≡ word.items)
    (misuse : Misuse) where
  -- the word is no value of the option before it
  pub value_wrong : (setting : Setting) →
      AreAdded line_grammar with_part (word_octets (take i words)) old new (Some setting) →
      TellsValue misuse setting text → IsFirstWrong IsPart IsWrongFirst misuse (word_octets words)
  value_wrong setting so_far tells = record {
    parts = so_far.added.0;
    before = so_far.front;
    behind = setting_name setting ∷ text ∷ word_octets (drop (i + 1) words);
    parts_are = so_far.added.1;
    wrong = tells (setting_name setting ∷ text ∷ word_octets (drop (i + 1) words))
        (setting_name setting ∷ text ∷ [], word_octets (drop (i + 1) words), inl refl, refl);
    words_are = value_split line_grammar with_part line_clear words i word low there old new text text_is setting so_far;
  }

-- ---- words with a wrong one are no parts

-- an option that takes no value is a part by itself
switch_part : (part : LinePart) (word : List ℕ) → IsSwitch part word → IsPart part (word ∷ [])
switch_part (file name) word is = absurd is
switch_part (list name) word is = absurd is
switch_part (locator name) word is = absurd is
switch_part (folder name) word is = absurd is
switch_part (at_moment m) word is = absurd is
switch_part (depth n) word is = absurd is
switch_part (steps n) word is = absurd is
switch_part (max_size n) word is = absurd is
switch_part (output f) word is = absurd is
switch_part only_rejected word is = absurd is
switch_part part word is = (word, refl, is)

-- an option that there isn't begins no part
no_unknown : (word : List ℕ) → IsUnknownOption word → BeginsNoPart IsPart (word ∷ [])
no_unknown word unknown = no_option word unknown.0 unknown.2 unknown.3 (λ part is. unknown.1 part (switch_part part word is))

module _ (parts others : List LinePart) (before behind words : List (List ℕ)) (parts_are : AreParts parts before)
    (words_are : words ≡ before ++ behind) (are : AreParts others words) where
  -- those behind the parts begin with an option and what isn't its value
  no_setting : (setting : Setting) (value : List ℕ) → BeginsWithOption setting value behind →
      ((part : LinePart) → IsSetPart setting value part → ⊥) → ⊥
  no_setting setting value (front, rest, inl gives, is) none =
      none_behind line_grammar line_clear parts others before (value ∷ []) rest words (setting_name setting) parts_are
      (no_value line_grammar line_clear setting value none)
      (words_are ∙ ap (λ (l : List (List ℕ)). before ++ l) (is ∙ ap (λ (l : List (List ℕ)). l ++ rest) gives)) are
  no_setting setting value (front, rest, inr gives, is) none =
      let word = setting_name setting ++ codes "=" ++ value in
      none_behind line_grammar line_clear parts others before [] rest words word parts_are
      (no_joined line_grammar line_clear setting value none word refl)
      (words_are ∙ ap (λ (l : List (List ℕ)). before ++ l) (is ∙ ap (λ (l : List (List ℕ)). l ++ rest) gives)) are

  -- they begin with what is told
  no_first : (misuse : Misuse) → IsWrongFirst misuse behind → ⊥
  no_first (Unknown word) (rest, is, unknown) =
      none_behind line_grammar line_clear parts others before [] rest words word.now parts_are
      (no_unknown word.now unknown) (words_are ∙ ap (λ (l : List (List ℕ)). before ++ l) is) are
  no_first (NoValue setting) is =
      value_missing line_grammar line_clear parts others before words setting parts_are
      (words_are ∙ ap (λ (l : List (List ℕ)). before ++ l) is) are
  no_first (WrongValue setting value) (begins, none) =
      no_setting setting value.now begins
      (λ part set. none
      (part, line_clear.is_part setting value.now part (setting_name setting ∷ value.now ∷ []) set (inl refl)))
  no_first _ wrong = absurd wrong

-- what is told of the first wrong word is told of no parts
pub wrong_no_parts : (misuse : Misuse) (words : List (List ℕ)) → IsFirstWrong IsPart IsWrongFirst misuse words →
    (parts : List LinePart) → AreParts parts words → ⊥
wrong_no_parts misuse words wrong parts are =
    no_first wrong.parts parts wrong.before wrong.behind words wrong.parts_are wrong.words_are are misuse wrong.wrong
