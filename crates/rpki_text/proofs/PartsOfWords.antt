-- Words are one list of parts at most, whatever the parts are, where the sort of a first word tells
-- what it begins.
use Rattle.std.specs.Prelude.{codes}
use Rattle.std.proofs.Common.{◌≡◌, ℕ, inl, inr, List, [], ◌∷◌, ◌++◌, refl, sym, ap, ◌∙◌, subst}
use Rattle.std.proofs.lemmas.List.{append_assoc, append-nil}
use Rattle.rpki_text.specs.WordParts.{AreInOrder, BeginsNoPart, GivesValue}

-- what a first word is: a part by itself, an option whose value comes next, or an option and its value
pub data Sort (P S : Type 0) : Type 0 where
  single : P → Sort P S
  before : S → Sort P S
  joining : S → List ℕ → Sort P S

-- the words of a part, the name of an option that takes a value, the part that it is with a value,
-- and the sort of a first word
pub record Grammar (P S : Type 0) : Type 1 where
  pub IsPart : P → List (List ℕ) → Type 0
  pub name : S → List ℕ
  pub IsSet : S → List ℕ → P → Type 0
  pub sort_of : List ℕ → Sort P S

-- a part is one word of its own sort, or an option with a value, in two words or one
pub data Shape {P S : Type 0} (g : Grammar P S) : P → List (List ℕ) → Type 0 where
  alone : (part : P) (word : List ℕ) → g.sort_of word ≡ single part → Shape g part (word ∷ [])
  apart : (setting : S) (option value : List ℕ) (part : P) → g.sort_of option ≡ before setting →
      g.IsSet setting value part → Shape g part (option ∷ value ∷ [])
  in_one : (setting : S) (word value : List ℕ) (part : P) → g.sort_of word ≡ joining setting value →
      g.IsSet setting value part → Shape g part (word ∷ [])

-- the sort of an option's name, and of its name with a value; an option with a value is one part; and
-- each part has its shape
pub record IsClear {P S : Type 0} (g : Grammar P S) : Type 0 where
  pub named : (setting : S) → g.sort_of (g.name setting) ≡ before setting
  pub joined : (setting : S) (value : List ℕ) → g.sort_of (g.name setting ++ codes "=" ++ value) ≡ joining setting value
  pub one_set : (setting : S) (value : List ℕ) (p q : P) → g.IsSet setting value p → g.IsSet setting value q → p ≡ q
  pub is_part : (setting : S) (value : List ℕ) (part : P) (words : List (List ℕ)) → g.IsSet setting value part →
      GivesValue (g.name setting) value words → g.IsPart part words
  pub shape : (part : P) (words : List (List ℕ)) → g.IsPart part words → Shape g part words

-- one more part stands behind them
pub one_more : {P : Type 0} → (IsPart : P → List (List ℕ) → Type 0) (parts : List P) (front : List (List ℕ)) →
    AreInOrder IsPart parts front → (part : P) (words : List (List ℕ)) → IsPart part words →
    AreInOrder IsPart (parts ++ part ∷ []) (front ++ words)
one_more IsPart [] front h part words is = (words, [], is, refl, ap (λ (l : List (List ℕ)). l ++ words) h ∙ sym (append-nil words))
one_more IsPart (p ∷ ps) front h part words is = (
  h.0,
  h.1 ++ words,
  h.2,
  one_more IsPart ps h.1 h.3 part words is,
  ap (λ (l : List (List ℕ)). l ++ words) h.4 ∙
      append_assoc h.0 h.1 words,
)

module _ {P S : Type 0} (g : Grammar P S) where
  -- one word of the part's sort
  pub alone_is : (part : P) (words : List (List ℕ)) (word : List ℕ) → words ≡ word ∷ [] → g.sort_of word ≡ single part → Shape g part words
  alone_is part words word is sort = subst (λ (l : List (List ℕ)). Shape g part l) (sym is) (alone part word sort)

  -- an option with its value
  pub given_is : (named : (setting : S) → g.sort_of (g.name setting) ≡ before setting)
      (joined : (setting : S) (value : List ℕ) → g.sort_of (g.name setting ++ codes "=" ++ value) ≡
      joining setting value) (setting : S) (value : List ℕ) (part : P) (words : List (List ℕ)) →
      g.IsSet setting value part → GivesValue (g.name setting) value words → Shape g part words
  given_is named joined setting value part words set (inl is) =
      subst (λ (l : List (List ℕ)). Shape g part l) (sym is) (apart setting (g.name setting) value part (named setting) set)
  given_is named joined setting value part words set (inr is) =
      subst (λ (l : List (List ℕ)). Shape g part l) (sym is)
      (in_one setting (g.name setting ++ codes "=" ++ value) value part (joined setting value) set)

  -- a part has words
  some_words : (part : P) (words rest : List (List ℕ)) → Shape g part words → words ++ rest ≡ [] → ⊥
  some_words _ _ rest (alone part word s) e = cc
  some_words _ _ rest (apart setting option value part s is) e = cc
  some_words _ _ rest (in_one setting word value part s is) e = cc

  module _ (clear : IsClear g) where
    -- the same option with the same value is the same part
    same_set : (setting other : S) (value another : List ℕ) (p q : P) → setting ≡ other → value ≡ another →
        g.IsSet setting value p → g.IsSet other another q → p ≡ q
    same_set setting other value another p q settings values is is_too =
        clear.one_set other another p q
        (subst (λ (l : List ℕ). g.IsSet other l p) values (subst (λ (o : S). g.IsSet o value p) settings is))
        is_too

    -- words begin with one part at most
    same_front : (p q : P) (a b x y : List (List ℕ)) → Shape g p a → Shape g q b → a ++ x ≡ b ++ y → (p ≡ q) × (x ≡ y)
    same_front _ _ _ _ x y (alone p v s) (alone q w t) e =
        let words : v ≡ w = cc in
        let sorts : single p ≡ single q = sym s ∙ ap g.sort_of words ∙ t in
        (cc, cc)
    same_front _ _ _ _ x y (alone p v s) (apart set w value q t is) e =
        let words : v ≡ w = cc in
        let sorts : single p ≡ before set = sym s ∙ ap g.sort_of words ∙ t in
        absurd cc
    same_front _ _ _ _ x y (alone p v s) (in_one set w value q t is) e =
        let words : v ≡ w = cc in
        let sorts : single p ≡ joining set value = sym s ∙ ap g.sort_of words ∙ t in
        absurd cc
    same_front _ _ _ _ x y (apart set v value p s is) (alone q w t) e =
        let words : v ≡ w = cc in
        let sorts : before set ≡ single q = sym s ∙ ap g.sort_of words ∙ t in
        absurd cc
    same_front _ _ _ _ x y (apart set v value p s is) (apart other w another q t is_too) e =
        let words : v ≡ w = cc in
        let sorts : before set ≡ before other = sym s ∙ ap g.sort_of words ∙ t in
        let settings : set ≡ other = cc in
        let values : value ≡ another = cc in
        (same_set set other value another p q settings values is is_too, cc)
    same_front _ _ _ _ x y (apart set v value p s is) (in_one other w another q t is_too) e =
        let words : v ≡ w = cc in
        let sorts : before set ≡ joining other another = sym s ∙ ap g.sort_of words ∙ t in
        absurd cc
    same_front _ _ _ _ x y (in_one set v value p s is) (alone q w t) e =
        let words : v ≡ w = cc in
        let sorts : joining set value ≡ single q = sym s ∙ ap g.sort_of words ∙ t in
        absurd cc
    same_front _ _ _ _ x y (in_one set v value p s is) (apart other w another q t is_too) e =
        let words : v ≡ w = cc in
        let sorts : joining set value ≡ before other = sym s ∙ ap g.sort_of words ∙ t in
        absurd cc
    same_front _ _ _ _ x y (in_one set v value p s is) (in_one other w another q t is_too) e =
        let words : v ≡ w = cc in
        let sorts : joining set value ≡ joining other another = sym s ∙ ap g.sort_of words ∙ t in
        let settings : set ≡ other = cc in
        let values : value ≡ another = cc in
        (same_set set other value another p q settings values is is_too, cc)

    -- the name of an option that takes a value doesn't begin a part alone
    value_first : (setting : S) (part : P) (words rest : List (List ℕ)) → Shape g part words → g.name setting ∷ [] ≡ words ++ rest → ⊥
    value_first setting _ _ rest (alone part word s) e =
        let words : g.name setting ≡ word = cc in
        let sorts : before setting ≡ single part = sym (clear.named setting) ∙ ap g.sort_of words ∙ s in
        cc
    value_first setting _ _ rest (apart other option value part s is) e = cc
    value_first setting _ _ rest (in_one other word value part s is) e =
        let words : g.name setting ≡ word = cc in
        let sorts : before setting ≡ joining other value = sym (clear.named setting) ∙ ap g.sort_of words ∙ s in
        cc

    -- ---- words that begin no part

    module _ (setting : S) (value : List ℕ) (none : (part : P) → g.IsSet setting value part → ⊥) where
      -- what the option with the value isn't, the same option with the same value isn't
      none_same : (other : S) (another : List ℕ) (part : P) → other ≡ setting → another ≡ value → g.IsSet other another part → ⊥
      none_same other another part settings values is =
          none part (subst (λ (l : List ℕ). g.IsSet setting l part) values (subst (λ (o : S). g.IsSet o another part) settings is))

      no_apart : (part : P) (its behind rest : List (List ℕ)) → Shape g part its → (g.name setting ∷ value ∷ []) ++ behind ≡ its ++ rest → ⊥
      no_apart _ _ behind rest (alone part word s) e =
          let words : g.name setting ≡ word = cc in
          let sorts : before setting ≡ single part = sym (clear.named setting) ∙ ap g.sort_of words ∙ s in
          cc
      no_apart _ _ behind rest (apart other option another part s is) e =
          let words : g.name setting ≡ option = cc in
          let sorts : before setting ≡ before other = sym (clear.named setting) ∙ ap g.sort_of words ∙ s in
          let settings : other ≡ setting = cc in
          let values : another ≡ value = cc in
          none_same other another part settings values is
      no_apart _ _ behind rest (in_one other word another part s is) e =
          let words : g.name setting ≡ word = cc in
          let sorts : before setting ≡ joining other another = sym (clear.named setting) ∙ ap g.sort_of words ∙ s in
          cc

      -- an option before what isn't its value
      pub no_value : BeginsNoPart g.IsPart (g.name setting ∷ value ∷ [])
      no_value part its behind rest is e = no_apart part its behind rest (clear.shape part its is) e

      no_in_one : (word : List ℕ) → word ≡ g.name setting ++ codes "=" ++ value →
          (part : P) (its behind rest : List (List ℕ)) → Shape g part its → (word ∷ []) ++ behind ≡ its ++ rest → ⊥
      no_in_one word joins _ _ behind rest (alone part first s) e =
          let words : g.name setting ++ codes "=" ++ value ≡ first = sym joins ∙ cc in
          let sorts : joining setting value ≡ single part = sym (clear.joined setting value) ∙ ap g.sort_of words ∙ s in
          cc
      no_in_one word joins _ _ behind rest (apart other option another part s is) e =
          let words : g.name setting ++ codes "=" ++ value ≡ option = sym joins ∙ cc in
          let sorts : joining setting value ≡ before other = sym (clear.joined setting value) ∙ ap g.sort_of words ∙ s in
          cc
      no_in_one word joins _ _ behind rest (in_one other first another part s is) e =
          let words : g.name setting ++ codes "=" ++ value ≡ first = sym joins ∙ cc in
          let sorts : joining setting value ≡ joining other another = sym (clear.joined setting value) ∙ ap g.sort_of words ∙ s in
          let settings : other ≡ setting = cc in
          let values : another ≡ value = cc in
          none_same other another part settings values is

      -- an option and, in the same word, what isn't its value
      pub no_joined : (word : List ℕ) → word ≡ g.name setting ++ codes "=" ++ value → BeginsNoPart g.IsPart (word ∷ [])
      no_joined word joins part its behind rest is e = no_in_one word joins part its behind rest (clear.shape part its is) e

    -- ---- parts one after the other

    -- words that begin with these parts and are parts begin with no others
    record Further (parts all_parts : List P) (rest : List (List ℕ)) : Type 0 where
      more : List P
      all_are : all_parts ≡ parts ++ more
      more_are : AreInOrder g.IsPart more rest

    further : (parts all_parts : List P) (front rest : List (List ℕ)) → AreInOrder g.IsPart parts front →
        AreInOrder g.IsPart all_parts (front ++ rest) → Further parts all_parts rest
    further [] qs front rest h k =
        record {
          more = qs;
          all_are = refl;
          more_are =
              subst (λ (l : List (List ℕ)). AreInOrder g.IsPart qs (l ++ rest)) h k;
        }
    further (p ∷ ps) [] front rest h k =
        absurd (some_words p h.0 (h.1 ++ rest) (clear.shape p h.0 h.2)
        (sym (append_assoc h.0 h.1 rest) ∙ ap (λ (l : List (List ℕ)). l ++ rest) (sym h.4) ∙ k))
    further (p ∷ ps) (q ∷ qs) front rest h k =
        let words : h.0 ++ (h.1 ++ rest) ≡ k.0 ++ k.1 = sym (append_assoc h.0 h.1 rest) ∙
        ap (λ (l : List (List ℕ)). l ++ rest) (sym h.4) ∙ k.4 in
        let one = same_front p q h.0 k.0 (h.1 ++ rest) k.1 (clear.shape p h.0 h.2) (clear.shape q k.0 k.2) words in
        let later = further ps qs h.1 rest h.3 (subst (λ (l : List (List ℕ)). AreInOrder g.IsPart qs l) (sym one.1) k.3) in
        record { more = later.more; all_are = cc; more_are = later.more_are }

    -- parts that are followed by the beginning of no part
    pub none_behind : (parts others : List P) (front bad after words : List (List ℕ)) (word : List ℕ) →
        AreInOrder g.IsPart parts front → BeginsNoPart g.IsPart (word ∷ bad) →
        words ≡ front ++ (word ∷ bad ++ after) → AreInOrder g.IsPart others words → ⊥
    none_behind parts others front bad after words word h none is k =
        let f = further parts others front (word ∷ bad ++ after) h (subst (λ (l : List (List ℕ)). AreInOrder g.IsPart others l) is k) in
        let empty : (more : List P) → AreInOrder g.IsPart more (word ∷ bad ++ after) → ⊥ =
        λ more. elim more as (λ more. AreInOrder g.IsPart more (word ∷ bad ++ after) → ⊥) [
          | [] ↦ λ e. cc
          | p ∷ ps ↦ λ m. none p m.0 after m.1 m.2 m.4
        ] in
        empty f.more f.more_are

    -- parts that are followed by an option whose value is missing
    pub value_missing : (parts others : List P) (front words : List (List ℕ)) (setting : S) →
        AreInOrder g.IsPart parts front → words ≡ front ++ g.name setting ∷ [] → AreInOrder g.IsPart others words →
        ⊥
    value_missing parts others front words setting h is k =
        let f = further parts others front (g.name setting ∷ []) h (subst (λ (l : List (List ℕ)). AreInOrder g.IsPart others l) is k) in
        let empty : (more : List P) → AreInOrder g.IsPart more (g.name setting ∷ []) → ⊥ =
        λ more. elim more as (λ more. AreInOrder g.IsPart more (g.name setting ∷ []) → ⊥) [
          | [] ↦ λ e. cc
          | p ∷ ps ↦ λ m. value_first setting p m.0 m.1 (clear.shape p m.0 m.2) m.4
        ] in
        empty f.more f.more_are

    -- words are one list of parts at most
    pub one_list : (parts others : List P) (words : List (List ℕ)) → AreInOrder g.IsPart parts words →
        AreInOrder g.IsPart others words → others ≡ parts
    one_list parts others words h k =
        let f = further parts others words [] h (subst (λ (l : List (List ℕ)). AreInOrder g.IsPart others l) (sym (append-nil words)) k) in
        let empty : (more : List P) → AreInOrder g.IsPart more [] → more ≡ [] =
        λ more. elim more as (λ more. AreInOrder g.IsPart more [] → more ≡ []) [
          | [] ↦ λ e. refl
          | p ∷ ps ↦ λ m. absurd (some_words p m.0 m.1 (clear.shape p m.0 m.2) (sym m.4))
        ] in
        f.all_are ∙ ap (λ (l : List P). parts ++ l) (empty f.more f.more_are) ∙ append-nil parts
