-- Parts that are added word by word, whatever the parts are and what they are added to.
use Rattle.std.specs.Prelude.{Option, Some, None, Result, Ok, Err, OnOk, codes}
use Rattle.std.specs.declared.vec.Vec.{Vec}
use Rattle.std.proofs.Common.{◌≡◌, ℕ, ◌+◌, ◌<◌, ◌≤◌, List, [], ◌∷◌, ◌++◌, length, get_or, take, drop, refl, sym, ap, ◌∙◌, inl, inr}
use Rattle.std.proofs.lemmas.List.{append_assoc, append-nil, get_or-map, length-map, map-append, map_more}
use Rattle.std.proofs.lemmas.List.{take-append-drop, take_all, drop_more}
use Rattle.std.proofs.lemmas.List.Sums.{fold_push}
use Rattle.rpki_text.specs.CommandLines.Views.{word_octets}
use Rattle.rpki_text.specs.WordParts.{AddsPart, AddsParts, AreInOrder, BeginsNoPart, IsFirstWrong}
use Rattle.rpki_text.proofs.PartsOfWords.{Grammar, IsClear, one_more, none_behind, value_missing}

-- the new one has what the option with this value says too
abbrev pub AddsValue : {P S R : Type 0} → Grammar P S → (R → P → R) → S → List ℕ → R → R → Type 0
AddsValue {P} g with_part setting value old new =
    (part : P) × g.IsSet setting value part × (new ≡ with_part old part)

-- the option whose value comes next
abbrev pub awaited : {S : Type 0} → (S → List ℕ) → Option S → List (List ℕ)
awaited name None = []
awaited name (Some setting) = name setting ∷ []

-- the words are parts that were added, and perhaps an option whose value comes next
pub record AreAdded {P S R : Type 0} (g : Grammar P S) (with_part : R → P → R) (words : List (List ℕ)) (old new : R)
    (awaiting : Option S) : Type 0 where
  pub front : List (List ℕ)
  pub added : AddsParts g.IsPart with_part front old new
  pub words_are : words ≡ front ++ awaited g.name awaiting

-- ---- words of the command line, by their places

module _ {Z : Type 0} (words : List (Vec ℕ Z)) where
  pub octets_length : length (word_octets words) ≡ length words
  octets_length = length-map words (λ word. word.items)

  -- the octets of the word at a place
  pub octets_at : (i : ℕ) (word : Vec ℕ Z) (other : List ℕ) → i < length words → word ≡ get_or words i word →
      get_or (word_octets words) i other ≡ word.items
  octets_at i word other low there = get_or-map (λ word. word.items) words i word other low ∙ ap (λ (w : Vec ℕ Z). w.items) (sym there)

module _ {Z : Type 0} (words : List (Vec ℕ Z)) (i : ℕ) (word : Vec ℕ Z) (low : i < length words) (there : word ≡ get_or words i word) where
  -- those before the word, the word, and those behind it
  words_split : word_octets words ≡ word_octets (take i words) ++ word.items ∷ word_octets (drop (i + 1) words)
  words_split =
      ap word_octets (sym (take-append-drop i words) ∙ ap (λ (l : List (Vec ℕ Z)). take i words ++ l)
      (drop_more words i word low)) ∙ map-append (λ (w : Vec ℕ Z). w.items) (take i words)
      (get_or words i word ∷ drop (i + 1) words)
      ∙ ap (λ (w : Vec ℕ Z). word_octets (take i words) ++ w.items ∷ word_octets (drop (i + 1) words)) (sym there)

  -- the words up to it
  pub words_more : word_octets (take (i + 1) words) ≡ word_octets (take i words) ++ word.items ∷ []
  words_more = map_more (λ (w : Vec ℕ Z). w.items) words i word low ∙
      ap (λ (w : Vec ℕ Z). word_octets (take i words) ++ w.items ∷ []) (sym there)

module _ {P S R : Type 0} (g : Grammar P S) (with_part : R → P → R) where
  -- one part more
  part_added : (words front its : List (List ℕ)) (old new newer : R) → words ≡ front ++ its →
      AddsParts g.IsPart with_part front old new → AddsPart g.IsPart with_part its new newer →
      AreAdded g with_part words old newer None
  part_added words front its old new newer is h p = record {
    front = front ++ its;
    added = (
      h.0 ++ p.0 ∷ [],
      one_more g.IsPart h.0 front h.1 p.0 its p.1,
      p.2 ∙ ap (λ (r : R). with_part r p.0) h.2 ∙
          sym (fold_push with_part old h.0 p.0),
    );
    words_are = is ∙ sym (append-nil (front ++ its));
  }

  module _ (clear : IsClear g) where
    -- what an option says is added, whose value stands behind `=`
    pub joined_added : {T E : Type 0} (r : Result T E) (old new : R) (setting : S) (value word : List ℕ) →
        word ≡ g.name setting ++ codes "=" ++ value → OnOk r (AddsValue g with_part setting value old new) →
        OnOk r (AddsPart g.IsPart with_part (word ∷ []) old new)
    joined_added (Ok x) old new setting value word joins adds = (
      adds.0,
      clear.is_part setting value adds.0 (word ∷ []) adds.1 (inr (ap (λ (w : List ℕ). w ∷ []) joins)),
      adds.2,
    )
    joined_added (Err x) old new setting value word joins adds = adds

    module _ {Z : Type 0} (words : List (Vec ℕ Z)) (i : ℕ) (word : Vec ℕ Z) (low : i < length words)
        (there : word ≡ get_or words i word) (old new : R) (text : List ℕ) (text_is : text ≡ word.items) where
      more_is : word_octets (take (i + 1) words) ≡ word_octets (take i words) ++ word.items ∷ []
      more_is = words_more words i word low there

      split_is : word_octets words ≡ word_octets (take i words) ++ word.items ∷ word_octets (drop (i + 1) words)
      split_is = words_split words i word low there

      module _ (setting : S) (so_far : AreAdded g with_part (word_octets (take i words)) old new (Some setting)) where
        -- the word is the value of an option
        pub value_added : (newer : R) → AddsValue g with_part setting text new newer →
            AreAdded g with_part (word_octets (take (i + 1) words)) old newer None
        value_added newer adds =
            part_added (word_octets (take (i + 1) words)) so_far.front (g.name setting ∷ text ∷ []) old new newer
            (more_is ∙ ap (λ (l : List (List ℕ)). l ++ word.items ∷ []) so_far.words_are ∙
            append_assoc so_far.front (g.name setting ∷ []) (word.items ∷ []) ∙
            ap (λ (w : List ℕ). so_far.front ++ g.name setting ∷ w ∷ []) (sym text_is)) so_far.added
            (adds.0, clear.is_part setting text adds.0 (g.name setting ∷ text ∷ []) adds.1 (inl refl), adds.2)

        -- behind the parts stand the option and the word
        pub value_split : word_octets words ≡ so_far.front ++ (g.name setting ∷ text ∷ word_octets (drop (i + 1) words))
        value_split =
            split_is ∙ ap (λ (l : List (List ℕ)). l ++ word.items ∷ word_octets (drop (i + 1) words))
            so_far.words_are ∙ append_assoc so_far.front (g.name setting ∷ [])
            (word.items ∷ word_octets (drop (i + 1) words)) ∙
            ap (λ (w : List ℕ). so_far.front ++ g.name setting ∷ w ∷ word_octets (drop (i + 1) words))
            (sym text_is)

      module _ (so_far : AreAdded g with_part (word_octets (take i words)) old new None) where
        front_is : word_octets (take i words) ≡ so_far.front
        front_is = so_far.words_are ∙ append-nil so_far.front

        -- the word is a part by itself
        pub word_added : (newer : R) → AddsPart g.IsPart with_part (text ∷ []) new newer →
            AreAdded g with_part (word_octets (take (i + 1) words)) old newer None
        word_added newer adds =
            part_added (word_octets (take (i + 1) words)) so_far.front (text ∷ []) old new newer
            (more_is ∙ ap (λ (l : List (List ℕ)). l ++ word.items ∷ []) front_is ∙
            ap (λ (w : List ℕ). so_far.front ++ w ∷ []) (sym text_is)) so_far.added adds

        -- behind the parts stands the word
        pub word_split : word_octets words ≡ so_far.front ++ (text ∷ word_octets (drop (i + 1) words))
        word_split =
            split_is ∙ ap (λ (l : List (List ℕ)). l ++ word.items ∷ word_octets (drop (i + 1) words)) front_is ∙
            ap (λ (w : List ℕ). so_far.front ++ w ∷ word_octets (drop (i + 1) words)) (sym text_is)

        -- it is wrong, as is told
        pub word_wrong : {M : Type 0} (IsWrong : M → List (List ℕ) → Type 0) (misuse : M) →
            ((rest : List (List ℕ)) → IsWrong misuse (text ∷ rest)) →
            IsFirstWrong g.IsPart IsWrong misuse (word_octets words)
        word_wrong IsWrong misuse tells = record {
          parts = so_far.added.0;
          before = so_far.front;
          behind = text ∷ word_octets (drop (i + 1) words);
          parts_are = so_far.added.1;
          wrong = tells (word_octets (drop (i + 1) words));
          words_are = word_split;
        }

        -- the word is none
        pub word_rejected : BeginsNoPart g.IsPart (text ∷ []) → (parts : List P) → AreInOrder g.IsPart parts (word_octets words) → ⊥
        word_rejected none parts =
            none_behind g clear so_far.added.0 parts so_far.front [] (word_octets (drop (i + 1) words))
            (word_octets words) text so_far.added.1 none word_split

        -- the word is an option whose value comes next
        pub option_awaits : (setting : S) → text ≡ g.name setting →
            AreAdded g with_part (word_octets (take (i + 1) words)) old new (Some setting)
        option_awaits setting names = record {
          front = so_far.front;
          added = so_far.added;
          words_are = more_is ∙ ap (λ (l : List (List ℕ)). l ++ word.items ∷ []) front_is ∙
              ap (λ (w : List ℕ). so_far.front ++ w ∷ []) (sym text_is ∙ names);
        }

    -- all words were gone over, and an option's value is missing
    module _ {Z : Type 0} (words : List (Vec ℕ Z)) (i : ℕ) (old new : R) (setting : S)
        (so_far : AreAdded g with_part (word_octets (take i words)) old new (Some setting))
        (high : length words ≤ i) where
      -- behind the parts stands the option
      pub option_last : word_octets words ≡ so_far.front ++ (g.name setting ∷ [])
      option_last = ap word_octets (sym (take_all i words high)) ∙ so_far.words_are

      pub value_awaited : (parts : List P) → AreInOrder g.IsPart parts (word_octets words) → ⊥
      value_awaited parts =
          value_missing g clear so_far.added.0 parts so_far.front (word_octets words) setting so_far.added.1 option_last

      -- its value is missing, as is told
      pub option_wrong : {M : Type 0} (IsWrong : M → List (List ℕ) → Type 0) (misuse : M) →
          IsWrong misuse (g.name setting ∷ []) → IsFirstWrong g.IsPart IsWrong misuse (word_octets words)
      option_wrong IsWrong misuse tells = record {
        parts = so_far.added.0;
        before = so_far.front;
        behind = g.name setting ∷ [];
        parts_are = so_far.added.1;
        wrong = tells;
        words_are = option_last;
      }
