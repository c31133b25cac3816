-- The form of a name, tested attribute by attribute, is the form that its definition asks for.
use Rattle.std.specs.Prelude.{flat_map, bytes_eq, if◌then◌else◌}
use Rattle.std.specs.List.{AllByRecursion}
use Rattle.std.proofs.Common.{arith, ◌≡◌, ◌≤◌, ◌+◌, ◌⊎◌, ℕ, suc, Bool, true, false, List, [], ◌∷◌, ◌++◌, length}
use Rattle.std.proofs.Common.{Option, Some, None, refl, sym, ap, subst, ◌∙◌, inl, inr}
use Rattle.std.proofs.lemmas.Bool.{cases_Bool}
use Rattle.std.proofs.lemmas.List.{append-nil}
use Rattle.rpki_der.specs.Folding.{Step, steps, over}
use Rattle.rpki_der.specs.Sequences.{AreEncodings}
use Rattle.rpki_der.specs.Sequences.Reading.{Shrinks}
use Rattle.rpki_der.specs.Tags.{SEQUENCE, SET}
use Rattle.rpki_der.specs.Values.Reading.{◌>>=◌, value_at}
use Rattle.std.proofs.lemmas.Slice.Eq.{bytes_eq-Decides}
use Rattle.rpki_der.proofs.Octets.{bind_some, some, some_is, both_are, nothing, chosen, unless_some}
use Rattle.rpki_der.proofs.Sequences.{sequence_again}
use Rattle.rpki_der.proofs.ValueReads.{value_again, value_shorter}
use Rattle.rpki_der.proofs.SequenceWalks.{goes_on, rejected, over_end}
use Rattle.rpki_der.specs.Skipping.{levels}
use Rattle.rpki_der.proofs.FormatAnswers.{alone_reads}
use Rattle.rpki_parts.specs.Names.{common_name, serial_number, Attribute, IsName, attribute_format, name_format}
use Rattle.rpki_parts.specs.Names.{rdn_sequence_format, relative_distinguished_name_format}
use Rattle.rpki_parts.specs.NameForms.{of_type, IsTextTag, AreNameAttributes, IsRpkiName}
use Rattle.rpki_parts.specs.NameForms.Reading.{is_text_tag, unseen, seen_with, seen_in}
use Rattle.rpki_parts.specs.declared.name_forms.ReadAttributes.{ReadAttributes}
use Rattle.rpki_parts.proofs.NameReads.{attribute_alone, attribute_shrinks, name_sequence}

-- reading a SET uses octets up
pub set_shrinks : Shrinks (value_at SET)
set_shrinks octets c rest e = let h = value_shorter SET octets c rest e in omega arith

-- ---- the walk over the parts is the walk over all attributes

after : {X S : Type 0} (step : Step X S) (xs ys : List X) → ((t : S) → steps step t (xs ++ ys) ≡ (steps step t xs >>= λ u. steps step u ys))
    → (r : Option S) → (r >>= λ t. steps step t (xs ++ ys)) ≡ ((r >>= λ t. steps step t xs) >>= λ t. steps step t ys)
after step xs ys h (Some t) = h t
after step xs ys h None = refl

steps_append : {X S : Type 0} (step : Step X S) (s : S) (xs ys : List X) →
    steps step s (xs ++ ys) ≡ (steps step s xs >>= λ t. steps step t ys)
steps_append step s [] ys = refl
steps_append step s (x ∷ xs) ys = after step xs ys (λ t. steps_append step t xs ys) (step s x)

-- the attributes of all parts
abbrev pub all_of : List (List Attribute) → List Attribute
all_of parts = flat_map (λ part. part) parts

module _ (strict : Bool) where
  next : (s : ReadAttributes) (text c rest : List ℕ) (part : List Attribute) (parts : List (List Attribute))
      → value_at SET text ≡ some {A = List ℕ × List ℕ} (c, rest) → seen_in strict s c ≡ steps (seen_with strict) s part
      → ((t : ReadAttributes) → over (value_at SET) (seen_in strict) t rest ≡ steps (seen_with strict) t (all_of parts))
      → (r : Option ReadAttributes) → steps (seen_with strict) s part ≡ r
      → over (value_at SET) (seen_in strict) s text ≡ (r >>= λ t. steps (seen_with strict) t (all_of parts))
  next s text c rest part parts was is more None e = rejected (value_at SET) (seen_in strict) set_shrinks s text c rest was (is ∙ e)
  next s text c rest part parts was is more (Some t) e = goes_on (value_at SET) (seen_in strict) set_shrinks s text c
      rest was t (is ∙ e) ∙ more t

  -- the walk over a part takes a step for each of its attributes
  pub in_part : (s : ReadAttributes) (part : List Attribute) (c : List ℕ) →
      AreEncodings (attribute_format levels).encodes part c → seen_in strict s c ≡ steps (seen_with strict) s part
  unfolding over
  in_part s part c r = rw (sequence_again (attribute_format levels).read (attribute_format levels).encodes
      (alone_reads (attribute_format levels) (attribute_alone levels)) attribute_shrinks part c r) refl

  -- the walk over the parts takes a step for each attribute
  pub seen_in_parts : (parts : List (List Attribute)) (text : List ℕ) (s : ReadAttributes) →
      AreEncodings (relative_distinguished_name_format levels).encodes parts text →
      over (value_at SET) (seen_in strict) s text ≡ steps (seen_with strict) s (all_of parts)
  unfolding relative_distinguished_name_format
  seen_in_parts [] text s r = rw r (over_end (value_at SET) (seen_in strict) s)
  seen_in_parts (part ∷ parts) text s (a, b, (c, (elements, some_are), set), more, e) =
      let was : value_at SET text ≡ some {A = List ℕ × List ℕ} (c, b) = ap (value_at SET) e ∙ value_again SET c a b set in
      next s text c b part parts was (in_part s part c elements) (λ t. seen_in_parts parts b t more)
      (steps (seen_with strict) s part) refl ∙ sym (steps_append (seen_with strict) s part (all_of parts))

-- ---- one attribute more

abbrev once : Bool → ℕ
once true = 1
once false = 0

text_is : (strict : Bool) (tag : ℕ) → is_text_tag strict tag ≡ true → IsTextTag strict tag
text_is true tag e = grind arith
text_is false tag e = grind arith

is_text : (strict : Bool) (tag : ℕ) → IsTextTag strict tag → is_text_tag strict tag ≡ true
is_text true tag e = rw e refl
is_text false tag (inl e) = rw e refl
is_text false tag (inr e) = rw e refl

-- what an attribute adds to what was seen
abbrev Adds : ReadAttributes → Attribute → ReadAttributes → Type 0
Adds s x u = ((x.type_id ≡ common_name) × (s.name ≡ false) × (record s { name = true } ≡ u)) ⊎
    ((x.type_id ≡ serial_number) × (s.number ≡ false) × (record s { number = true } ≡ u))

module _ (strict : Bool) (s : ReadAttributes) (x : Attribute) where
  added : (u : ReadAttributes) → seen_with strict s x ≡ Some u → IsTextTag strict x.value_tag × Adds s x u
  added u e =
      let a = chosen (is_text_tag strict x.value_tag)
      (if bytes_eq x.type_id common_name then unseen s.name (record s { name = true })
      else (if bytes_eq x.type_id serial_number then unseen s.number (record s { number = true }) else None)) u
      e in (
        text_is strict x.value_tag a.0,
        elim (cases_Bool (bytes_eq x.type_id common_name)) [
          | inl y ↦ let b = unless_some s.name (record s { name = true }) u (rw y at a.1) in
              inl ((bytes_eq-Decides x.type_id common_name).0 y, b.0, b.1)
          | inr n ↦
              let b = chosen (bytes_eq x.type_id serial_number) (unseen s.number (record s { number = true })) u (rw n at a.1) in
              let d = unless_some s.number (record s { number = true }) u b.1 in
              inr ((bytes_eq-Decides x.type_id serial_number).0 b.0, d.0, d.1)
        ],
      )

  adds : (u : ReadAttributes) → IsTextTag strict x.value_tag → Adds s x u → seen_with strict s x ≡ Some u
  adds u t (inl (c, n, e)) = rw (is_text strict x.value_tag t, c, n) (ap some e)
  adds u t (inr (c, n, e)) = rw (is_text strict x.value_tag t, c, n) (ap some e)

-- ---- all attributes

-- what the attributes add to what was seen
record Sees (strict : Bool) (xs : List Attribute) (s t : ReadAttributes) : Type 0 where
  names : length (of_type common_name xs) + once s.name ≡ once t.name
  numbers : length (of_type serial_number xs) + once s.number ≡ once t.number
  no_other : AllByRecursion (λ a. (a.type_id ≡ common_name) ⊎ (a.type_id ≡ serial_number)) xs
  texts : AllByRecursion (λ a. IsTextTag strict a.value_tag) xs

module _ (strict : Bool) where
  more : (x : Attribute) (xs : List Attribute) (s u t : ReadAttributes) → IsTextTag strict x.value_tag → Adds s x u →
      Sees strict xs u t → Sees strict (x ∷ xs) s t
  more x xs s u t text (inl (c, n, e)) h = record {
    names = rw (c, n) (let g : length (of_type common_name xs) + 1 ≡ once t.name = rw (← e) at h.names in omega arith);
    numbers = rw c (rw (← e) at h.numbers);
    no_other = (inl c, h.no_other);
    texts = (text, h.texts);
  }
  more x xs s u t text (inr (c, n, e)) h = record {
    names = rw c (rw (← e) at h.names);
    numbers = rw (c, n) (let g : length (of_type serial_number xs) + 1 ≡ once t.number = rw (← e) at h.numbers in omega arith);
    no_other = (inr c, h.no_other);
    texts = (text, h.texts);
  }

  sees : (xs : List Attribute) (s t : ReadAttributes) → steps (seen_with strict) s xs ≡ Some t → Sees strict xs s t
  sees [] s t e =
      let same = some_is s t e in
      let name : once s.name ≡ once t.name = ap (λ (v : ReadAttributes). once v.name) same in
      let number : once s.number ≡ once t.number = ap (λ (v : ReadAttributes). once v.number) same in
      record { names = omega arith; numbers = omega arith; no_other = tt; texts = tt }
  sees (x ∷ xs) s t e =
      let a = bind_some (seen_with strict s x) (λ u. steps (seen_with strict) u xs) t e in
      let b = added strict s x a.0 a.1 in
      more x xs s a.0 t b.0 b.1 (sees xs a.0 t a.2)

  not_yet : (b : Bool) (n : ℕ) → suc n + once b ≤ 1 → (b ≡ false) × (n ≡ 0)
  not_yet true n h = let g : suc n + 1 ≤ 1 = h in absurd (omega arith)
  not_yet false n h = (refl, omega arith)

  seen : (xs : List Attribute) (s : ReadAttributes) → length (of_type common_name xs) + once s.name ≤ 1 →
      length (of_type serial_number xs) + once s.number ≤ 1
      → AllByRecursion (λ a. (a.type_id ≡ common_name) ⊎ (a.type_id ≡ serial_number)) xs →
      AllByRecursion (λ a. IsTextTag strict a.value_tag) xs
      → (t : ReadAttributes) × (steps (seen_with strict) s xs ≡ Some t)
  seen [] s names numbers types texts = (s, refl)
  seen (x ∷ xs) s names numbers (inl c, types) (text, texts) =
      let h = not_yet s.name (length (of_type common_name xs)) (rw c at names) in
      let u : ReadAttributes = record s { name = true } in
      let few : length (of_type common_name xs) + 1 ≤ 1 = omega (arith, h.1) in
      let m = seen xs u few (rw c at numbers) types texts in
      (m.0, rw (adds strict s x u text (inl (c, h.0, refl))) m.1)
  seen (x ∷ xs) s names numbers (inr c, types) (text, texts) =
      let h = not_yet s.number (length (of_type serial_number xs)) (rw c at numbers) in
      let u : ReadAttributes = record s { number = true } in
      let few : length (of_type serial_number xs) + 1 ≤ 1 = omega (arith, h.1) in
      let m = seen xs u (rw c at names) few types texts in
      (m.0, rw (adds strict s x u text (inr (c, h.0, refl))) m.1)

-- ---- a whole name

-- no attribute was seen yet
abbrev pub nothing_seen : ReadAttributes
nothing_seen = record { name = false; number = false }

once_is : (b : Bool) → once b ≡ 1 → b ≡ true
once_is true e = refl
once_is false e = let g : 0 ≡ 1 = e in let no : ⊥ = omega arith in absurd no

at_most_one : (b : Bool) → once b ≤ 1
at_most_one true = omega arith
at_most_one false = omega arith

module _ (strict : Bool) where
  attributes_are : (xs : List Attribute) (t : ReadAttributes) → steps (seen_with strict) nothing_seen xs ≡ Some t →
      t.name ≡ true → AreNameAttributes strict xs
  attributes_are xs t e named =
      let h = sees strict xs nothing_seen t e in
      let few = at_most_one t.number in
      let one : once t.name ≡ 1 = rw named refl in
      let a : length (of_type common_name xs) + 0 ≡ once t.name = h.names in
      let b : length (of_type serial_number xs) + 0 ≡ once t.number = h.numbers in
      record { one_name = omega arith; few_numbers = omega arith; no_other = h.no_other; texts = h.texts }

  are_attributes : (xs : List Attribute) → AreNameAttributes strict xs →
      (t : ReadAttributes) × (steps (seen_with strict) nothing_seen xs ≡ Some t) × (t.name ≡ true)
  are_attributes xs h =
      let one : length (of_type common_name xs) ≡ 1 = h.one_name in
      let few : length (of_type serial_number xs) ≤ 1 = h.few_numbers in
      let a : length (of_type common_name xs) + 0 ≤ 1 = omega arith in
      let b : length (of_type serial_number xs) + 0 ≤ 1 = omega arith in
      let m = seen strict xs nothing_seen a b h.no_other h.texts in
      let g = sees strict xs nothing_seen m.0 m.1 in
      let names : length (of_type common_name xs) + 0 ≡ once m.0.name = g.names in
      (m.0, m.1, once_is m.0.name (omega arith))

  module _ (name c rest : List ℕ) (was : value_at SEQUENCE name ≡ some {A = List ℕ × List ℕ} (c, rest)) where
    elements : (parts : List (List Attribute)) → (rdn_sequence_format levels).encodes parts name →
        over (value_at SET) (seen_in strict) nothing_seen c ≡ steps (seen_with strict) nothing_seen (all_of parts)
    unfolding rdn_sequence_format
    elements parts (content, are, sequence) =
        let whole : value_at SEQUENCE name ≡ some {A = List ℕ × List ℕ} (content, []) =
        ap (value_at SEQUENCE) (sym (append-nil name)) ∙ value_again SEQUENCE content name [] sequence in
        let same : content ≡ c = (both_are {A = List ℕ} {B = List ℕ} (content, []) (c, rest) (sym whole ∙ was)).0 in
        seen_in_parts strict parts c nothing_seen
        (subst (λ (b : List ℕ). AreEncodings (relative_distinguished_name_format levels).encodes parts b) same
        are)

    -- a name that passes the walk with a CommonName has the form of the RPKI
    pub form_is : (t : ReadAttributes) → IsName name name → over (value_at SET) (seen_in strict) nothing_seen c ≡
        Some t → t.name ≡ true → IsRpkiName strict name
    unfolding name_format
    form_is t ((parts, are), kept) e named =
        record {
          parts = parts;
          parts_are = are;
          attributes_are =
              attributes_are (all_of parts) t (sym (elements parts are) ∙ e) named;
        }

    is_form : IsRpkiName strict name →
        (t : ReadAttributes) × (over (value_at SET) (seen_in strict) nothing_seen c ≡ Some t) × (t.name ≡ true)
    is_form h = let m = are_attributes (all_of h.parts) h.attributes_are in (m.0, elements h.parts h.parts_are ∙ m.1, m.2)

    -- a name of the form of the RPKI passes the walk with a CommonName
    pub form_named : (t : ReadAttributes) → over (value_at SET) (seen_in strict) nothing_seen c ≡ Some t →
        IsRpkiName strict name → t.name ≡ true
    form_named t e h = let m = is_form h in ap (λ s. s.name) (some_is t m.0 (sym e ∙ m.1)) ∙ m.2

    -- and where the walk ends in nothing, the name isn't of that form
    pub no_form : over (value_at SET) (seen_in strict) nothing_seen c ≡ None → IsRpkiName strict name → ⊥
    no_form e h = let m = is_form h in nothing m.0 (sym e ∙ m.1)

  -- a Name is a SEQUENCE
  pub is_sequence : (name : List ℕ) → IsName name name → value_at SEQUENCE name ≡ None → ⊥
  is_sequence name n e =
      let s = name_sequence _ n in
      let whole : value_at SEQUENCE name ≡ some {A = List ℕ × List ℕ} (s.content, []) =
      ap (value_at SEQUENCE) (sym (append-nil name)) ∙ value_again SEQUENCE s.content name [] s.sequence in
      nothing {B = ⊥} (s.content, []) (sym e ∙ whole)
