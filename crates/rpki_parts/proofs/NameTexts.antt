-- A text that is written piece by piece, and the values of a sequence one after the other.
use Rattle.std.specs.Prelude.{◌&&◌, not, nat_lt, if◌then◌else◌}
use Rattle.std.proofs.Common.{◌≡◌, ℕ, zero, suc, Bool, true, false, ◌<◌, ◌≤◌, List, [], ◌∷◌, ◌++◌, length, Option}
use Rattle.std.proofs.Common.{Some, None, refl, sym, ap, ◌∙◌, append_assoc, arith}
use Rattle.std.proofs.lemmas.List.{append-nil}
use Rattle.std.proofs.Output.{has_written_append, has_written_of_eq, writes_in_calls_nil}
use Rattle.std.specs.Fmt.{HasWritten, IsPlainFormatter}
use Rattle.std.specs.declared.fmt.Formatter.{Formatter}
use Rattle.rpki_der.specs.Sequences.Reading.{Shrinks}
use Rattle.rpki_der.specs.Tags.{SEQUENCE}
use Rattle.rpki_der.specs.Primitives.Reading.{oid_at}
use Rattle.rpki_der.specs.Values.Reading.{◌>>=◌}
use Rattle.rpki_der.proofs.Choices.{content_shrinks}
use Rattle.rpki_der.proofs.Octets.{some}
use Rattle.rpki_parts.specs.NameTexts.{or_nothing, attribute_value_at, separated, with_octet, ended_with, number_text, numbers_text}
use Rattle.rpki_parts.specs.NameTexts.Reading.{values_at, values_in}

-- ---- a text piece by piece

module _ {W : Type 0} (took : W → List ℕ → W → Type 0) where
  -- of the text, f was left with more still to be written, when g stands
  abbrev pub IsPartWritten : Formatter W → List ℕ → Formatter W → List ℕ → Type 0
  IsPartWritten f text g more = (done : List ℕ) × HasWritten took f done g × (done ++ more ≡ text)

  pub nothing_written : (f : Formatter W) (text : List ℕ) → IsPlainFormatter f → IsPartWritten f text f text
  nothing_written f text plain = ([], record { wrote = writes_in_calls_nil took f.writer; plain = plain }, refl)

  pub piece_written : (f : Formatter W) (text : List ℕ) (g : Formatter W) (piece more : List ℕ) (h : Formatter W) →
      IsPartWritten f text g (piece ++ more) → HasWritten took g piece h → IsPartWritten f text h more
  piece_written f text g piece more h (done, wrote, e) next =
      (done ++ piece, has_written_append took f done g piece h wrote next, append_assoc done piece more ∙ e)

  pub all_written : (f : Formatter W) (text : List ℕ) (g : Formatter W) (more : List ℕ) →
      IsPartWritten f text g more → more ≡ [] → HasWritten took f text g
  all_written f text g more (done, wrote, e) end =
      has_written_of_eq took f done text g (sym (append-nil done) ∙ ap (λ (l : List ℕ). done ++ l) (sym end) ∙ e)
      wrote

  -- one more of texts with separators
  pub text_written : (f : Formatter W) (text : List ℕ) (g : Formatter W) (before between one : List ℕ)
      (more : List (List ℕ)) (h i : Formatter W)
      → IsPartWritten f text g (separated before between (one ∷ more)) →
      (IsPlainFormatter g → HasWritten took g before h) → (IsPlainFormatter h → HasWritten took h one i)
      → IsPartWritten f text i (separated between between more)
  text_written f text g before between one more h i so_far first second =
      let a = piece_written f text g before (one ++ separated between between more) h so_far (first so_far.1.plain) in
      piece_written f text h one (separated between between more) i a (second a.1.plain)

-- ---- the values of a sequence

-- reading an attribute uses octets up
pub attribute_value_shrinks : Shrinks attribute_value_at
unfolding attribute_value_at
attribute_value_shrinks = content_shrinks SEQUENCE oid_at

-- two ways to go on that agree after what was read
same_values : {X : Type 0} (r : Option (X × List ℕ)) (f g : List ℕ → List X) → ((x : X × List ℕ) → r ≡ Some x → f x.1 ≡ g x.1)
    → or_nothing (r >>= λ x. Some (x.0 ∷ f x.1)) ≡ or_nothing (r >>= λ x. Some (x.0 ∷ g x.1))
same_values (Some x) f g h = rw (h x refl) refl
same_values None f g h = refl

module _ {X : Type 0} (read : List ℕ → Option (X × List ℕ)) (less : Shrinks read) where
  none_of_none : (n : ℕ) (octets : List ℕ) → read octets ≡ None → values_at read n octets ≡ []
  none_of_none zero octets e = refl
  none_of_none (suc n) octets e = rw e refl

  -- no value stands there
  pub no_values : (octets : List ℕ) → read octets ≡ None → values_in read octets ≡ []
  unfolding values_in
  no_values octets e = none_of_none (length octets) octets e

  -- where no octets are left, there is no value
  at_end : (r : Option (X × List ℕ)) (f : List ℕ → List X) (octets : List ℕ) → read octets ≡ r → length octets ≤ 0 →
      or_nothing (r >>= λ x. Some (x.0 ∷ f x.1)) ≡ []
  at_end (Some x) f octets e p = let s : length x.1 < length octets = less octets x.0 x.1 e in absurd (omega arith)
  at_end None f octets e p = refl

  -- a greater bound changes nothing
  pub enough_values : (n m : ℕ) (octets : List ℕ) → length octets ≤ n → length octets ≤ m →
      values_at read n octets ≡ values_at read m octets
  enough_values zero zero octets p q = refl
  enough_values zero (suc m) octets p q = sym (at_end (read octets) (values_at read m) octets refl p)
  enough_values (suc n) zero octets p q = at_end (read octets) (values_at read n) octets refl q
  enough_values (suc n) (suc m) octets p q =
      same_values (read octets) (values_at read n) (values_at read m)
      (λ x e. let s : length x.1 < length octets = less octets x.0 x.1 e in enough_values n m x.1 (omega arith) (omega arith))

  -- a value, and the values after it
  pub one_value : (octets : List ℕ) (x : X) (rest : List ℕ) → read octets ≡ some {A = X × List ℕ} (x, rest) →
      values_in read octets ≡ x ∷ values_in read rest
  unfolding values_in
  one_value octets x rest e = first (length octets) refl
    where
      first : (n : ℕ) → n ≡ length octets → values_at read n octets ≡ x ∷ values_at read (length rest) rest
      first zero h = let s : length rest < length octets = less octets x rest e in absurd (omega arith)
      first (suc n) h =
          let s : length rest < length octets = less octets x rest e in
          rw e (ap (λ (xs : List X). x ∷ xs) (enough_values n (length rest) rest (omega arith) (omega arith)))

-- ---- types

-- what ends with one octet is written before the others
pub numbers_split : (is_first : Bool) (number octet : ℕ) (ns : List ℕ)
    → numbers_text is_first (ended_with number octet ++ ns) ≡ numbers_text is_first (ended_with number octet) ++
    numbers_text (is_first && not (nat_lt octet 128)) ns
numbers_split is_first number octet ns = by_end is_first (with_octet number octet) ns (nat_lt octet 128)
  where
    by_end : (is_first : Bool) (n : ℕ) (ns : List ℕ) (ends : Bool)
        → numbers_text is_first ((if ends then n ∷ [] else []) ++ ns) ≡
        numbers_text is_first (if ends then n ∷ [] else []) ++ numbers_text (is_first && not ends) ns
    by_end true n ns true = ap (λ (l : List ℕ). l ++ numbers_text false ns) (sym (append-nil (number_text true n)))
    by_end false n ns true = ap (λ (l : List ℕ). l ++ numbers_text false ns) (sym (append-nil (number_text false n)))
    by_end true n ns false = refl
    by_end false n ns false = refl
