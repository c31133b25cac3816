-- What readers answer, as places from which they went on, and stops.
use Rattle.std.specs.Prelude.{IfErr, IfOk, IsOk, MatchResult, OnOk, Some, None, Result, Ok, Err}
use Rattle.std.proofs.Common.{◌≡◌, ◌≢◌, ◌≤◌, ◌<◌, ◌+◌, ◌-◌, ℕ, zero, suc, List, [], ◌∷◌, ◌++◌, inl, inr, length, take}
use Rattle.std.proofs.Common.{drop, get_or, slice_range, refl, sym, ap, subst, ◌∙◌, append_assoc, arith}
use Rattle.std.proofs.lemmas.Bool.{false≢true}
use Rattle.std.proofs.lemmas.List.{append-nil, take-append-drop, take-take, take_more}
use Rattle.std.proofs.Math.Nat.{eq-or-lt_of_le}
use Rattle.std.proofs.lemmas.List.Edits.{length-between}
use Rattle.bytes.proofs.Ranges.{drop-slice_range}
use Rattle.rpki_der.specs.declared.error.DecodeError.{DecodeError}
use Rattle.rpki_der.specs.declared.error.DecodeError.TheVariants as decoding
use Rattle.rpki_der.specs.Encoding.{Begins}
use Rattle.rpki_der.specs.Formats.{Format}
use Rattle.rpki_der.specs.Place.{Place, EndsAt, IsWithin, Keeps, MovesOn, ReadsFrontBy, ReadsFrontOrMemoryBy, Rejects, remaining}
use Rattle.rpki_crl.specs.RevokedEntries.{AreEntries, Entry, Revoked, no_entries, revoked_format}
use Rattle.rpki_der.specs.Sequences.{AreEncodings}
use Rattle.rpki_der.specs.Tags.{SEQUENCE}
use Rattle.rpki_der.specs.Values.{IsEnc}
use Rattle.rpki_der.proofs.Answering.{certainly, rejects}
use Rattle.rpki_der.proofs.Choices.{enc_begins}
use Rattle.rpki_der.proofs.Places.{cut}
use Rattle.rpki_files.specs.StopPlaces.{AnswersWhether, AreFields, BeginsWithNo, EncodesSome, IsField, IsStop, Opens}
use Rattle.rpki_files.specs.StopPlaces.{Passes, StopsAmong, StopsBefore}
use Rattle.rpki_files.specs.declared.expected.Field.{Field}
use Rattle.rpki_files.specs.declared.expected.Part.{Part}
use Rattle.rpki_files.specs.declared.expected.Part.TheVariants as part
use Rattle.rpki_files.specs.declared.places.Stop.{Stop}
use Rattle.rpki_files.specs.declared.places.Stop.TheVariants.{At, Memory}

-- ---- from one place to the next

-- what a reader took stands from its place to the next one
pub took : (Is : List ℕ → Type 0) (old new : Place) (text : List ℕ) → old.from ≤ old.to → old.to ≤ length old.source →
    new.from ≤ new.to → MovesOn old new
    → Is text → remaining old ≡ text ++ remaining new → Passes Is old new
took Is old new text order within later moves is parts =
    let c = cut old.source old.from old.to text (remaining new) order within parts in
    let same : length new.source ≡ length old.source = ap length moves.source in
    let inside : new.to ≤ length new.source = omega (arith, same, moves.to, within) in
    let long : length (remaining new) ≡ new.to - new.from = length-between new.source new.from new.to inside in
    let end : new.from ≡ old.from + length text = omega (arith, c.fits, long, moves.to, later) in
    record {
      text = subst Is (sym (ap (λ (n : ℕ). slice_range old.source old.from n) end ∙ c.front)) is;
      moves = moves;
      order = later;
      within = inside;
    }

-- a slice is two, cut between them
slices : (xs : List ℕ) (a b c : ℕ) → a ≤ b → b ≤ c → slice_range xs a b ++ slice_range xs b c ≡ slice_range xs a c
slices xs a b c low high =
    let k = b - a in
    let all = slice_range xs a c in
    let front : take k all ≡ slice_range xs a b = take-take k (c - a) (drop a xs) (omega arith) in
    let there : a + k ≡ b = omega arith in
    let back : drop k all ≡ slice_range xs b c = drop-slice_range xs a c k (omega arith) ∙ ap (λ (n : ℕ). slice_range xs n c) there in
    ap (λ (l : List ℕ). l ++ slice_range xs b c) (sym front) ∙ ap (λ (l : List ℕ). take k all ++ l) (sym back) ∙ take-append-drop k all

-- an empty slice
no_slice : (xs : List ℕ) (a : ℕ) → slice_range xs a a ≡ []
no_slice xs a = let none : a - a ≡ 0 = omega arith in ap (λ (n : ℕ). take n (drop a xs)) none

-- nothing stands between a place and itself
pub stays : (Is : List ℕ → Type 0) (at : Place) → at.from ≤ at.to → at.to ≤ length at.source → Is [] → Passes Is at at
stays Is at order within is = record {
  text = subst Is (sym (no_slice at.source at.from)) is;
  moves = record { source = refl; to = refl; from = omega arith };
  order = order;
  within = within;
}

-- one text and then another
pub goes_on : (A B C : List ℕ → Type 0) (at mid next : Place) → ((a b : List ℕ) → A a → B b → C (a ++ b)) →
    Passes A at mid → Passes B mid next → Passes C at next
goes_on A B C at mid next both p q =
    let second : B (slice_range at.source mid.from next.from) =
    subst (λ (s : List ℕ). B (slice_range s mid.from next.from)) p.moves.source q.text in
    record {
      text = subst C (slices at.source at.from mid.from next.from p.moves.from q.moves.from) (both _ _ p.text second);
      moves = record {
        source = q.moves.source ∙ p.moves.source;
        to = q.moves.to ∙ p.moves.to;
        from =
            omega (arith, p.moves.from, q.moves.from);
      };
      order = q.order;
      within = q.within;
    }

-- a text that has one form has another
pub passes_so : (A B : List ℕ → Type 0) (at next : Place) → ((a : List ℕ) → A a → B a) → Passes A at next → Passes B at next
passes_so A B at next so p = record { text = so _ p.text; moves = p.moves; order = p.order; within = p.within }

-- what was passed over up to the end is all that was there
pub passed_all : (Is : List ℕ → Type 0) (at next : Place) → Passes Is at next → next.from ≡ next.to → Is (remaining at)
passed_all Is at next p end = subst (λ (n : ℕ). Is (slice_range at.source at.from n)) (end ∙ p.moves.to) p.text

-- no octets remain of a place at its end, and some before
pub at_end : (at : Place) → at.from ≤ at.to → at.to ≤ length at.source → remaining at ≡ [] → at.from ≡ at.to
at_end at order within none =
    let long : length (remaining at) ≡ at.to - at.from = length-between at.source at.from at.to within in
    omega (arith, long, ap length none, order)

pub not_at_end : (at : Place) → at.from ≤ at.to → (remaining at ≡ [] → ⊥) → at.from < at.to
not_at_end at order some =
    elim (eq-or-lt_of_le order) [
      | inl same ↦ absurd (some (ap (λ (n : ℕ). slice_range at.source at.from n) (sym same) ∙ no_slice at.source at.from))
      | inr lt ↦ lt
    ]

-- ---- sequences

-- one more field
pub fields_more : (fields : List Field) (f : Field) (a b : List ℕ) → AreFields fields a → IsField f b →
    AreFields (fields ++ f ∷ []) (a ++ b)
fields_more [] f a b are is = (b, [], is, refl, ap (λ (l : List ℕ). l ++ b) are ∙ sym (append-nil b))
fields_more (g ∷ fields) f a b (c, d, first, rest, e) is =
    (c, d ++ b, first, fields_more fields f d b rest is, ap (λ (l : List ℕ). l ++ b) e ∙ append_assoc c d b)

-- one more encoding
pub encodings_more : {V : Type 0} (encodes : V → List ℕ → Type 0) (vs : List V) (v : V) (a b : List ℕ) →
    AreEncodings encodes vs a → encodes v b → AreEncodings encodes (vs ++ v ∷ []) (a ++ b)
encodings_more encodes [] v a b are is = (b, [], is, refl, ap (λ (l : List ℕ). l ++ b) are ∙ sym (append-nil b))
encodings_more encodes (w ∷ vs) v a b (c, d, first, rest, e) is =
    (c, d ++ b, first, encodings_more encodes vs v d b rest is, ap (λ (l : List ℕ). l ++ b) e ∙ append_assoc c d b)

-- a list is what stands before an element, that, and the rest
pub around : {X : Type 0} (xs : List X) (i : ℕ) (d : X) → i < length xs → xs ≡ take i xs ++ get_or xs i d ∷ drop (i + 1) xs
around {X} [] i d low = absurd (omega arith)
around {X} (x ∷ xs) zero d low = refl
around {X} (x ∷ xs) (suc i) d low = let on : suc i + 1 ≡ suc (i + 1) = omega arith in
    rw on (ap (λ (l : List X). x ∷ l) (around xs i d (omega arith)))

-- ---- answers

-- a reader of a format, without its value
pub read_or_memory : {X Y : Type 0} (view : X → Y) (f : Format Y) (old new : Place) (r : Result X DecodeError)
    (s : Result (Unit {0}) DecodeError)
    → ReadsFrontOrMemoryBy view f.encodes old r new → Keeps r old new → MatchResult r (λ _. IsOk s) (λ e. s ≡ Err e) →
    AnswersWhether (EncodesSome f) old s new
read_or_memory view f old new (Ok x) (Ok u) a k h = (a.text, (view x, a.encoded), a.parts, k)
read_or_memory view f old new (Ok x) (Err e) a k h = absurd (false≢true h)
read_or_memory view f old new (Err e) s a k h =
    let none : Rejects e (BeginsWithNo (EncodesSome f) (remaining old)) =
    rejects e (λ no text rest is parts. no is.0 rest (record { text = text; encoded = is.1; parts = parts }))
    a in
    subst (λ (t : Result (Unit {0}) DecodeError). AnswersWhether (EncodesSome f) old t new) (sym h) none

-- of a reader that takes no memory
pub read_surely : {X Y : Type 0} (view : X → Y) (f : Format Y) (old new : Place) (r : Result X DecodeError)
    (s : Result (Unit {0}) DecodeError)
    → ReadsFrontBy view f.encodes old r new → Keeps r old new → MatchResult r (λ _. IsOk s) (λ e. s ≡ Err e) →
    AnswersWhether (EncodesSome f) old s new
read_surely view f old new (Ok x) s a k h = read_or_memory view f old new (Ok x) s a k h
read_surely view f old new (Err e) s a k h = read_or_memory view f old new (Err e) s (certainly e a.1) k h

-- of a reader whose value isn't any
pub read_itself : (f : Format (Unit {0})) (old new : Place) (r : Result (Unit {0}) DecodeError) →
    ReadsFrontBy (λ x. x) f.encodes old r new → Keeps r old new → AnswersWhether (EncodesSome f) old r new
read_itself f old new (Ok u) a k = read_surely (λ x. x) f old new (Ok u) (Ok u) a k refl
read_itself f old new (Err e) a k = read_surely (λ x. x) f old new (Err e) (Err e) a k refl

-- ---- stops

-- a stop for a fault other than of memory
pub stops_for : (P : Part → ℕ → Type 0) (wanted : Part) (octet : ℕ) (fault : DecodeError) (s : Stop) →
    IsStop (λ stop from. (stop ≡ wanted) × (from ≡ octet) × (fault ≢ decoding.Memory)) s
    → (fault ≢ decoding.Memory → P wanted octet) → IsStop P s
stops_for P wanted octet fault (At stop from) is so = subst (λ (p : Part). P p from) (sym is.0) (subst (P wanted) (sym is.1) (so is.2))
stops_for P wanted octet fault Memory is so = tt

-- a stop of one sort is one of another
pub stops_so : (P Q : Part → ℕ → Type 0) (s : Stop) → IsStop P s → ((stop : Part) (octet : ℕ) → P stop octet → Q stop octet) → IsStop Q s
stops_so P Q (At stop octet) is so = so stop octet is
stops_so P Q Memory is so = tt

-- an answer that is passed on
pub errs_so : {X : Type 0} (P Q : Part → ℕ → Type 0) (r : Result X Stop) → IfErr r (IsStop P) →
    ((stop : Part) (octet : ℕ) → P stop octet → Q stop octet) → IfErr r (IsStop Q)
errs_so P Q (Ok x) is so = tt
errs_so P Q (Err s) is so = stops_so P Q s is so

-- an error that is passed on is a stop of another sort
pub passed : {X : Type 0} (P Q : Part → ℕ → Type 0) (r : Result X Stop) (s : Stop) → r ≡ Err s → IsStop P s →
    ((stop : Part) (octet : ℕ) → P stop octet → Q stop octet) → IfErr r (IsStop Q)
passed {X} P Q r s same is so = subst (λ (t : Result X Stop). IfErr t (IsStop Q)) (sym same) (stops_so P Q s is so)

-- ---- fields, one after the other

module _ (fields : List Field) (i : ℕ) (d : Field) (old mid : Place) (low : i < length fields)
    (read : Passes (AreFields (take i fields)) old mid) where
  -- one more was read
  pub field_read : (new : Place) → Passes (IsField (get_or fields i d)) mid new → Passes (AreFields (take (i + 1) fields)) old new
  field_read new p =
      let here = get_or fields i d in
      let more = goes_on (AreFields (take i fields)) (IsField here) (AreFields (take i fields ++ here ∷ [])) old mid
      new (λ a b are is. fields_more (take i fields) here a b are is) read p in
      subst (λ (fs : List Field). Passes (AreFields fs) old new) (sym (take_more fields i d low)) more

  -- the next one isn't there
  pub field_stops : (stop : Part) (octet : ℕ) →
      StopsBefore (IsField (get_or fields i d)) (part.Field (get_or fields i d)) mid stop octet →
      StopsAmong fields old stop octet
  field_stops stop octet s = record {
    before = take i fields;
    here = get_or fields i d;
    behind = drop (i + 1) fields;
    next = mid;
    are = around fields i d low;
    read = read;
    stops = s;
  }

-- ---- revoked certificates

-- entries in their SEQUENCE, and none
pub entries_are : (es : List Entry) (content text : List ℕ) → AreEntries es content → IsEnc SEQUENCE content text →
    EncodesSome revoked_format text
unfolding revoked_format
entries_are es content text are enc =
    let r : Revoked = record { entries = es; octets = content } in
    (r, (Some r, (content, (are, refl), enc), refl))

pub no_entries_are : EncodesSome revoked_format []
unfolding revoked_format
no_entries_are = (no_entries, (None, refl, refl))

-- an answer that is well
pub oks_so : {X E : Type 0} (P Q : Type 0) (r : Result X E) → OnOk r P → (P → Q) → OnOk r Q
oks_so P Q (Ok x) p so = so p
oks_so P Q (Err e) p so = tt

-- ---- values that are opened

pub opens_at : (tag : ℕ) (old inner new : Place) → old.from ≤ old.to → old.to ≤ length old.source →
    new.from ≤ new.to → inner.from ≤ inner.to → MovesOn old new → IsWithin inner old → EndsAt inner new
    → Begins (IsEnc tag) (remaining old) (remaining inner) (remaining new) → Opens tag old inner new
opens_at tag old inner new order within later inner_order moves inside ends begins = record {
  value = took (IsEnc tag (remaining inner)) old new begins.text order within later moves begins.encoded begins.parts;
  inside = inside;
  ends = ends;
  order = inner_order;
}

-- an answer of which one thing is said, of which another is
pub values_so : {X E : Type 0} (P Q : X → Type 0) (r : Result X E) → IfOk r P → ((x : X) → P x → Q x) → IfOk r Q
values_so P Q (Ok x) p so = so x p
values_so P Q (Err e) p so = tt

-- an answer where it holds anyway
pub holds_anyway : {X E : Type 0} (P : Type 0) (r : Result X E) → P → OnOk r P
holds_anyway P (Ok x) p = p
holds_anyway P (Err e) p = tt

-- such a value has octets
pub opens_some : (tag : ℕ) (at inner next : Place) → Opens tag at inner next → next.from ≡ at.from → ⊥
opens_some tag at inner next opens same =
    let begins = enc_begins tag (remaining inner) (slice_range at.source at.from next.from) opens.value.text in
    let none : slice_range at.source at.from next.from ≡ [] = ap (λ (n : ℕ). slice_range at.source at.from n) same ∙
    no_slice at.source at.from in
    let clash : [] ≡ tag ∷ begins.0 = sym none ∙ begins.1 in
    cc
