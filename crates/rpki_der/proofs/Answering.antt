-- Both directions of a reader, from what it gives.
use Rattle.std.proofs.Common.{◌≡◌, ◌≢◌, ℕ, List, [], Option, None, Result, Ok, Err, refl, sym, ◌∙◌}
use Rattle.std.proofs.lemmas.List.{append-nil}
use Rattle.rpki_der.specs.declared.error.DecodeError.{DecodeError}
use Rattle.rpki_der.specs.declared.error.DecodeError.TheVariants.{Memory}
use Rattle.rpki_der.specs.Values.{AreOctets}
use Rattle.rpki_der.specs.Encoding.{Begins, Means}
use Rattle.rpki_der.specs.Reading.{Reads}
use Rattle.rpki_der.specs.Place.{Place, remaining, Rejects, ReadsFrontBy, ReadsFrontOrMemoryBy, MeansOrMemoryBy}
use Rattle.rpki_der.specs.Place.Reading.{TookBy, TookOrMemoryBy, ReturnsBy, ReturnsOrMemoryBy}
use Rattle.rpki_der.proofs.Octets.{some, nothing}
use Rattle.rpki_der.proofs.Readings.{one_reading}

-- ---- refusals that may mean `out of memory`

-- what a refusal says may be weakened
pub rejects : {P Q : Type 0} (d : DecodeError) → (P → Q) → Rejects d P → Rejects d Q
rejects Memory f h = h
rejects _ f h = f h

-- nothing else remains
pub memory_alone : {P : Type 0} (d : DecodeError) → Rejects d P → (P → ⊥) → d ≡ Memory
memory_alone Memory h none = refl
memory_alone _ h none = absurd (none h)

-- what is true may stand behind any error
pub certainly : {P : Type 0} (d : DecodeError) → P → Rejects d P
certainly Memory h = tt
certainly _ h = h

-- an error that is passed on says of a reading what it said before
pub passed_on : {X Y : Type 0} (view : X → Y) (r : Result X DecodeError) (d : DecodeError) (o : Option Y) →
    r ≡ Err d → Rejects d (o ≡ None) → ReturnsOrMemoryBy view r o
passed_on view (Ok x) d o e h = absurd cc
passed_on view (Err f) d o e h = let same : f ≡ d = cc in rw same h

-- an error that is passed on, where nothing is read
pub took_none : {X Y : Type 0} (view : X → Y) (read : List ℕ → Option (Y × List ℕ)) (old : Place)
    (r : Result X DecodeError) (new : Place) (d : DecodeError) → r ≡ Err d → d ≢ Memory →
    read (remaining old) ≡ None → TookBy view read old r new
took_none view read old (Ok x) new d same other none = absurd cc
took_none view read old (Err f) new d same other none = let e : f ≡ d = cc in (rw e other, none)

-- an error where reading gives nothing is a reader's answer, out of memory or not
pub took_none_or_memory : {X Y : Type 0} (view : X → Y) (read : List ℕ → Option (Y × List ℕ)) (old : Place)
    (r : Result X DecodeError) (new : Place) (d : DecodeError) → r ≡ Err d → read (remaining old) ≡ None →
    TookOrMemoryBy view read old r new
took_none_or_memory view read old (Ok x) new d same none = absurd cc
took_none_or_memory view read old (Err f) new d same none = certainly f none

-- an error other than Memory is a function's answer where reading gives nothing
pub gives_none : {X Y : Type 0} (view : X → Y) (r : Result X DecodeError) (d : DecodeError) (o : Option Y) →
    r ≡ Err d → d ≢ Memory → o ≡ None → ReturnsBy view r o
gives_none view (Ok x) d o same other none = absurd cc
gives_none view (Err f) d o same other none = let e : f ≡ d = cc in (rw e other, none)

-- ---- from a reading function to its relation

no_front : {Y : Type 0} (read : List ℕ → Option (Y × List ℕ)) (encodes : Y → List ℕ → Type 0) → Reads read encodes →
    (octets : List ℕ) → read octets ≡ None → (y : Y) (rest : List ℕ) → Begins encodes octets y rest → ⊥
no_front {Y} read encodes law octets e y rest b =
    let one : read octets ≡ some {A = Y × List ℕ} (y, rest) = rw b.parts (law.again y b.text rest b.encoded) in
    nothing {B = ⊥} (y, rest) (sym e ∙ one)

-- a reader that takes what a lawful reading function gives answers both ways
pub answers : {X Y : Type 0} (view : X → Y) (read : List ℕ → Option (Y × List ℕ)) (encodes : Y → List ℕ → Type 0) → Reads read encodes
    → (old : Place) (r : Result X DecodeError) (new : Place) → AreOctets (remaining old) →
    TookBy view read old r new → ReadsFrontBy view encodes old r new
answers view read encodes law old (Ok x) new fits e = law.takes (remaining old) (view x) (remaining new) fits e
answers view read encodes law old (Err d) new fits e = (e.0, no_front read encodes law (remaining old) e.1)

-- a reader that may run out of memory, and takes what such a function gives, answers both ways
pub answers_or_memory : {X Y : Type 0} (view : X → Y) (read : List ℕ → Option (Y × List ℕ)) (encodes : Y → List ℕ →
    Type 0) → Reads read encodes
    → (old : Place) (r : Result X DecodeError) (new : Place) → AreOctets (remaining old) →
    TookOrMemoryBy view read old r new → ReadsFrontOrMemoryBy view encodes old r new
answers_or_memory view read encodes law old (Ok x) new fits e = law.takes (remaining old) (view x) (remaining new) fits e
answers_or_memory view read encodes law old (Err d) new fits e = rejects d (no_front read encodes law (remaining old)) e

-- ---- whole octets

-- a reader at their beginning tells what they mean
pub front_means : {X Y : Type 0} (view : X → Y) (encodes : Y → List ℕ → Type 0) (old new : Place)
    (r : Result X DecodeError) (octets : List ℕ)
    → remaining old ≡ octets → ReadsFrontOrMemoryBy view encodes old r new → MeansOrMemoryBy view (Means encodes) r octets
front_means view encodes old new (Ok x) octets e a = (remaining new, record { text = a.text; encoded = a.encoded; parts = sym e ∙ a.parts })
front_means view encodes old new (Err d) octets e a =
    rejects d (λ none y m. none y m.0 (record { text = m.1.text; encoded = m.1.encoded; parts = e ∙ m.1.parts })) a

-- what they encode they mean
pub whole_means : {V : Type 0} (encodes : V → List ℕ → Type 0) (v : V) (octets : List ℕ) → encodes v octets → Means encodes v octets
whole_means encodes v octets s = ([], record { text = octets; encoded = s; parts = sym (append-nil octets) })

-- where something stands behind a value at their front, they encode none
pub none_encoded : {V : Type 0} (read : List ℕ → Option (V × List ℕ)) (encodes : V → List ℕ → Type 0) → Reads read encodes
    → (v w : V) (found octets rest : List ℕ) → found ≡ octets → rest ≢ [] → Begins encodes found v rest → encodes w octets → ⊥
none_encoded read encodes law v w found octets rest same behind b s =
    behind (one_reading read encodes law found v w rest [] b
    (record { text = octets; encoded = s; parts = same ∙ sym (append-nil octets) })).1

-- where a reader at their beginning refuses, and that is passed on, they encode none
pub all_rejected : {X Y : Type 0} (view : X → Y) (encodes : Y → List ℕ → Type 0) (r : Result X DecodeError)
    (d : DecodeError) (found octets : List ℕ)
    → found ≡ octets → r ≡ Err d → Rejects d ((y : Y) (rest : List ℕ) → Begins encodes found y rest → ⊥) →
    MeansOrMemoryBy view encodes r octets
all_rejected view encodes (Ok x) d found octets same passed none = absurd cc
all_rejected view encodes (Err e) d found octets same passed none =
    let is : e ≡ d = cc in
    rw is (rejects d (λ not y s. not y [] (record { text = octets; encoded = s; parts = same ∙ sym (append-nil octets) })) none)
