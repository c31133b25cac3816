-- Turns at values of DER that were taken stand in the octets, and those that stand there are taken;
-- the first of a table.
use Rattle.std.specs.Prelude.{if◌then◌else◌, IsTrue, bytes_eq, Option, Some, None}
use Rattle.std.proofs.Common.{◌≡◌, ◌↔◌, ◌<◌, ◌+◌, ℕ, zero, suc, true, List, [], ◌∷◌, ◌++◌, length, take, drop, get_or}
use Rattle.std.proofs.Common.{refl, sym, ap, subst, ◌∙◌, inl, inr, arith}
use Rattle.std.proofs.lemmas.List.{at_drop_more}
use Rattle.std.proofs.lemmas.Slice.Eq.{bytes_eq-Decides}
use Rattle.rpki_der.specs.Encoding.{Begins}
use Rattle.rpki_der.specs.Tags.{OBJECT_IDENTIFIER}
use Rattle.rpki_der.specs.Values.{AreOctets, IsEnc}
use Rattle.rpki_der.specs.Values.Reading.{◌>>=◌, value_at}
use Rattle.rpki_der.proofs.Octets.{AreOctets-after, bind_some, if_some, nothing, some_is}
use Rattle.rpki_der.proofs.ValueReads.{value_reads}
use Rattle.rpki_files.specs.FileSorts.{BeginSo, IsFirstHaving, type_octets}
use Rattle.rpki_files.specs.FileSorts.Reading.{turned, all_turned}
use Rattle.rpki_files.specs.declared.sorts.Turn.{Turn}
use Rattle.rpki_files.specs.declared.sorts.Turn.TheVariants.{Over, Into, Named}

-- ---- turns

-- what was taken stands there
turns_take : (turns : List Turn) (octets rest : List ℕ) → AreOctets octets → all_turned turns octets ≡ Some rest → BeginSo turns octets
unfolding turned
turns_take [] octets rest fits e = tt
turns_take (Over tag ∷ turns) octets rest fits e =
    let r = bind_some (value_at tag octets >>= λ v. Some v.1) (λ (r : List ℕ). all_turned turns r) rest e in
    let v = bind_some (value_at tag octets) (λ (v : List ℕ × List ℕ). Some v.1) r.0 r.1 in
    let begins = (value_reads tag).takes octets v.0.0 v.0.1 fits v.1 in
    let more = ap (all_turned turns) (some_is v.0.1 r.0 v.2) ∙ r.2 in
    (v.0.0, v.0.1, begins, turns_take turns v.0.1 rest (AreOctets-after octets begins.text v.0.1 begins.parts fits) more)
turns_take (Into tag ∷ turns) octets rest fits e =
    let r = bind_some (value_at tag octets >>= λ v. Some v.0) (λ (r : List ℕ). all_turned turns r) rest e in
    let v = bind_some (value_at tag octets) (λ (v : List ℕ × List ℕ). Some v.0) r.0 r.1 in
    let begins = (value_reads tag).takes octets v.0.0 v.0.1 fits v.1 in
    let more = ap (all_turned turns) (some_is v.0.0 r.0 v.2) ∙ r.2 in
    (v.0.0, v.0.1, begins, turns_take turns v.0.0 rest begins.encoded.octets more)
turns_take (Named type ∷ turns) octets rest fits e =
    let named = type_octets type in
    let r = bind_some (value_at OBJECT_IDENTIFIER octets >>= λ v. if bytes_eq v.0 named then Some v.1 else None)
    (λ (r : List ℕ). all_turned turns r) rest e in
    let v = bind_some (value_at OBJECT_IDENTIFIER octets)
    (λ (v : List ℕ × List ℕ). if bytes_eq v.0 named then Some v.1 else None) r.0 r.1 in
    let begins = (value_reads OBJECT_IDENTIFIER).takes octets v.0.0 v.0.1 fits v.1 in
    let both = if_some (bytes_eq v.0.0 named) v.0.1 r.0 v.2 in
    let is : v.0.0 ≡ named = (bytes_eq-Decides v.0.0 named).0 both.0 in
    let more = ap (all_turned turns) both.1 ∙ r.2 in (
      v.0.1,
      subst (λ (content : List ℕ). Begins (IsEnc OBJECT_IDENTIFIER) octets content v.0.1) is begins,
      turns_take turns v.0.1 rest (AreOctets-after octets begins.text v.0.1 begins.parts fits) more,
    )

-- a value that stands there is read
read_there : (tag : ℕ) (octets content rest : List ℕ) → Begins (IsEnc tag) octets content rest → value_at tag octets ≡ Some (content, rest)
read_there tag octets content rest begins = ap (value_at tag) begins.parts ∙ (value_reads tag).again content begins.text rest begins.encoded

-- what stands there is taken
turns_again : (turns : List Turn) (octets : List ℕ) → BeginSo turns octets → (rest : List ℕ) × (all_turned turns octets ≡ Some rest)
unfolding turned
turns_again [] octets stand = (octets, refl)
turns_again (Over tag ∷ turns) octets (content, more, begins, stand) =
    let further = turns_again turns more stand in
    (further.0, rw (read_there tag octets content more begins) further.1)
turns_again (Into tag ∷ turns) octets (content, more, begins, stand) =
    let further = turns_again turns content stand in
    (further.0, rw (read_there tag octets content more begins) further.1)
turns_again (Named type ∷ turns) octets (more, begins, stand) =
    let further = turns_again turns more stand in
    let same : bytes_eq (type_octets type) (type_octets type) ≡ true = (bytes_eq-Decides (type_octets type) (type_octets type)).1 refl in
    (further.0, rw (read_there OBJECT_IDENTIFIER octets (type_octets type) more begins, same) further.1)

-- all turns were taken
pub turns_taken : (turns : List Turn) (octets rest : List ℕ) → AreOctets octets →
    Some rest ≡ all_turned turns octets → IsTrue true ↔ BeginSo turns octets
turns_taken turns octets rest fits e = ((λ yes. turns_take turns octets rest fits (sym e)), (λ stand. refl))

-- one wasn't
pub turns_not_taken : (turns : List Turn) (octets : List ℕ) → None ≡ all_turned turns octets → BeginSo turns octets → ⊥
turns_not_taken turns octets e stand = let r = turns_again turns octets stand in nothing r.0 (e ∙ r.1)

module _ (turns : List Turn) (octets old : List ℕ) (i : ℕ) (d : Turn) (low : i < length turns)
    (so_far : all_turned (drop i turns) old ≡ all_turned turns octets) where
  here : all_turned (drop i turns) old ≡ (turned (get_or turns i d) old >>= λ rest. all_turned (drop (i + 1) turns) rest)
  here = at_drop_more (λ (ts : List Turn). all_turned ts old) turns i d low

  -- one turn more was taken
  pub turn_more : (new : List ℕ) → Some new ≡ turned (get_or turns i d) old → all_turned (drop (i + 1) turns) new ≡ all_turned turns octets
  turn_more new e = sym (here ∙ ap (λ (o : Option (List ℕ)). o >>= λ rest. all_turned (drop (i + 1) turns) rest) (sym e)) ∙ so_far

  -- the next one can't be taken
  pub turn_stops : None ≡ turned (get_or turns i d) old → BeginSo turns octets → ⊥
  turn_stops e = turns_not_taken turns octets
      (sym (here ∙ ap (λ (o : Option (List ℕ)). o >>= λ rest. all_turned (drop (i + 1) turns) rest) (sym e)) ∙
      so_far)

-- ---- the first of a table

module _ {X : Type 0} (P : X → Type 0) where
  -- an item that has the property, where none before it has
  pub found_at : (xs : List X) (i : ℕ) (d : X) → i < length xs → IsFirstHaving P (take i xs) None → P (get_or xs i d) →
      IsFirstHaving P xs (Some (get_or xs i d))
  found_at [] i d low none has = absurd (omega arith)
  found_at (x ∷ xs) zero d low none has = inl (has, refl)
  found_at (x ∷ xs) (suc i) d low (inl (is, e)) has = absurd (nothing x e)
  found_at (x ∷ xs) (suc i) d low (inr (not, none)) has = inr (not, found_at xs i d (omega arith) none has)

  -- one more that hasn't
  pub still_none : (xs : List X) (x : X) → IsFirstHaving P xs None → (P x → ⊥) → IsFirstHaving P (xs ++ x ∷ []) None
  still_none [] x none not = inr (not, refl)
  still_none (y ∷ xs) x (inl (is, e)) not = absurd (nothing y e)
  still_none (y ∷ xs) x (inr (other, none)) not = inr (other, still_none xs x none not)
