-- Values of a list of things, place by place: the only ones, or none.
use Rattle.std.specs.List.{AllZip}
use Rattle.std.proofs.Common.{◌≡◌, ℕ, zero, suc, ◌+◌, ◌<◌, List, [], ◌∷◌, ◌++◌, length, get_or, map, take, sym}
use Rattle.std.proofs.Common.{subst, arith}
use Rattle.rpki_crl.proofs.Loops.{taken_more}
use Rattle.rpki_issuing.specs.OnlyValues.{IsOnly}
use Rattle.rpki_issuing.proofs.ZippedTexts.{only_more}

module _ {T V : Type 0} (R : V → List ℕ → Type 0) (octets : T → List ℕ) (things : List T) where
  -- those of the things so far
  abbrev pub AreOnlySoFar : ℕ → List V → Type 0
  AreOnlySoFar i values = IsOnly (λ vs. AllZip R vs (map octets (take i things))) values

  -- one more
  pub one_on : (i : ℕ) (thing : T) (values : List V) (value : V) → i < length things →
      thing ≡ get_or things i thing → AreOnlySoFar i values → IsOnly (λ v. R v (octets thing)) value →
      AreOnlySoFar (i + 1) (values ++ value ∷ [])
  one_on i thing values value low there so_far only =
      subst (λ (l : List (List ℕ)). IsOnly (λ vs. AllZip R vs l) (values ++ value ∷ []))
      (sym (taken_more octets things i (i + 1) thing (omega arith) low there))
      (only_more R values (map octets (take i things)) value (octets thing) so_far only)

-- where one of the things has none, there are none
pub none_there : {T V : Type 0} (R : V → List ℕ → Type 0) (octets : T → List ℕ) (things : List T) (i : ℕ)
    (thing : T) → i < length things → thing ≡ get_or things i thing → ((v : V) → R v (octets thing) → ⊥) →
    (values : List V) → AllZip R values (map octets things) → ⊥
none_there R octets [] i thing low there none values zip = absurd (omega arith)
none_there R octets (t ∷ ts) i thing low there none [] zip = elim zip [ ]
none_there {T} {V} R octets (t ∷ ts) zero thing low there none (v ∷ vs) zip =
    none v (subst (λ (x : T). R v (octets x)) (sym there) zip.0)
none_there R octets (t ∷ ts) (suc i) thing low there none (v ∷ vs) zip =
    none_there R octets ts i thing (omega arith) there none vs zip.1
