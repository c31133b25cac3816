-- Which Overclaim an identifier names.
use Rattle.std.specs.Prelude.{bytes_eq}
use Rattle.std.proofs.Common.{◌≡◌, ◌≢◌, ℕ, false, List, Option, inl, inr, subst, sym}
use Rattle.std.proofs.lemmas.Bool.{cases_Bool}
use Rattle.std.proofs.lemmas.Slice.Eq.{bytes_eq-Decides}
use Rattle.rpki_blocks.specs.Overclaims.Reading.{mode_of}
use Rattle.rpki_blocks.specs.Overclaims.{IsNamed}
use Rattle.rpki_blocks.specs.declared.overclaim.Overclaim.{Overclaim}
use Rattle.rpki_blocks.specs.declared.overclaim.Overclaim.TheVariants.{Refuse, Trim}

other : (a b : List ℕ) → bytes_eq a b ≡ false → a ≢ b
other a b e same = let y = (bytes_eq-Decides a b).1 same in absurd cc

neither : (identifier : Overclaim → List ℕ) (id : List ℕ) → bytes_eq id (identifier Refuse) ≡ false →
    bytes_eq id (identifier Trim) ≡ false → (overclaim : Overclaim) → id ≢ identifier overclaim
neither identifier id r t Refuse = other id (identifier Refuse) r
neither identifier id r t Trim = other id (identifier Trim) t

-- the function names the mode that the identifier names
pub is_named : (identifier : Overclaim → List ℕ) (id : List ℕ) → IsNamed identifier id (mode_of identifier id)
is_named identifier id =
    elim (cases_Bool (bytes_eq id (identifier Refuse))) [
      | inl y ↦ rw y ((bytes_eq-Decides id (identifier Refuse)).0 y)
      | inr r ↦ elim (cases_Bool (bytes_eq id (identifier Trim))) [
        | inl y ↦ rw (r, y) ((bytes_eq-Decides id (identifier Trim)).0 y)
        | inr t ↦ rw (r, t) (neither identifier id r t)
      ]
    ]

-- an answer of the function names the mode
pub was_named : (identifier : Overclaim → List ℕ) (id : List ℕ) (r : Option Overclaim) → r ≡ mode_of identifier id → IsNamed identifier id r
was_named identifier id r e = subst (λ (o : Option Overclaim). IsNamed identifier id o) (sym e) (is_named identifier id)
