-- The issuer of a certificate, whose place is the last of those above it.
use Rattle.std.specs.Prelude.{slice_get, Some}
use Rattle.std.proofs.Common.{◌≡◌, ℕ, zero, suc, ◌-◌, List, [], ◌∷◌, length, map, ap, arith}
use Rattle.rpki_c.specs.FolderTelling.{issuer_of}

module _ (origin : ℕ → ℕ) where
  last_is : (top a : ℕ) (above : List ℕ) (i n : ℕ) → i ≡ length above → slice_get (a ∷ above) i ≡ Some n →
      issuer_of top (map origin (a ∷ above)) ≡ origin n
  last_is top a [] zero n at got = let is : a ≡ n = cc in ap origin is
  last_is top a [] (suc i) n at got = absurd (omega (arith, at))
  last_is top a (b ∷ above) zero n at got = absurd (omega (arith, at))
  last_is top a (b ∷ above) (suc i) n at got = last_is (origin a) b above i n (omega (arith, at)) got

  pub issuer_last : (top : ℕ) (above : List ℕ) (n : ℕ) → slice_get above (length above - 1) ≡ Some n →
      issuer_of top (map origin above) ≡ origin n
  issuer_last top [] n got = absurd cc
  issuer_last top (a ∷ above) n got = last_is top a above (length (a ∷ above) - 1) n (omega arith) got
