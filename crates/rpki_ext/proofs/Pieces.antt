-- A sequence, by its pieces.
use Rattle.std.specs.List.{AllZip, concat}
use Rattle.std.proofs.Common.{◌≡◌, ℕ, List, [], ◌∷◌, ◌++◌, refl, ap, ◌∙◌}
use Rattle.rpki_der.specs.Sequences.{AreEncodings}

-- the octets are the encodings of these values, one after the other
abbrev pub HasPieces : {X : Type 0} → (X → List ℕ → Type 0) → List X → List ℕ → Type 0
HasPieces encodes xs text = (pieces : List (List ℕ)) × AllZip encodes xs pieces × (text ≡ concat pieces)

module _ {X : Type 0} (encodes : X → List ℕ → Type 0) where
  -- a sequence of values has a piece for each
  pub sequence_pieces : (xs : List X) (text : List ℕ) → AreEncodings encodes xs text → HasPieces encodes xs text
  sequence_pieces [] text s = ([], tt, s)
  sequence_pieces (x ∷ xs) text s =
      let m = sequence_pieces xs s.1 s.3 in
      (s.0 ∷ m.0, (s.2, m.1), s.4 ∙ ap (λ (t : List ℕ). s.0 ++ t) m.2)

  -- pieces that encode values are a sequence of them
  pub pieces_sequence : (xs : List X) (pieces : List (List ℕ)) → AllZip encodes xs pieces → AreEncodings encodes xs (concat pieces)
  pieces_sequence [] [] z = refl
  pieces_sequence [] (p ∷ ps) z = elim z [ ]
  pieces_sequence (x ∷ xs) [] z = elim z [ ]
  pieces_sequence (x ∷ xs) (p ∷ ps) z = (p, concat ps, z.0, pieces_sequence xs ps z.1, refl)
