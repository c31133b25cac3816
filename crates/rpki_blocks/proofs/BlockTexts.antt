-- The blocks of a set, printed one after the other.
use Rattle.std.specs.Fmt.{HasWritten}
use Rattle.std.specs.List.{flat_map}
use Rattle.std.specs.declared.fmt.Formatter.{Formatter}
use Rattle.std.proofs.Common.{◌≡◌, ℕ, List, ◌∷◌, ◌++◌, codes, sym, ap, ◌∙◌, append_assoc}
use Rattle.std.proofs.Output.{has_written_append}
use Rattle.rpki_blocks.specs.Sets.{Block}

-- what is printed of blocks, each behind a comma
abbrev pub further : (Block → List ℕ) → List Block → List ℕ
further text bs = flat_map (λ more. codes ", " ++ text more) bs

-- g is f after writing some text, which makes the whole with that of the blocks that are left
pub record IsUnderWay {W : Type 0} (took : W → List ℕ → W → Type 0) (f : Formatter W) (text : Block → List ℕ)
    (rest : List Block) (whole : List ℕ) (g : Formatter W) : Type 0 where
  pub done : List ℕ
  pub wrote : HasWritten took f done g
  pub makes : done ++ further text rest ≡ whole

-- one block more
pub more_written : {W : Type 0} (took : W → List ℕ → W → Type 0) (text : Block → List ℕ) (f g h : Formatter W)
    (b : Block) (rest bs : List Block) (whole : List ℕ) → bs ≡ b ∷ rest → IsUnderWay took f text bs whole g →
    HasWritten took g (codes ", " ++ text b) h → IsUnderWay took f text rest whole h
more_written took text f g h b rest bs whole e so_far wrote = record {
  done = so_far.done ++ (codes ", " ++ text b);
  wrote = has_written_append _ _ _ _ _ _ so_far.wrote wrote;
  makes = append_assoc so_far.done (codes ", " ++ text b) (further text rest) ∙
      ap (λ (l : List Block). so_far.done ++ further text l) (sym e) ∙ so_far.makes;
}
