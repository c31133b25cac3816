use Rattle.std.specs.Prelude.{IsTrue, slice_index_or}
use Rattle.std.proofs.Common.{◌≡◌, ℕ, inl, inr, sym, subst, ◌∙◌, arith}
use Rattle.std.proofs.lemmas.Bool.{cases_eq, false≢true}
use Rattle.std.proofs.lemmas.List.{get_or_default}
use Rattle.rpki_files.specs.Contents.{IsList}
use Rattle.rpki_files.specs.Files.{FileFields}
use Rattle.rpki_verdicts.proofs.search.has_list.Goals as goal

pub loop-file-preserved : goal.loop-file-preserved
loop-file-preserved c = λ k d low begins.
    let files = c.args.files.now in
    let i = c.loop-file.file-index in
    let file = c.file-item.result in
    elim (cases_eq k i) [
      | inl same ↦
          let here : slice_index_or files k d ≡ file = subst (λ (n : ℕ). slice_index_or files n d ≡ file) (sym same)
          (get_or_default files i d file c.loop-file-test.true ∙ sym c.file-item.is) in
          let yes : IsTrue c.is_list.result = c.is_list.ensures.1 (subst (λ (f : FileFields). IsList f.octets) here begins) in
          false≢true (sym c.if-is_list.false ∙ yes)
      | inr other ↦ c.loop-file.invariant k d (omega (arith, low, other)) begins
    ]

pub returns : goal.returns
returns c = λ none k d low. c.loop-file.invariant k d (omega (arith, low, c.loop-file-test.false))
