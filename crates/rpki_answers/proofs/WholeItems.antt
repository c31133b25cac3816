-- The values that are said of each file have no floats.
use Rattle.std.specs.List.{AllByRecursion}
use Rattle.std.proofs.Common.{List, [], ◌∷◌, subst, sym}
use Rattle.serde_json.specs.Data.{Data}
use Rattle.rpki_cert.proofs.Reordering.{all_append}
use Rattle.rpki_files.specs.Files.{FileFields}
use Rattle.rpki_answers.specs.VerdictTexts.{SaysOfEach}
use Rattle.rpki_answers.proofs.WholeValues.{IsWhole}

unfoldable pub AllWhole : List Data → Type 0
AllWhole items = AllByRecursion IsWhole items

pub each_whole : (Says : FileFields → List Data → Type 0) →
    ((file : FileFields) (items : List Data) → Says file items → AllWhole items) →
    (files : List FileFields) (items : List Data) → SaysOfEach Says files items → AllWhole items
unfolding AllWhole
each_whole Says whole [] items is = subst (λ (l : List Data). AllByRecursion IsWhole l) (sym is) tt
each_whole Says whole (file ∷ files) items is =
    subst (λ (l : List Data). AllByRecursion IsWhole l) (sym is.4)
    (all_append IsWhole is.0 is.1 (whole file is.0 is.2) (each_whole Says whole files is.1 is.3))

pub items_whole : (items : List Data) → AllWhole items → AllByRecursion IsWhole items
unfolding AllWhole
items_whole items are = are
