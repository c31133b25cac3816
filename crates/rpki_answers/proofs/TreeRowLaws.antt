-- The lines of rows, and their counts.
use Rattle.std.specs.List.{AllByRecursion}
use Rattle.std.specs.Option.{option_map}
use Rattle.std.specs.Prelude.{Bool, true, false, cond, suc, if◌then◌else◌, Option, None, Some}
use Rattle.std.proofs.Common.{◌≡◌, ◌∙◌, ◌+◌, ◌==◌, ℕ, List, [], ◌∷◌, ◌++◌, length, map, refl, sym, ap, subst, append_assoc, arith}
use Rattle.std.proofs.lemmas.List.Sums.{sum_by-cons}
use Rattle.rpki_document.specs.Documents.{Node, aside, head, document_of, spans_text}
use Rattle.rpki_document.specs.Lines.{Row as Line, labelled, document_rows, node_rows}
use Rattle.rpki_files.specs.Files.{FileFields}
use Rattle.rpki_folder.proofs.Descent.{all_append}
use Rattle.rpki_folder.specs.declared.bounds.Limit.{Limit}
use Rattle.rpki_folder.specs.declared.find.FoundPath.{FoundPath}
use Rattle.rpki_verdicts.specs.Trees.{certs_of}
use Rattle.rpki_verdicts.specs.declared.unordered.Tree.{Tree}
use Rattle.rpki_answers.specs.TreeDocuments.{AreAll, AreOtherPaths, AreSaid, above_node, above_nodes, accepted_head}
use Rattle.rpki_answers.specs.TreeDocuments.{also_line, also_node, count_of, file_first, file_last, has_word, is_word}
use Rattle.rpki_answers.specs.TreeDocuments.{left_line, left_nodes, limit_nodes, more_line, more_nodes, rejected_head}
use Rattle.rpki_answers.specs.TreeDocuments.{row_head, shown_node, unseen_spans, unseen_word, word_label, word_of}
use Rattle.rpki_answers.specs.TreeLaws.{CountsAddUp, IsUnlabelled, RowsBeginWithTheirWord}
use Rattle.rpki_answers.specs.declared.tree_rows.Said.{Said}
use Rattle.rpki_answers.specs.declared.tree_rows.Said.TheVariants as said
use Rattle.rpki_answers.specs.declared.tree_rows.Word.{Word}
use Rattle.rpki_answers.specs.declared.tree_rows.Word.TheVariants as word

-- ---- lines

rows_of_both : (a b : List Node) → document_rows (document_of (a ++ b)) ≡ document_rows (document_of a) ++ document_rows (document_of b)
rows_of_both [] b = refl
rows_of_both (p ∷ a) b =
    ap (λ (l : List Line). node_rows p ++ l) (rows_of_both a b)
    ∙ sym (append_assoc (node_rows p) (document_rows (document_of a)) (document_rows (document_of b)))

under_if : (b : Bool) (left : ℕ) → AllByRecursion IsUnlabelled (document_rows (document_of (if b then [] else left_line left ∷ [])))
under_if true left = tt
under_if false left = (tt, tt)

under_limit : (limit : Option Limit) → AllByRecursion IsUnlabelled (document_rows (document_of (limit_nodes limit)))
under_limit None = tt
under_limit (Some limit) = (tt, tt)

no_rows : (certs : List FileFields) (places : List ℕ) → document_rows (document_of (above_nodes certs places)) ≡ []
no_rows certs [] = refl
no_rows certs (place ∷ places) = no_rows certs places

-- ---- several paths

-- each is under the first
abbrev AreUnder : List Line → Type 0
AreUnder lines = AllByRecursion IsUnlabelled lines

module _ (tree : Tree) where
  under_above : (above : List ℕ) (lines : List Line) → AreUnder lines → AreUnder (node_rows (above_node tree above) ++ lines)
  under_above above lines are = subst (λ (l : List Line). AreUnder (l ++ lines)) (sym (no_rows (certs_of tree) (tree.anchor ∷ above))) are

  under_also : (above : List ℕ) (same : Bool) → AreUnder (node_rows (also_node tree above same))
  under_also above same = under_above above (node_rows (also_line tree above same) ++ []) (tt, tt)

  under_others : (shown : FoundPath) (paths : List FoundPath) (nodes : List Node) → AreOtherPaths tree shown paths nodes →
      AreUnder (document_rows (document_of nodes))
  under_others shown [] [] are = tt
  under_others shown [] (node ∷ nodes) are = absurd are
  under_others shown (path ∷ paths) [] are = absurd are
  under_others shown (path ∷ paths) (node ∷ nodes) are =
      all_append IsUnlabelled (node_rows node) (document_rows (document_of nodes))
      (subst (λ (n : Node). AreUnder (node_rows n)) (sym are.0.2) (under_also path.above.items are.0.0))
      (under_others shown paths nodes are.1)

  under_paths : (shown : FoundPath) (paths : List FoundPath) (nodes : List Node) → AreAll tree shown paths nodes →
      AreUnder (document_rows (document_of nodes))
  under_paths shown [] nodes are = subst (λ (l : List Node). AreUnder (document_rows (document_of l))) (sym are) tt
  under_paths shown (path ∷ paths) nodes are =
      let others = document_rows (document_of are.0) in
      subst (λ (l : List Node). AreUnder (document_rows (document_of l))) (sym are.2)
      (all_append IsUnlabelled (node_rows (shown_node tree shown.above.items) ++ others) []
      (all_append IsUnlabelled (node_rows (shown_node tree shown.above.items)) others (under_above shown.above.items [] tt)
      (under_others shown (path ∷ paths) are.0 are.1)) tt)

under_some : (b : Bool) (more : ℕ) → AreUnder (document_rows (document_of (if b then [] else more_line more ∷ [])))
under_some true more = tt
under_some false more = (tt, tt)

under_both : (a b : List Node) → AreUnder (document_rows (document_of a)) → AreUnder (document_rows (document_of b)) →
    AreUnder (document_rows (document_of (a ++ b)))
under_both a b p q =
    subst AreUnder (sym (rows_of_both a b)) (all_append IsUnlabelled (document_rows (document_of a)) (document_rows (document_of b)) p q)

-- ---- the first line

-- what a line says behind its label
behind_of : Node → List ℕ
behind_of (head label spans) = 32 ∷ spans_text spans
behind_of _ = []

-- the lines of what is said of a file: one with the word, and others under it
abbrev BeginsWith : Said → List Node → Type 0
BeginsWith of_it nodes =
    (behind : List ℕ) × (more : List Line) × AreUnder more
    × (document_rows (document_of nodes) ≡ labelled (word_label (word_of of_it)) behind ∷ more)

said_rows : (certs : List FileFields) (name : List ℕ) (of_it : Said) (nodes : List Node) →
    AreSaid certs name of_it nodes → BeginsWith of_it nodes
unfolding behind_of
said_rows certs name (said.Accepted t p kind) nodes (held, several, are, paths, is) =
    let tree = t.now in
    let above = p.shown.now.above.items in
    let below = several ++ more_nodes p.more in (
      behind_of (accepted_head name tree above kind),
      document_rows (document_of (above_node tree above ∷ aside (document_of held) ∷ below)),
      under_above tree above (document_rows (document_of below))
          (under_both several (more_nodes p.more)
          (under_paths tree p.shown.now (map (λ path. path.now) p.others.items) several paths)
          (under_some (p.more == 0) p.more)),
      ap (λ (l : List Node). document_rows (document_of l)) is,
    )
said_rows certs name (said.Rejected fault) nodes is = (
  behind_of (rejected_head name fault.rule.says.now fault.name.now fault.rule.section.now),
  [],
  tt,
  ap (λ (l : List Node). document_rows (document_of l)) is,
)
said_rows certs name (said.Unseen why error) nodes is = (
  behind_of (row_head (unseen_word why)
      (file_first name (unseen_spans certs why (option_map (λ e. e.now) error)))),
  [],
  tt,
  ap (λ (l : List Node). document_rows (document_of l)) is,
)
said_rows certs name said.Anchor nodes is = (
  behind_of (row_head word.Anchor (file_last name)),
  [],
  tt,
  ap (λ (l : List Node). document_rows (document_of l)) is,
)
said_rows certs name said.Crl nodes is = (
  behind_of (row_head word.Crl (file_last name)),
  [],
  tt,
  ap (λ (l : List Node). document_rows (document_of l)) is,
)
said_rows certs name said.Neither nodes is = (
  behind_of (row_head word.Neither (file_last name)),
  [],
  tt,
  ap (λ (l : List Node). document_rows (document_of l)) is,
)

pub begin_with_word : RowsBeginWithTheirWord
begin_with_word certs row nodes (of_it, are, is) =
    let first = said_rows certs row.file.now.name row.said of_it are in
    let below = limit_nodes row.limit ++ left_nodes row.left in
    let more = document_rows (document_of below) in (
      first.0,
      first.1 ++ more,
      all_append IsUnlabelled first.1 more first.2
          (under_both (limit_nodes row.limit) (left_nodes row.left) (under_limit row.limit)
          (under_if (row.left == 0) row.left)),
      ap (λ (l : List Node). document_rows (document_of l)) is ∙ rows_of_both of_it below ∙ ap (λ (l : List Line). l ++ more) first.3,
    )

-- ---- counts

-- of each word something, all together
abbrev total : (Word → ℕ) → ℕ
total f =
    f word.Anchor + f word.Accepted + f word.Rejected + f word.BelowRejected + f word.BelowUnseen
    + f word.NotLookedAt + f word.NotIssued + f word.NotCa + f word.NoIssuer + f word.Crl + f word.Neither

-- a word is one of them
one_word : (w : Word) → total (λ v. cond (is_word v w) 1 0) ≡ 1
one_word word.Anchor = refl
one_word word.Accepted = refl
one_word word.Rejected = refl
one_word word.BelowRejected = refl
one_word word.BelowUnseen = refl
one_word word.NotLookedAt = refl
one_word word.NotIssued = refl
one_word word.NotCa = refl
one_word word.NoIssuer = refl
one_word word.Crl = refl
one_word word.Neither = refl

total_more : (f g h : Word → ℕ) (n : ℕ) → ((w : Word) → f w ≡ g w + h w) → total g ≡ 1 → total h ≡ n → total f ≡ suc n
total_more f g h n both one rest = omega (
  arith,
  both word.Anchor,
  both word.Accepted,
  both word.Rejected,
  both word.BelowRejected,
  both word.BelowUnseen,
  both word.NotLookedAt,
  both word.NotIssued,
  both word.NotCa,
  both word.NoIssuer,
  both word.Crl,
  both word.Neither,
)

pub add_up : CountsAddUp
add_up [] = refl
add_up (row ∷ rows) =
    let one : Word → ℕ = λ w. cond (is_word w (word_of row.said)) 1 0 in
    total_more (λ w. count_of w (row ∷ rows)) one (λ w. count_of w rows) (length rows)
    (λ w. sum_by-cons (λ r. cond (has_word w r) 1 0) row rows) (one_word (word_of row.said)) (add_up rows)
