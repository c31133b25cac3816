-- Rows of files, one after the other, and their documents.
use Rattle.std.specs.Bool.{MatchBool}
use Rattle.std.specs.List.{flat_map, list_any}
use Rattle.std.specs.Prelude.{Result, Ok, Err, IfOk, OnOk}
use Rattle.std.proofs.Common.{◌≡◌, ◌≢◌, ◌∙◌, ◌+◌, ◌<◌, ◌≤◌, ℕ, Bool, true, false, List, [], ◌∷◌, ◌++◌, length, map}
use Rattle.std.proofs.Common.{take, get_or, refl, sym, ap, subst, append_assoc}
use Rattle.std.proofs.lemmas.Grind.{flat_map-append}
use Rattle.std.proofs.lemmas.List.Sums.{fold-append}
use Rattle.std.proofs.lemmas.List.{append-nil, map-append, take_more, take_all}
use Rattle.rpki_document.specs.Building.{Adds, nodes_of, spans_of}
use Rattle.rpki_document.specs.Documents.{Node, inside, document_of, document_text, document_json}
use Rattle.rpki_document.specs.Views.{piece_view}
use Rattle.rpki_document.specs.declared.parts.Part.{Part}
use Rattle.rpki_document.specs.declared.parts.Piece.{Piece}
use Rattle.rpki_document.proofs.Built.{then_added}
use Rattle.rpki_files.specs.Files.{FileFields}
use Rattle.rpki_text.specs.declared.command_line.arguments.Format.{Format}
use Rattle.rpki_text.specs.declared.command_line.arguments.Format.TheVariants.{Text, Json, JsonLines}
use Rattle.rpki_verdicts.specs.declared.parts.Trees.{Trees}
use Rattle.rpki_answers.specs.JsonTexts.{json_value_text}
use Rattle.rpki_answers.specs.TreeDocuments.{IsRowDocument, PrintsRow, PrintsRows, errors_of, files_node, is_printed}
use Rattle.rpki_answers.specs.TreeDocuments.{rendered, said_error, tree_text, unasked_of, with_error, with_unasked}
use Rattle.rpki_answers.specs.TreeDocuments.Steps.{AddsDocuments, AddsRow, AddsRows, AppendsDocuments, AppendsRow, AppendsRows}
use Rattle.rpki_answers.specs.TreeRows.{AreRows, AreRowsFrom, IsTreeRow}
use Rattle.rpki_answers.specs.declared.tree_rows.Row.{Row}

-- ---- rows

module _ (trees : Trees) where
  rows_more : (from mid last : ℕ) (files : List FileFields) (rows : List Row) →
      AreRowsFrom trees from mid files rows → (file : FileFields) (row : Row) → IsTreeRow trees mid last file row →
      AreRowsFrom trees from last (files ++ file ∷ []) (rows ++ row ∷ [])
  rows_more from mid last [] rows is file row one =
      (last, row, [], subst (λ (p : ℕ). IsTreeRow trees p last file row) is.1 one, (refl, refl), ap (λ (l : List Row). l ++ row ∷ []) is.0)
  rows_more from mid last (f ∷ fs) rows is file row one =
      (is.0, is.1, is.2 ++ row ∷ [], is.3, rows_more is.0 mid last fs is.2 is.4 file row one, ap (λ (l : List Row). l ++ row ∷ []) is.5)

  -- one more
  pub next_row : (files : List FileFields) (i mid last : ℕ) (file : FileFields) (rows : List Row) (row : Row) →
      i < length files → file ≡ get_or files i file → AreRowsFrom trees 0 mid (take i files) rows →
      IsTreeRow trees mid last file row → AreRowsFrom trees 0 last (take (i + 1) files) (rows ++ row ∷ [])
  next_row files i mid last file rows row low there so_far one =
      let more : take (i + 1) files ≡ take i files ++ file ∷ [] = take_more files i file low ∙
      ap (λ (y : FileFields). take i files ++ y ∷ []) (sym there) in
      subst (λ (l : List FileFields). AreRowsFrom trees 0 last l (rows ++ row ∷ [])) (sym more)
      (rows_more 0 mid last (take i files) rows so_far file row one)

  -- all
  pub all_rows : (files : List FileFields) (i last : ℕ) (rows : List Row) → length files ≤ i →
      AreRowsFrom trees 0 last (take i files) rows → AreRows trees files rows
  all_rows files i last rows high are = (last, subst (λ (l : List FileFields). AreRowsFrom trees 0 last l rows) (take_all i files high) are)

-- ---- their documents

module _ (only : Bool) (certs : List FileFields) where
  prints_more : (rows : List Row) (so_far : List (List Node)) (row : Row) (first : List (List Node)) →
      PrintsRows only certs rows so_far → PrintsRow only certs row first →
      PrintsRows only certs (rows ++ row ∷ []) (so_far ++ first)
  prints_more [] so_far row first is one = (first, [], one, refl, ap (λ (l : List (List Node)). l ++ first) is ∙ sym (append-nil first))
  prints_more (r ∷ rs) so_far row first is one = (
    is.0,
    is.1 ++ first,
    is.2,
    prints_more rs is.1 row first is.3 one,
    ap (λ (l : List (List Node)). l ++ first) is.4 ∙ append_assoc is.0 is.1 first,
  )

  prints_next : (rows : List Row) (i : ℕ) (row : Row) (so_far first : List (List Node)) → i < length rows →
      row ≡ get_or rows i row → PrintsRows only certs (take i rows) so_far → PrintsRow only certs row first →
      PrintsRows only certs (take (i + 1) rows) (so_far ++ first)
  prints_next rows i row so_far first low there is one =
      let more : take (i + 1) rows ≡ take i rows ++ row ∷ [] = take_more rows i row low ∙
      ap (λ (y : Row). take i rows ++ y ∷ []) (sym there) in
      subst (λ (l : List Row). PrintsRows only certs l (so_far ++ first)) (sym more) (prints_more (take i rows) so_far row first is one)

  prints_one : (row : Row) (nodes : List Node) → is_printed only row ≡ true → IsRowDocument certs row nodes →
      PrintsRow only certs row (nodes ∷ [])
  prints_one row nodes is document =
      subst (λ (b : Bool). MatchBool b ((ns : List Node) × IsRowDocument certs row ns × (nodes ∷ [] ≡ ns ∷ []))
      (nodes ∷ [] ≡ [])) (sym is) (nodes, document, refl)

  prints_none : (row : Row) → is_printed only row ≡ false → PrintsRow only certs row []
  prints_none row is =
      let none : List (List Node) = [] in
      subst (λ (b : Bool). MatchBool b ((ns : List Node) × IsRowDocument certs row ns × (none ≡ ns ∷ [])) (none ≡ none)) (sym is) refl

  -- ---- in a text

  module _ (format : Format) where
    appends_both : (a b : List (List Node)) (old mid new : List ℕ) → AppendsDocuments format a old mid →
        AppendsDocuments format b mid new → AppendsDocuments format (a ++ b) old new
    appends_both a b old mid new p q =
        q ∙ ap (λ (l : List ℕ). l ++ flat_map (rendered format) b) p
        ∙ append_assoc old (flat_map (rendered format) a) (flat_map (rendered format) b)
        ∙ ap (λ (l : List ℕ). old ++ l) (sym (flat_map-append (rendered format) a b))

    pub append_none : (text : List ℕ) → AppendsRows format only certs [] text text
    append_none text = ([], refl, sym (append-nil text))

    pub append_next : (rows : List Row) (i : ℕ) (row : Row) (old mid new : List ℕ) → i < length rows →
        row ≡ get_or rows i row → AppendsRows format only certs (take i rows) old mid →
        AppendsRow format only certs row mid new → AppendsRows format only certs (take (i + 1) rows) old new
    append_next rows i row old mid new low there so_far one = (
      so_far.0 ++ one.0,
      prints_next rows i row so_far.0 one.0 low there so_far.1 one.1,
      appends_both so_far.0 one.0 old mid new so_far.2 one.2,
    )

    pub append_all : (rows : List Row) (i : ℕ) (old new : List ℕ) → length rows ≤ i →
        AppendsRows format only certs (take i rows) old new → AppendsRows format only certs rows old new
    append_all rows i old new high all = subst (λ (l : List Row). AppendsRows format only certs l old new) (take_all i rows high) all

    pub append_printed : {E : Type 0} (r : Result Unit E) (row : Row) (nodes : List Node) (old new : List ℕ) →
        is_printed only row ≡ true → IsRowDocument certs row nodes → OnOk r (new ≡ old ++ rendered format nodes) →
        OnOk r (AppendsRow format only certs row old new)
    append_printed (Ok x) row nodes old new is document e =
        (nodes ∷ [], prints_one row nodes is document, e ∙ ap (λ (l : List ℕ). old ++ l) (sym (append-nil (rendered format nodes))))
    append_printed (Err x) row nodes old new is document e = tt

    pub append_unprinted : (row : Row) (text : List ℕ) → is_printed only row ≡ false → AppendsRow format only certs row text text
    append_unprinted row text is = ([], prints_none row is, sym (append-nil text))

  -- ---- in a document

  adds_both : (a b : List (List Node)) (old mid new : List Part) → AddsDocuments a old mid → AddsDocuments b mid new →
      AddsDocuments (a ++ b) old new
  adds_both a b old mid new p q =
      subst (λ (l : List Node). Adds l old new) (sym (map-append (λ nodes. inside [] (document_of nodes)) a b))
      (then_added old mid new (map (λ nodes. inside [] (document_of nodes)) a) (map (λ nodes. inside [] (document_of nodes)) b) p q)

  pub add_none : (parts : List Part) → AddsRows only certs [] parts parts
  add_none parts = ([], refl, sym (append-nil (nodes_of parts)))

  pub add_next : (rows : List Row) (i : ℕ) (row : Row) (old mid new : List Part) → i < length rows →
      row ≡ get_or rows i row → AddsRows only certs (take i rows) old mid → AddsRow only certs row mid new →
      AddsRows only certs (take (i + 1) rows) old new
  add_next rows i row old mid new low there so_far one = (
    so_far.0 ++ one.0,
    prints_next rows i row so_far.0 one.0 low there so_far.1 one.1,
    adds_both so_far.0 one.0 old mid new so_far.2 one.2,
  )

  pub add_all : (rows : List Row) (i : ℕ) (old new : List Part) → length rows ≤ i →
      AddsRows only certs (take i rows) old new → AddsRows only certs rows old new
  add_all rows i old new high all = subst (λ (l : List Row). AddsRows only certs l old new) (take_all i rows high) all

  pub add_printed : {E : Type 0} (r : Result Unit E) (row : Row) (nodes : List Node) (old new : List Part) →
      is_printed only row ≡ true → IsRowDocument certs row nodes →
      OnOk r (Adds (inside [] (document_of nodes) ∷ []) old new) → OnOk r (AddsRow only certs row old new)
  add_printed (Ok x) row nodes old new is document e = (nodes ∷ [], prints_one row nodes is document, e)
  add_printed (Err x) row nodes old new is document e = tt

  pub add_unprinted : (row : Row) (parts : List Part) → is_printed only row ≡ false → AddsRow only certs row parts parts
  add_unprinted row parts is = ([], prints_none row is, sym (append-nil (nodes_of parts)))

-- ---- a document in a format

pub by_format : {S E : Type 0} (bytes : S → List ℕ) (r : Result S E) (format : Format) (nodes : List Node)
    → (format ≡ Text → IfOk r (λ t. bytes t ≡ document_text (document_of nodes)))
    → (format ≢ Text → IfOk r (λ t. bytes t ≡ json_value_text format (document_json (document_of nodes))))
    → IfOk r (λ t. bytes t ≡ rendered format nodes)
by_format bytes r Text nodes text json = text refl
by_format bytes r Json nodes text json = json (λ is. absurd cc)
by_format bytes r JsonLines nodes text json = json (λ is. absurd cc)

module _ (heads : Node) (documents : List (List Node)) (ends : List Node) (text : List ℕ) where
  pub as_lines : (format : Format) → format ≡ Text →
      text ≡ (rendered format (heads ∷ []) ++ flat_map (rendered format) documents) ++ rendered format ends →
      text ≡ tree_text format heads documents ends
  as_lines Text is e = e ∙ append_assoc (rendered Text (heads ∷ [])) (flat_map (rendered Text) documents) (rendered Text ends)
  as_lines Json is e = absurd cc
  as_lines JsonLines is e = absurd cc

  pub as_json_lines : (format : Format) → format ≡ JsonLines →
      text ≡ flat_map (rendered format) documents ++ rendered format (heads ∷ ends) →
      text ≡ tree_text format heads documents ends
  as_json_lines JsonLines is e = e
  as_json_lines Text is e = absurd cc
  as_json_lines Json is e = absurd cc

  pub as_object : (format : Format) → format ≡ Json → text ≡ rendered format (heads ∷ files_node documents ∷ ends) →
      text ≡ tree_text format heads documents ends
  as_object Json is e = e
  as_object Text is e = absurd cc
  as_object JsonLines is e = absurd cc

-- ---- pieces, names and places

pub two_pushed : (old mid new : List Piece) (a b : Piece) → mid ≡ old ++ a ∷ [] → new ≡ mid ++ b ∷ [] →
    spans_of new ≡ spans_of old ++ piece_view a ∷ piece_view b ∷ []
two_pushed old mid new a b p q =
    let all : new ≡ old ++ a ∷ b ∷ [] = q ∙ ap (λ (l : List Piece). l ++ b ∷ []) p ∙ append_assoc old (a ∷ []) (b ∷ []) in
    ap (map piece_view) all ∙ map-append piece_view old (a ∷ b ∷ [])

-- one place more
pub place_more : {A : Type 0} (f : ℕ → List A) (places : List ℕ) (i : ℕ) → i < length places →
    flat_map f (take (i + 1) places) ≡ flat_map f (take i places) ++ f (get_or places i 0)
place_more {A} f places i low =
    ap (λ (l : List ℕ). flat_map f l) (take_more places i 0 low) ∙ flat_map-append f (take i places) (get_or places i 0 ∷ [])
    ∙ ap (λ (l : List A). flat_map f (take i places) ++ l) (append-nil (f (get_or places i 0)))

pub mapped_twice : {A B C : Type 0} (f : B → C) (g : A → B) (xs : List A) → map f (map g xs) ≡ map (λ x. f (g x)) xs
mapped_twice f g [] = refl
mapped_twice {A} {B} {C} f g (x ∷ xs) = ap (λ (l : List C). f (g x) ∷ l) (mapped_twice f g xs)

pub any_mapped : {A B : Type 0} (p : B → Bool) (g : A → B) (xs : List A) → list_any p (map g xs) ≡ list_any (λ x. p (g x)) xs
any_mapped p g [] = refl
any_mapped p g (x ∷ xs) = rw (any_mapped p g xs)

-- ---- a node for each of a list

module _ {X : Type 0} (f : X → Node) (xs : List X) (i : ℕ) where
  pub node_more : (d : X) (old mid new : List Part) → i < length xs → Adds (map f (take i xs)) old mid →
      Adds (f (get_or xs i d) ∷ []) mid new → Adds (map f (take (i + 1) xs)) old new
  node_more d old mid new low so_far one =
      let more : map f (take (i + 1) xs) ≡ map f (take i xs) ++ f (get_or xs i d) ∷ [] =
      ap (λ (l : List X). map f l) (take_more xs i d low) ∙ map-append f (take i xs) (get_or xs i d ∷ []) in
      subst (λ (l : List Node). Adds l old new) (sym more) (then_added old mid new (map f (take i xs)) (f (get_or xs i d) ∷ []) so_far one)

  pub node_next : (x : X) (old mid new : List Part) → i < length xs → x ≡ get_or xs i x →
      Adds (map f (take i xs)) old mid → Adds (f x ∷ []) mid new → Adds (map f (take (i + 1) xs)) old new
  node_next x old mid new low there so_far one =
      node_more x old mid new low so_far (subst (λ (y : X). Adds (f y ∷ []) mid new) there one)

-- ---- errors

pub error_next : (rows : List Row) (i : ℕ) (row : Row) → i < length rows → row ≡ get_or rows i row →
    errors_of (take (i + 1) rows) ≡ with_error (errors_of (take i rows)) (said_error row.said)
error_next rows i row low there =
    let more : take (i + 1) rows ≡ take i rows ++ row ∷ [] = take_more rows i row low ∙
    ap (λ (y : Row). take i rows ++ y ∷ []) (sym there) in
    ap (λ (l : List Row). errors_of l) more ∙ fold-append (λ names row. with_error names (said_error row.said)) [] (take i rows) (row ∷ [])

-- ---- keys

pub unasked_next : (rows : List Row) (i : ℕ) (row : Row) → i < length rows → row ≡ get_or rows i row →
    unasked_of (take (i + 1) rows) ≡ with_unasked (unasked_of (take i rows)) row.unasked
unasked_next rows i row low there =
    let more : take (i + 1) rows ≡ take i rows ++ row ∷ [] = take_more rows i row low ∙
    ap (λ (y : Row). take i rows ++ y ∷ []) (sym there) in
    ap (λ (l : List Row). unasked_of l) more ∙ fold-append (λ keys row. with_unasked keys row.unasked) [] (take i rows) (row ∷ [])
