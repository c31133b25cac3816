-- The request that a command line asks: one at most.
use Rattle.std.specs.Prelude.{codes, Option, Some, None, cond}
use Rattle.std.specs.Str.{bytes_eq}
use Rattle.std.proofs.Common.{◌≡◌, ℕ, inl, inr, List, ◌∷◌, sym, ap, ◌∙◌, subst}
use Rattle.rpki_text.specs.declared.command_line.arguments.Task.{Task}
use Rattle.rpki_text.specs.declared.command_line.arguments.Task.TheVariants.{Show, Validate, Tree, Help, Version}
use Rattle.rpki_text.specs.CommandLines.{IsPart, IsTaskName, LinePart, AreParts, RequestFields, only_task, with_files}
use Rattle.rpki_text.specs.CommandLines.{with_part, with_parts, Suits, IsCommandLine}
use Rattle.rpki_text.specs.declared.command_line.arguments.Misuse.{Misuse}
use Rattle.rpki_text.specs.Misuses.{IsMisuse, IsReason, IsUnknownTask, IsUnsuited, IsWrongFirst}
use Rattle.rpki_text.specs.WordParts.{AddsParts, words_before, words_behind, IsFirstWrong}
use Rattle.rpki_text.proofs.CommandParts.{line_grammar, line_clear}
use Rattle.rpki_text.proofs.PartsOfWords.{one_list}

-- the task that a word names
task_of : List ℕ → Option Task
task_of word =
    cond (bytes_eq word (codes "show")) (Some Show)
    (cond (bytes_eq word (codes "validate")) (Some Validate)
    (cond (bytes_eq word (codes "tree")) (Some Tree)
    (cond (bytes_eq word (codes "help")) (Some Help)
    (cond (bytes_eq word (codes "--help")) (Some Help)
    (cond (bytes_eq word (codes "-h")) (Some Help)
    (cond (bytes_eq word (codes "--version")) (Some Version)
    (cond (bytes_eq word (codes "-V")) (Some Version) None)))))))

names : (task : Task) (word : List ℕ) → IsTaskName task word → task_of word ≡ Some task
unfolding task_of
names Show word h = ap task_of h
names Validate word h = ap task_of h
names Tree word h = ap task_of h
names Help word (inl h) = ap task_of h
names Help word (inr (inl h)) = ap task_of h
names Help word (inr (inr h)) = ap task_of h
names Version word (inl h) = ap task_of h
names Version word (inr h) = ap task_of h

-- a word names one task at most
one_task : (task other : Task) (word another : List ℕ) → word ≡ another → IsTaskName task word → IsTaskName other another → other ≡ task
one_task task other word another e h k =
    let is : Some other ≡ Some task = sym (names other another k) ∙ ap task_of (sym e) ∙ names task word h in
    cc

module _ (words : List (List ℕ)) (first : List ℕ) (rest : List (List ℕ)) (words_are : words ≡ first ∷ rest) where
  -- the first of a command line is this first, and so are those behind it
  same_words : (r : RequestFields) (h : IsCommandLine r words) → (first ≡ h.first) × (rest ≡ h.rest)
  same_words r h = let is : first ∷ rest ≡ h.first ∷ h.rest = sym words_are ∙ h.words_are in (cc, cc)

  -- that the first names no task is told
  pub task_told : (misuse : Misuse) → IsUnknownTask misuse first → IsMisuse misuse words
  task_told misuse unknown = subst (λ (l : List (List ℕ)). IsMisuse misuse l) (sym words_are) (inl unknown)

  -- the first wrong word of those behind it is told
  pub word_told : (misuse : Misuse) (task : Task) → IsTaskName task first →
      IsFirstWrong IsPart IsWrongFirst misuse (words_before rest) → IsMisuse misuse words
  word_told misuse task task_is wrong =
      subst (λ (l : List (List ℕ)). IsMisuse misuse l) (sym words_are) (inr (task, task_is, inl wrong))

  -- those behind it are no parts
  pub no_parts : ((parts : List LinePart) → AreParts parts (words_before rest) → ⊥) → (r : RequestFields) → IsCommandLine r words → ⊥
  no_parts none r h = none h.parts (subst (λ (l : List (List ℕ)). AreParts h.parts (words_before l)) (sym (same_words r h).1) h.parts_are)

  module _ (task : Task) (task_is : IsTaskName task first) (before behind : List (List ℕ))
      (before_is : before ≡ words_before rest) (behind_is : behind ≡ words_behind rest)
      (start mid r : RequestFields) (start_is : start ≡ only_task task)
      (added : AddsParts IsPart with_part before start mid) (files : r ≡ with_files mid behind) where
    adds : AddsParts IsPart with_part (words_before rest) (only_task task) mid
    adds = rw (start_is, before_is) at added

    all_asked : r ≡ with_files (with_parts (only_task task) adds.0) (words_behind rest)
    all_asked = files ∙ ap (with_files mid) behind_is ∙ ap (λ (m : RequestFields). with_files m (words_behind rest)) adds.2

    -- it asks nothing else
    pub only : (other : RequestFields) → IsCommandLine other words → other ≡ r
    only other h =
        let same = same_words other h in
        let tasks = one_task task h.task first h.first same.0 task_is h.task_is in
        let parts = one_list line_grammar line_clear adds.0 h.parts (words_before rest) adds.1
        (subst (λ (l : List (List ℕ)). AreParts h.parts (words_before l)) (sym same.1) h.parts_are) in
        h.asks
        ∙ ap (λ (t : Task). with_files (with_parts (only_task t) h.parts) (words_behind h.rest)) tasks
        ∙ ap (λ (l : List LinePart). with_files (with_parts (only_task task) l) (words_behind h.rest)) parts
        ∙ ap (λ (l : List (List ℕ)). with_files (with_parts (only_task task) adds.0) (words_behind l)) (sym same.1)
        ∙ sym all_asked

    -- the task doesn't suit what it asks
    pub unsuited : (Suits r.task r → ⊥) → (other : RequestFields) → IsCommandLine other words → ⊥
    unsuited not other h = not (subst (λ (q : RequestFields). Suits q.task q) (only other h) h.suits)

    -- which is told
    pub reason_told : (misuse : Misuse) → IsReason misuse r.task r → IsMisuse misuse words
    reason_told misuse reason =
        let why : IsUnsuited misuse task rest = record { parts = adds.0; parts_are = adds.1; r = r; asks = all_asked; reason = reason } in
        subst (λ (l : List (List ℕ)). IsMisuse misuse l) (sym words_are) (inr (task, task_is, inr why))
