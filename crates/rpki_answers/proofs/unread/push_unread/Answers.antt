use Rattle.std.specs.Prelude.{if◌then◌else◌}
use Rattle.std.proofs.Common.{◌≡◌, ◌∙◌, ◌+◌, ◌<◌, ℕ, Bool, true, false, Bor, List, [], ◌∷◌, ◌++◌, drop, length, map}
use Rattle.std.proofs.Common.{sym, ap, append_assoc, ⊎_elim}
use Rattle.std.proofs.lemmas.Bool.{cases_lt, false≢true}
use Rattle.std.proofs.lemmas.List.{drop-drop, drop_all, map-append}
use Rattle.rpki_files.specs.Files.{FileFields}
use Rattle.rpki_answers.specs.UnreadNames.{is_next, open_name, unread_names}
use Rattle.rpki_answers.proofs.unread.push_unread.Goals as goal

module _ (name : List ℕ) (files : List FileFields) (place : ℕ) where
  -- a file that has the name is there
  is_there : is_next name (drop place files) ≡ true → place < length files
  is_there is = ⊎_elim (λ low. low)
      (λ high. absurd (false≢true (sym (ap (is_next name) (drop_all place files high)) ∙ is)))
      (cases_lt place (length files))

  -- it is read, and the next name belongs to the next file
  is_read : (more : List (List ℕ)) → is_next name (drop place files) ≡ true →
      unread_names (name ∷ more) (drop place files) ≡ unread_names more (drop (place + 1) files)
  is_read more is =
      ap (λ (b : Bool). if b then unread_names more (drop 1 (drop place files)) else open_name name ∷
      unread_names more (drop place files)) is
      ∙ ap (λ (l : List FileFields). unread_names more l) (drop-drop 1 place files)

  -- it isn't
  is_unread : (more : List (List ℕ)) → is_next name (drop place files) ≡ false →
      unread_names (name ∷ more) (drop place files) ≡ open_name name ∷ unread_names more (drop place files)
  is_unread more is =
      ap (λ (b : Bool). if b then unread_names more (drop 1 (drop place files)) else open_name name ∷
      unread_names more (drop place files)) is

-- one more name
one_unread : (old new : List (Bor (List ℕ))) (its : Bor (List ℕ)) (name : List ℕ) (rest : List (List ℕ)) →
    new ≡ old ++ its ∷ [] → its.now ≡ open_name name →
    map (λ n. n.now) old ++ open_name name ∷ rest ≡ map (λ n. n.now) new ++ rest
one_unread old new its name rest pushed is =
    let now : List (Bor (List ℕ)) → List (List ℕ) = map (λ n. n.now) in
    sym (append_assoc (now old) (open_name name ∷ []) rest)
    ∙ ap (λ (l : List (List ℕ)). l ++ rest)
    (sym (ap now pushed ∙ map-append (λ (n : Bor (List ℕ)). n.now) old (its ∷ []) ∙
    ap (λ (n : List ℕ). now old ++ n ∷ []) is))

pub returns-then-is_at : goal.returns-then-is_at
returns-then-is_at c =
    λ more. ap (λ (l : List (List ℕ)). map (λ n. n.now) c.args.unread.now.items ++ l)
    (is_read c.args.name.now c.args.files.now c.args.place more (sym c.is_at.ensures ∙ c.if-is_at.true))

pub returns : goal.returns
returns c =
    λ more. ap (λ (l : List (List ℕ)). map (λ n. n.now) c.args.unread.now.items ++ l)
    (is_unread c.args.name.now c.args.files.now c.args.place more (sym c.is_at.ensures ∙ c.if-is_at.false))
    ∙ one_unread c.args.unread.now.items c.push.new.self.items c.open_name.result c.args.name.now
    _ c.in_ok-push.ensures.items c.open_name.ensures
