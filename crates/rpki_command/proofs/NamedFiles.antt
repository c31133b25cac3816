-- The files that could be read, of those that are named, and what is said of the others.
use Rattle.std.proofs.Common.{◌≡◌, ◌+◌, ◌<◌, ◌≤◌, ◌∷◌, ◌++◌, ℕ, List, [], length, take, get_or, map, sym, ap, subst}
use Rattle.std.proofs.Common.{◌∙◌, inl, inr, refl, append_assoc, arith}
use Rattle.std.proofs.lemmas.List.{append-nil, length-map, map_more}
use Rattle.rpki_files.specs.Files.{FileFields, file_names}
use Rattle.rpki_verdicts.specs.GivenLocators.{LocatorFields, locator_files}
use Rattle.rpki_text.specs.CommandLines.{RequestFields}
use Rattle.rpki_command.specs.ReadFiles.{ReadsFile, IsFileRead, IsObjectRead}
use Rattle.rpki_command.specs.NamedFiles.{AreReadOf, AreFilesRead, AreObjectsRead, AreSomeNamed, AreRead, AreNamedAndRead}
use Rattle.rpki_command.specs.UnreadFiles.{SaysUnread}

module _ (Is : List ℕ → FileFields → Type 0) (Tells : List ℕ → List ℕ → Type 0) where
  both_read : (a b : List (List ℕ)) (fs gs : List FileFields) (s t : List ℕ) → AreReadOf Is Tells a fs s →
      AreReadOf Is Tells b gs t → AreReadOf Is Tells (a ++ b) (fs ++ gs) (s ++ t)
  both_read [] b fs gs s t p q =
      subst (λ (l : List FileFields). AreReadOf Is Tells b (l ++ gs) (s ++ t)) (sym p.0)
      (subst (λ (l : List ℕ). AreReadOf Is Tells b gs (l ++ t)) (sym p.1) q)
  both_read (name ∷ a) b fs gs s t (inl h) q =
      inl (h.0, h.1 ++ gs, h.2, both_read a b h.1 gs s t h.3 q, ap (λ (l : List FileFields). l ++ gs) h.4)
  both_read (name ∷ a) b fs gs s t (inr h) q =
      inr (h.0, h.1 ++ t, h.2, both_read a b fs gs h.1 t h.3 q, ap (λ (l : List ℕ). l ++ t) h.4 ∙ append_assoc h.0 h.1 t)

  -- one more that could be, or couldn't
  pub more_read : {X : Type 0} (now : X → List ℕ) (names : List X) (i : ℕ) (d : X) → i < length names →
      (so_far its : List FileFields) (said more : List ℕ) →
      AreReadOf Is Tells (map now (take i names)) so_far said →
      AreReadOf Is Tells (now (get_or names i d) ∷ []) its more →
      AreReadOf Is Tells (map now (take (i + 1) names)) (so_far ++ its) (said ++ more)
  more_read now names i d low so_far its said more are_read one =
      subst (λ (l : List (List ℕ)). AreReadOf Is Tells l (so_far ++ its) (said ++ more))
      (sym (map_more now names i d low))
      (both_read (map now (take i names)) (now (get_or names i d) ∷ []) so_far its said more are_read one)

  -- one that is told
  pub one_told : (name line : List ℕ) → Tells name line → AreReadOf Is Tells (name ∷ []) [] line
  one_told name line tells = inr (line, [], tells, (refl, refl), sym (append-nil line))

  -- files of some of the names
  some_named : ((name : List ℕ) (file : FileFields) → Is name file → file.name ≡ name) →
      (names : List (List ℕ)) (files : List FileFields) (said : List ℕ) → AreReadOf Is Tells names files said →
      AreSomeNamed names files
  some_named named [] files said none = none.0
  some_named named (name ∷ names) files said (inl h) = inl (h.0, h.1, named name h.0 h.2, some_named named names h.1 said h.3, h.4)
  some_named named (name ∷ names) files said (inr h) = inr (some_named named names files h.1 h.3)

-- ---- those of a request

module _ (reads : ReadsFile) (most : ℕ) where
  files_named : (names : List (List ℕ)) (files : List FileFields) (said : List ℕ) →
      AreFilesRead reads most names files said → AreSomeNamed names files
  files_named names files said are = some_named (IsFileRead reads most) (SaysUnread reads most) (λ name file is. is.0) names files said are

  objects_named : (names : List (List ℕ)) (files : List FileFields) (said : List ℕ) →
      AreObjectsRead reads most names files said → AreSomeNamed names files
  objects_named names files said are = some_named (IsObjectRead reads most) (SaysUnread reads most)
      (λ name file is. is.0) names files said are

-- what could be read is given
pub are_given : (reads : ReadsFile) (r : RequestFields) (files lists : List FileFields) (locators : List LocatorFields)
    (said : List ℕ) → AreRead reads r files lists locators said → AreNamedAndRead r files lists locators
are_given reads r files lists locators said are = record {
  files_are = objects_named reads r.max_size r.files files are.of_files are.files_are;
  lists_are = objects_named reads r.max_size r.lists lists are.of_lists are.lists_are;
  locators_are = files_named reads r.max_size r.locators (locator_files locators) are.of_locators are.locators_are;
  locators_read = are.locators_read;
}

-- ---- all of them

no_more : (names : List (List ℕ)) (files : List FileFields) → AreSomeNamed names files → length files ≤ length names
no_more [] files none = let e : length files ≡ 0 = ap length none in omega arith
no_more (name ∷ names) files (inl h) =
    let e : length files ≡ length (h.0 ∷ h.1) = ap length h.4 in omega (arith, no_more names h.1 h.3)
no_more (name ∷ names) files (inr h) = omega (arith, no_more names files h)

-- as many as are named
pub all_read : (names : List (List ℕ)) (files : List FileFields) → AreSomeNamed names files →
    length files ≡ length names → file_names files ≡ names
all_read [] files none same = ap file_names none
all_read (name ∷ names) files (inl h) same =
    let e : length files ≡ length (h.0 ∷ h.1) = ap length h.4 in
    let fewer : length h.1 ≡ length names = omega arith in
    ap file_names h.4 ∙ ap (λ (n : List ℕ). n ∷ file_names h.1) h.2 ∙ ap (λ (l : List (List ℕ)). name ∷ l) (all_read names h.1 h.3 fewer)
all_read (name ∷ names) files (inr h) same = absurd (omega (arith, no_more names files h))

pub as_many : (names : List (List ℕ)) (files : List FileFields) → file_names files ≡ names → length files ≡ length names
as_many names files are = sym (length-map files (λ file. file.name)) ∙ ap length are
