-- The trees of files, one for each key of which a locator is given, and what they say together of a
-- certificate (RFC 8630 3; own: which of them is told).
use Rattle.std.specs.List.{list_any}
use Rattle.std.specs.Option.{option_or}
use Rattle.std.specs.Prelude.{◌≡◌, ◌≢◌, ◌==◌, ◌⊎◌, ◌&&◌, ℕ, zero, suc, Bool, true, IsTrue, if◌then◌else◌, List, []}
use Rattle.std.specs.Prelude.{◌∷◌, ◌++◌, length, map, nat_le, find, flat_map, fold, All, Any, Option, Some, Ok}
use Rattle.rpki_cert.specs.Verification.{Context}
use Rattle.rpki_files.specs.Files.{FileFields}
use Rattle.rpki_folder.specs.Walks.{worse}
use Rattle.rpki_folder.specs.declared.bounds.Ended.{Ended}
use Rattle.rpki_folder.specs.declared.bounds.Ended.TheVariants.{Whole}
use Rattle.rpki_folder.specs.declared.lines.Line.{Line}
use Rattle.rpki_folder.specs.declared.lines.Line.TheVariants as line
use Rattle.rpki_keys.specs.Locators.{NamedTal}
use Rattle.rpki_verdicts.specs.Damage.{AreSoMany, IsBrokenList, IsUnknownFile}
use Rattle.rpki_verdicts.specs.GivenLocators.{LocatorFields, HasKeyRead}
use Rattle.rpki_verdicts.specs.Trees.{TreeFields, AreCertificatesOf, IsTreeAnswer, is_anchor_at, line_at}
use Rattle.rpki_verdicts.specs.declared.parts.TreePart.{TreePart}
use Rattle.rpki_verdicts.specs.declared.parts.Trees.{Trees}
use Rattle.rpki_verdicts.specs.declared.unordered.TreeAnswer.{TreeAnswer}
use Rattle.rpki_verdicts.specs.declared.unordered.TreeAnswer.TheVariants.{NoAnchor, Walked}
use Rattle.rpki_verdicts.specs.declared.unordered.WrongAnchor.{WrongAnchor}

-- ---- one for each key

-- the file was read as a locator, and none of the others has its key
abbrev pub IsOfNewKey : List LocatorFields → LocatorFields → Type 0
IsOfNewKey others l =
    (t : NamedTal) × (l.read ≡ Ok t) × (Any (HasKeyRead t.tal.key) others → ⊥)

-- of each key the first locator, in their order, where these stand before them
abbrev pub AreFirstOfKeys : List LocatorFields → List LocatorFields → List LocatorFields → Type 0
AreFirstOfKeys before [] firsts = firsts ≡ []
AreFirstOfKeys before (l ∷ more) firsts =
    ((IsOfNewKey before l → ⊥) × AreFirstOfKeys (before ++ l ∷ []) more firsts)
    ⊎ ((rest : List LocatorFields) × IsOfNewKey before l
    × AreFirstOfKeys (before ++ l ∷ []) more rest × (firsts ≡ l ∷ rest))

-- what is answered of a locator is the answer of that one alone
abbrev pub IsPartOf : Context → TreeFields → TreePart → Type 0
IsPartOf x q part = IsTreeAnswer x q part.locator.now part.answer

-- the certificates of the files
abbrev pub files_of : Trees → List FileFields
files_of trees = map (λ file. file.now) trees.certs.items

-- the trees of the files: of each key of which a locator is given one, over the same files
pub record AreTreesOf (x : Context) (q : TreeFields) (trees : Trees) : Type 0 where
  pub certs_are : AreCertificatesOf q.files (files_of trees)
  pub root_is : trees.root.now ≡ q.root
  pub locators_are : AreFirstOfKeys [] q.locators (map (λ part. part.locator.now) trees.parts.items)
  pub parts_are : All (IsPartOf x q) trees.parts.items
  pub broken_lists_are : AreSoMany IsBrokenList q.files trees.broken_lists
  pub others_are : AreSoMany IsUnknownFile q.files trees.others

-- ---- what they say of a certificate

-- how much is told of a certificate of which there is no verdict: less, where the walk met no bound
abbrev pub unseen_rank : Ended → ℕ
unseen_rank Whole = 4
unseen_rank _ = 3

-- and by its line, where there is one: most, that it is accepted
abbrev pub line_rank : Ended → Option Line → ℕ
line_rank ended (Some (line.Accepted paths)) = 1
line_rank ended (Some (line.Rejected step fault)) = 2
line_rank ended _ = unseen_rank ended

-- How much a part tells of the certificate at a place, the least number most: that it is the trust
-- anchor, or a copy of it; that it is accepted; that it is rejected; that it wasn't looked at, since
-- a bound was met; that it has no issuer here; and nothing, where no trust anchor is valid
abbrev pub answer_rank : TreeAnswer → ℕ → ℕ
answer_rank (NoAnchor wrong) place = 5
answer_rank (Walked tree) place =
    if is_anchor_at tree place then 0 else line_rank tree.ended (line_at tree place)

abbrev pub rank : TreePart → ℕ → ℕ
rank part place = answer_rank part.answer place

-- the first part that tells so much of it
abbrev pub first_telling : List TreePart → ℕ → ℕ → Option TreePart
first_telling parts place most = find (λ part. nat_le (rank part place) most) parts

-- the part by which the line of the certificate at a place is: of those that tell most of it the
-- first; none, where no trust anchor is valid
abbrev pub shown_part : List TreePart → ℕ → Option TreePart
shown_part parts place =
    option_or (first_telling parts place 0) (option_or (first_telling parts place 1)
    (option_or (first_telling parts place 2) (option_or (first_telling parts place 3)
    (first_telling parts place 4))))

-- ---- all together

-- how the walk of a part ended, where there was one
abbrev pub part_ended : TreeAnswer → Ended
part_ended (NoAnchor wrong) = Whole
part_ended (Walked tree) = tree.ended

-- how all walks ended together
abbrev pub worst_end : List TreePart → Ended
worst_end parts = fold (λ ended part. worse ended (part_ended part.answer)) Whole parts

-- those that have the key of a locator and are wrong as its trust anchor, where none is valid
abbrev pub wrong_in : TreeAnswer → List WrongAnchor
wrong_in (NoAnchor wrong) = wrong.items
wrong_in (Walked tree) = []

abbrev pub wrong_of : List TreePart → List WrongAnchor
wrong_of parts = flat_map (λ part. wrong_in part.answer) parts

-- the first of them at a place
abbrev pub wrong_at : List TreePart → ℕ → Option WrongAnchor
wrong_at parts place = find (λ w. w.place == place) (wrong_of parts)

-- the part has a valid trust anchor, and its walk met no bound
abbrev pub IsWholeWalk : TreeAnswer → Type 0
IsWholeWalk (NoAnchor wrong) = ⊥
IsWholeWalk (Walked tree) = tree.ended ≡ Whole

-- of the certificate at a place a part tells so much
abbrev pub is_told : List TreePart → ℕ → ℕ → Bool
is_told parts most place = list_any (λ part. nat_le (rank part place) most) parts

-- of each of the first n
abbrev pub are_told_below : List TreePart → ℕ → ℕ → Bool
are_told_below parts most zero = true
are_told_below parts most (suc n) = are_told_below parts most n && is_told parts most n

-- of each certificate
abbrev pub are_told : Trees → ℕ → Bool
are_told trees most = are_told_below trees.parts.items most (length trees.certs.items)

-- each is a trust anchor
abbrev pub are_anchors : Trees → Bool
are_anchors trees = are_told trees 0

-- among the files is one of which nothing can be asked, or nothing but trust anchors
abbrev pub AreDamaged : Trees → Type 0
AreDamaged trees = (trees.broken_lists ≢ 0) ⊎ ((trees.others ≢ 0) ⊎ IsTrue (are_anchors trees))

-- a locator is given, each has a valid trust anchor, no walk met a bound, and each certificate is a
-- trust anchor or accepted
pub record AreAllAccepted (trees : Trees) : Type 0 where
  pub some : trees.parts.items ≢ []
  pub whole : All (λ part. IsWholeWalk part.answer) trees.parts.items
  pub accepted : IsTrue (are_told trees 1)
