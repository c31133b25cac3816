-- What is found of files in no order: the trees, and what is said of each file (own).
use Rattle.std.specs.Bool.{MatchBool}
use Rattle.std.specs.Borrow.{Bor}
use Rattle.std.specs.Option.{option_map}
use Rattle.std.specs.Prelude.{◌≡◌, ◌+◌, ◌&&◌, ◌⊎◌, ℕ, Bool, false, not, IsTrue, All, List, [], ◌∷◌, codes, Option, None, Some}
use Rattle.std.specs.Str.{bytes_eq}
use Rattle.rpki_cert.specs.SaidKinds.{SaysKind}
use Rattle.rpki_cert.specs.Verification.{Context}
use Rattle.rpki_path.specs.Judging.{last_certificate}
use Rattle.rpki_path.specs.declared.path_fault.PathFault.{PathFault}
use Rattle.rpki_folder.specs.Folders.{NamesSigner}
use Rattle.rpki_folder.specs.declared.bounds.Limit.{Limit}
use Rattle.rpki_folder.specs.declared.lines.AcceptedPaths.{AcceptedPaths}
use Rattle.rpki_folder.specs.declared.lines.Line.{Line}
use Rattle.rpki_folder.specs.declared.lines.Line.TheVariants as line
use Rattle.rpki_files.specs.Contents.{BeginsWithCertificate, IsList, StandBehind}
use Rattle.rpki_files.specs.Files.{FileFields}
use Rattle.rpki_files.specs.LocatorFiles.{AreLocator}
use Rattle.rpki_verdicts.specs.GivenLocators.{locator_octets}
use Rattle.rpki_verdicts.specs.PathAnswers.{IsNoLocator, reason_of}
use Rattle.rpki_verdicts.specs.Reasons.{IsPathReason}
use Rattle.rpki_verdicts.specs.ShownPaths.{AreShown, placed_of}
use Rattle.rpki_verdicts.specs.TreeParts.{AreAllAccepted, AreDamaged, AreTreesOf, shown_part, wrong_at}
use Rattle.rpki_verdicts.specs.Trees.{TreeFields, is_anchor_at, line_at}
use Rattle.rpki_verdicts.specs.UnseenCertificates.{IsUnseen, error_above, limit_at}
use Rattle.rpki_folder.specs.declared.unseen.Unseen.{Unseen as Why}
use Rattle.rpki_verdicts.specs.declared.parts.TreePart.{TreePart}
use Rattle.rpki_verdicts.specs.declared.parts.Trees.{Trees}
use Rattle.rpki_verdicts.specs.declared.unordered.Tree.{Tree}
use Rattle.rpki_verdicts.specs.declared.unordered.TreeAnswer.{TreeAnswer}
use Rattle.rpki_verdicts.specs.declared.unordered.TreeAnswer.TheVariants.{NoAnchor, Walked}
use Rattle.rpki_verdicts.specs.declared.unordered.WrongAnchor.{WrongAnchor}
use Rattle.rpki_answers.specs.declared.tree_rows.Row.{Row}
use Rattle.rpki_answers.specs.declared.tree_rows.Said.{Said}
use Rattle.rpki_answers.specs.declared.tree_rows.Said.TheVariants.{Anchor, Accepted, Rejected, Unseen, Crl, Neither}
use Rattle.rpki_answers.specs.declared.trees.TreeFinding.{TreeFinding}
use Rattle.rpki_answers.specs.declared.trees.TreeFinding.TheVariants.{NotALocator, Answered}

-- ---- what is found

-- what is found of the files: where one that is given as a TAL is none, that alone; else the trees
abbrev pub IsTreeFinding : Context → TreeFields → TreeFinding → Type 0
IsTreeFinding x q (NotALocator fault) = IsNoLocator q.strict (locator_octets q.locators) fault
IsTreeFinding x q (Answered trees) =
    All (AreLocator q.strict) (locator_octets q.locators) × AreTreesOf x q trees

-- each certificate is a trust anchor or accepted, no bound was met, and, where that is asked, the
-- cache isn't damaged
abbrev pub IsAcceptingFinding : Bool → TreeFinding → Type 0
IsAcceptingFinding strict_exit (NotALocator fault) = ⊥
IsAcceptingFinding strict_exit (Answered trees) =
    AreAllAccepted trees × (IsTrue strict_exit → AreDamaged trees → ⊥)

-- ---- a certificate

-- of a certificate on which there is no verdict: it is wrong as the trust anchor of a TAL, or why
-- there is none, with the error of a rejected issuer
abbrev pub SaysUnseen : Trees → FileFields → Option WrongAnchor → Said → Type 0
SaysUnseen trees file (Some w) said = said ≡ Rejected w.fault
SaysUnseen trees file None said =
    (why : Why) × (error : Option (Bor (List ℕ))) × IsUnseen trees file why
    × (option_map (λ name. name.now) error ≡ error_above trees why) × (said ≡ Unseen why error)

-- where no verdict says it
abbrev pub SaysWithoutVerdict : Trees → ℕ → FileFields → Said → Type 0
SaysWithoutVerdict trees place file said = SaysUnseen trees file (wrong_at trees.parts.items place) said

-- of an accepted certificate in a tree over these files of certificates, under their names below the
-- directory that is named: the paths as they are shown,
-- and as what it was judged by the shown one
abbrev pub SaysAccepted : List FileFields → Tree → ℕ → AcceptedPaths → Said → Type 0
SaysAccepted certs tree place paths (Accepted t shown kind) =
    (t.now ≡ tree) × AreShown certs tree place paths shown
    × SaysKind kind (last_certificate shown.shown.now.judged.holder shown.shown.now.judged.router).fields
SaysAccepted certs tree place paths _ = ⊥

-- of a rejected one
abbrev pub SaysRejected : FileFields → ℕ → PathFault → Said → Type 0
SaysRejected file index error (Rejected fault) =
    (fault.index ≡ index) × IsPathReason error file.octets (reason_of fault)
SaysRejected file index error _ = ⊥

-- by its line in a tree
abbrev pub SaysLine : Trees → Tree → ℕ → FileFields → Option Line → Said → Type 0
SaysLine trees tree place file (Some (line.Accepted paths)) said =
    SaysAccepted (placed_of trees) tree place paths said
SaysLine trees tree place file (Some (line.Rejected index error)) said = SaysRejected file index error said
SaysLine trees tree place file _ said = SaysWithoutVerdict trees place file said

-- by the answer on a TAL: that it is the trust anchor, or a copy of it; or its line
abbrev pub SaysAnswer : Trees → ℕ → FileFields → TreeAnswer → Said → Type 0
SaysAnswer trees place file (NoAnchor wrong) said = SaysWithoutVerdict trees place file said
SaysAnswer trees place file (Walked tree) said =
    MatchBool (is_anchor_at tree place) (said ≡ Anchor)
    (SaysLine trees tree place file (line_at tree place) said)

-- by the part that tells most of it
abbrev pub SaysPart : Trees → ℕ → FileFields → Option TreePart → Said → Type 0
SaysPart trees place file None said = SaysWithoutVerdict trees place file said
SaysPart trees place file (Some part) said = SaysAnswer trees place file part.answer said

-- what is said of the certificate of a file at a place
abbrev pub SaysCertificate : Trees → ℕ → FileFields → Said → Type 0
SaysCertificate trees place file said =
    SaysPart trees place file (shown_part trees.parts.items place) said

-- ---- CRLs

-- a certificate is rejected since no CRL of its issuer can be asked: by an error of revocation that isn't
-- that its issuer revoked it
abbrev pub is_unasked : Said → Bool
is_unasked (Rejected fault) =
    bytes_eq fault.step.now (codes "revocation") && not (bytes_eq fault.name.now (codes "Revoked"))
is_unasked _ = false

-- then this is the key of its issuer, as it names it, where it names one
abbrev pub IsUnaskedKey : FileFields → Said → Option (List ℕ) → Type 0
IsUnaskedKey file said None = IsTrue (is_unasked said) → (key : List ℕ) → NamesSigner key file.octets → ⊥
IsUnaskedKey file said (Some key) = IsTrue (is_unasked said) × NamesSigner key file.octets

-- ---- files

-- what is said of a file, and the limit that was reached below its certificate, where the next
-- certificate stands at this place, and one behind it at the next
abbrev pub SaysFile : Trees → ℕ → ℕ → FileFields → Said → Option Limit → Type 0
SaysFile trees place next file said limit =
    (BeginsWithCertificate file.octets × SaysCertificate trees place file said
    × (limit ≡ limit_at trees place) × (next ≡ place + 1))
    ⊎ ((IsList file.octets × (said ≡ Crl) × (limit ≡ None) × (next ≡ place))
    ⊎ ((BeginsWithCertificate file.octets → ⊥) × (IsList file.octets → ⊥)
    × (said ≡ Neither) × (limit ≡ None) × (next ≡ place)))

-- a row: the file, how many octets stand behind what it begins with, what is said of it, the key of the
-- issuer that has no current CRL, and the limit that was reached below it
pub record IsTreeRow (trees : Trees) (place next : ℕ) (file : FileFields) (row : Row) : Type 0 where
  pub file_is : row.file.now ≡ file
  pub left_is : StandBehind file.octets row.left
  pub says : SaysFile trees place next file row.said row.limit
  pub unasked_is : IsUnaskedKey file row.said row.unasked

-- the rows of files, one after the other, with the places before and behind them
abbrev pub AreRowsFrom : Trees → ℕ → ℕ → List FileFields → List Row → Type 0
AreRowsFrom trees place last [] rows = (rows ≡ []) × (last ≡ place)
AreRowsFrom trees place last (file ∷ files) rows =
    (next : ℕ) × (row : Row) × (more : List Row) × IsTreeRow trees place next file row
    × AreRowsFrom trees next last files more × (rows ≡ row ∷ more)

-- the rows of all files
abbrev pub AreRows : Trees → List FileFields → List Row → Type 0
AreRows trees files rows = (last : ℕ) × AreRowsFrom trees 0 last files rows
