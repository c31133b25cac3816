-- Why there is no verdict on a certificate among files, by the trees of all locators (own).
use Rattle.std.specs.List.{list_any}
use Rattle.std.specs.Prelude.{◌≡◌, ◌||◌, ℕ, Bool, false, if◌then◌else◌, fold, List, length, is_some}
use Rattle.std.specs.Prelude.{Option, None, Some}
use Rattle.std.specs.Option.{option_map, option_or}
use Rattle.rpki_files.specs.Files.{FileFields, contents}
use Rattle.rpki_folder.specs.LimitTables.{both_reached, least, nothing}
use Rattle.rpki_folder.specs.UnseenCertificates.{AreIssuersAmong, IsWhyUnseen, accepted_status, looked_below}
use Rattle.rpki_folder.specs.declared.bounds.Limit.{Limit}
use Rattle.rpki_folder.specs.declared.limits.Reached.{Reached}
use Rattle.rpki_folder.specs.declared.lines.Line.{Line}
use Rattle.rpki_folder.specs.declared.lines.Line.TheVariants as line
use Rattle.rpki_folder.specs.declared.unseen.IssuerStatus.{IssuerStatus}
use Rattle.rpki_folder.specs.declared.unseen.IssuerStatus.TheVariants.{Rejected, Unseen as unseen}
use Rattle.rpki_folder.specs.declared.unseen.Unseen.{Unseen}
use Rattle.rpki_folder.specs.declared.unseen.Unseen.TheVariants.{BelowRejected}
use Rattle.rpki_verdicts.specs.Reasons.{error_name}
use Rattle.rpki_verdicts.specs.ShownPaths.{AreNamedFiles, placed_of}
use Rattle.rpki_verdicts.specs.TreeParts.{files_of, is_told, wrong_at}
use Rattle.rpki_verdicts.specs.Trees.{is_anchor_at, line_at, reached_in}
use Rattle.rpki_verdicts.specs.declared.issuers.Issuers.{Issuers}
use Rattle.rpki_verdicts.specs.declared.parts.Trees.{Trees}
use Rattle.rpki_verdicts.specs.declared.unordered.TreeAnswer.{TreeAnswer}
use Rattle.rpki_verdicts.specs.declared.unordered.TreeAnswer.TheVariants.{NoAnchor, Walked}

-- the certificate at a place is rejected: by a verdict, or as the trust anchor of a locator that has
-- no valid one
abbrev pub is_rejected_at : Trees → ℕ → Bool
is_rejected_at trees place =
    is_told trees.parts.items 2 place || is_some (wrong_at trees.parts.items place)

-- the walk below a trust anchor looked below the CA at a place
abbrev pub looks_below : ℕ → TreeAnswer → Bool
looks_below place (NoAnchor wrong) = false
looks_below place (Walked tree) =
    looked_below (is_anchor_at tree place) (line_at tree place) (reached_in tree place)

-- a walk below one of the trust anchors did
abbrev pub is_looked_at : Trees → ℕ → Bool
is_looked_at trees place = list_any (λ part. looks_below place part.answer) trees.parts.items

-- the limit that was reached at a certificate: of those of all trees the one that asks for least
abbrev pub reached_by : ℕ → TreeAnswer → Reached
reached_by place (NoAnchor wrong) = nothing
reached_by place (Walked tree) = reached_in tree place

abbrev pub limit_at : Trees → ℕ → Option Limit
limit_at trees place =
    least (fold (λ reached part. both_reached reached (reached_by place part.answer)) nothing trees.parts.items)

-- the status of the certificate at a place as an issuer, by all trees
abbrev pub status : Trees → ℕ → IssuerStatus
status trees place =
    if is_told trees.parts.items 1 place
    then accepted_status (is_looked_at trees place) (limit_at trees place)
    else if is_rejected_at trees place then Rejected else unseen

-- each key has its issuer among all certificates, where there is one; and each URI the file that it
-- names, by its name below the directory that is named
pub record AreTreeIssuers (trees : Trees) (issuers : Issuers) : Type 0 where
  pub by_key : AreIssuersAmong (contents (files_of trees)) (status trees) (length (files_of trees)) issuers.by_key
  pub by_uri : AreNamedFiles (placed_of trees) issuers.files

-- the error of a certificate that is rejected, by the first line that rejects it; or as the trust anchor of
-- a locator
abbrev pub error_by : Option Line → Option (List ℕ)
error_by (Some (line.Rejected index fault)) = Some (error_name fault)
error_by _ = None

abbrev pub error_in : ℕ → TreeAnswer → Option (List ℕ)
error_in place (NoAnchor wrong) = None
error_in place (Walked tree) = error_by (line_at tree place)

abbrev pub error_at : Trees → ℕ → Option (List ℕ)
error_at trees place = option_or
    (fold (λ error part. option_or error (error_in place part.answer)) None trees.parts.items)
    (option_map (λ w. w.fault.name.now) (wrong_at trees.parts.items place))

-- that of the rejected issuer
abbrev pub error_above : Trees → Unseen → Option (List ℕ)
error_above trees (BelowRejected issuer) = error_at trees issuer
error_above trees _ = None

-- why there is no verdict on the certificate of a file
abbrev pub IsUnseen : Trees → FileFields → Unseen → Type 0
IsUnseen trees file why = IsWhyUnseen (contents (files_of trees)) (status trees) file.octets why
