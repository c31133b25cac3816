-- The document of files in no order: a head for each TAL, a row for each file, and the counts (own).
use Rattle.std.specs.BTreeSet.{insert_key}
use Rattle.std.specs.Bool.{MatchBool}
use Rattle.std.specs.Cmp.Lexicographic.{slice_cmp}
use Rattle.std.specs.List.{AllZip, flat_map, list_any}
use Rattle.std.specs.Option.{option_map}
use Rattle.std.specs.Ordering.{nat_cmp}
use Rattle.std.specs.Prelude.{◌≡◌, ◌==◌, ◌↔◌, ℕ, Bool, IsTrue, true, false, if◌then◌else◌, fold, List, [], ◌∷◌, ◌++◌}
use Rattle.std.specs.Prelude.{length, map, count_by, codes, unwrap_or, Option, Some, None}
use Rattle.std.specs.Str.{bytes_eq}
use Rattle.rpki_document.specs.Documents.{text, inner, characters, count, flag, Span, say, tell, show, keep, Node}
use Rattle.rpki_document.specs.Documents.{head, line, further, unsaid, inside, each, aside, document_of}
use Rattle.rpki_document.specs.Documents.{document_text, document_json, kept_node}
use Rattle.rpki_files.specs.Files.{FileFields}
use Rattle.rpki_folder.specs.declared.bounds.Ended.{Ended}
use Rattle.rpki_folder.specs.declared.bounds.Ended.TheVariants.{Whole, TooDeep, OutOfSteps}
use Rattle.rpki_folder.specs.declared.bounds.Limit.{Limit}
use Rattle.rpki_folder.specs.declared.bounds.Limit.TheVariants.{Depth, Steps as steps}
use Rattle.rpki_folder.specs.declared.find.FoundPath.{FoundPath}
use Rattle.rpki_cert.specs.declared.inspect.Kind.{Kind}
use Rattle.rpki_text.specs.declared.command_line.arguments.Format.{Format}
use Rattle.rpki_text.specs.declared.command_line.arguments.Format.TheVariants.{Text, Json, JsonLines}
use Rattle.rpki_verdicts.specs.ShownPaths.{HoldSame}
use Rattle.rpki_verdicts.specs.TreeParts.{are_anchors, files_of, worst_end}
use Rattle.rpki_verdicts.specs.Trees.{TreeFields, certs_of}
use Rattle.rpki_folder.specs.declared.unseen.Unseen.{Unseen as Why}
use Rattle.rpki_folder.specs.declared.unseen.Unseen.TheVariants as why
use Rattle.rpki_verdicts.specs.declared.parts.TreePart.{TreePart}
use Rattle.rpki_verdicts.specs.declared.parts.Trees.{Trees}
use Rattle.rpki_verdicts.specs.declared.path.Fault.{Fault}
use Rattle.rpki_verdicts.specs.declared.shown_paths.ShownPaths.{ShownPaths}
use Rattle.rpki_verdicts.specs.declared.unordered.Tree.{Tree}
use Rattle.rpki_verdicts.specs.declared.unordered.TreeAnswer.{TreeAnswer}
use Rattle.rpki_verdicts.specs.declared.unordered.TreeAnswer.TheVariants.{NoAnchor, Walked}
use Rattle.rpki_answers.specs.JsonTexts.{json_value_text}
use Rattle.rpki_answers.specs.ToldValues.{kind_told}
use Rattle.rpki_answers.specs.TreeRows.{AreRows}
use Rattle.rpki_answers.specs.Verdicts.{AreHeld, fault_spans, not_locators, reason_spans, time_node, unchecked}
use Rattle.rpki_answers.specs.Verdicts.{unchecked_names, unjudged_nodes}
use Rattle.rpki_answers.specs.VerdictTexts.{file_name_at}
use Rattle.rpki_answers.specs.declared.tree_rows.Row.{Row}
use Rattle.rpki_answers.specs.declared.tree_rows.Said.{Said}
use Rattle.rpki_answers.specs.declared.tree_rows.Said.TheVariants as said
use Rattle.rpki_answers.specs.declared.tree_rows.Word.{Word}
use Rattle.rpki_answers.specs.declared.tree_rows.Word.TheVariants as word
use Rattle.rpki_answers.specs.declared.trees.TreeFinding.{TreeFinding}
use Rattle.rpki_answers.specs.declared.trees.TreeFinding.TheVariants.{NotALocator, Answered}
pub mod Steps

-- ---- words

-- the word of a certificate on which there is no verdict
abbrev pub unseen_word : Why → Word
unseen_word why.NoIssuer = word.NoIssuer
unseen_word (why.NotBelow issuer) = word.NotIssued
unseen_word (why.NotCa issuer) = word.NotCa
unseen_word (why.NotLookedAt issuer limit) = word.NotLookedAt
unseen_word (why.BelowRejected issuer) = word.BelowRejected
unseen_word (why.BelowUnseen issuer) = word.BelowUnseen

-- that of a file
abbrev pub word_of : Said → Word
word_of said.Anchor = word.Anchor
word_of (said.Accepted tree paths kind) = word.Accepted
word_of (said.Rejected fault) = word.Rejected
word_of (said.Unseen reason error) = unseen_word reason
word_of said.Crl = word.Crl
word_of said.Neither = word.Neither

-- for a person, as the label of a line
abbrev pub word_label : Word → List ℕ
word_label word.Anchor = codes "trust anchor"
word_label word.Accepted = codes "accepted"
word_label word.Rejected = codes "rejected"
word_label word.BelowRejected = codes "below a rejected CA"
word_label word.BelowUnseen = codes "below an unjudged CA"
word_label word.NotLookedAt = codes "not looked at"
word_label word.NotIssued = codes "not issued by a CA here"
word_label word.NotCa = codes "issuer isn't a CA"
word_label word.NoIssuer = codes "no issuer here"
word_label word.Crl = codes "CRL"
word_label word.Neither = codes "neither certificate nor CRL"

-- for a program
abbrev pub word_key : Word → List ℕ
word_key word.Anchor = codes "trust_anchor"
word_key word.Accepted = codes "accepted"
word_key word.Rejected = codes "rejected"
word_key word.BelowRejected = codes "below_rejected"
word_key word.BelowUnseen = codes "below_unseen"
word_key word.NotLookedAt = codes "not_looked_at"
word_key word.NotIssued = codes "not_issued"
word_key word.NotCa = codes "issuer_not_ca"
word_key word.NoIssuer = codes "no_issuer"
word_key word.Crl = codes "crl"
word_key word.Neither = codes "neither"

-- the certificate of a file with this word isn't accepted
abbrev pub is_unaccepted : Word → Bool
is_unaccepted word.Anchor = false
is_unaccepted word.Accepted = false
is_unaccepted word.Crl = false
is_unaccepted word.Neither = false
is_unaccepted _ = true

-- ---- a row

-- the line of a file: the word, and what is said behind it
abbrev pub row_head : Word → List Span → Node
row_head w spans = head (word_label w) (keep (codes "verdict") (text (word_key w)) ∷ spans)

-- the file alone, and one behind which more is said
abbrev pub file_last : List ℕ → List Span
file_last name = tell (codes "file") (text name) ∷ []

abbrev pub file_first : List ℕ → List Span → List Span
file_first name spans = tell (codes "file") (inner name) ∷ spans

-- how many octets stand behind the certificate or the CRL that a file begins with
abbrev pub left_words : ℕ → List ℕ
left_words left = if left == 1 then codes " byte after its end" else codes " bytes after its end"

abbrev pub left_line : ℕ → Node
left_line left = further (tell (codes "bytes_after_end") (count left) ∷ say (left_words left) ∷ [])

-- if some do
abbrev pub left_nodes : ℕ → List Node
left_nodes left = if left == 0 then [] else left_line left ∷ []

-- a rejected certificate, and why, as `validate` says it
abbrev pub rejected_head : List ℕ → List ℕ → List ℕ → List ℕ → Node
rejected_head file says name section =
    row_head word.Rejected (file_first file (say (codes ": ") ∷ reason_spans says name section))

-- how many certificates are above it, and in which step it is rejected
abbrev pub index_node : ℕ → List ℕ → Node
index_node index step =
    unsaid (keep (codes "index") (count index) ∷ keep (codes "step") (text step) ∷ [])

abbrev pub rejected_row : List ℕ → Fault → List Node
rejected_row file f =
    rejected_head file f.rule.says.now f.name.now f.rule.section.now
    ∷ index_node f.index f.step.now
    ∷ unsaid (fault_spans f.name.now f.rule.says.now f.rule.section.now)
    ∷ []

-- the name of the certificate's file at a place
abbrev pub name_of : List FileFields → ℕ → List ℕ
name_of certs place = unwrap_or (file_name_at certs place) []

-- that a limit was reached below a CA, and what it takes to go on there
abbrev pub limit_spans : Limit → List Span
limit_spans Depth =
    keep (codes "limit") (text (codes "depth"))
    ∷ say (codes "limit of depth reached below it, a greater --depth is needed") ∷ []
limit_spans (steps None) =
    keep (codes "limit") (text (codes "steps"))
    ∷ say (codes "limit of steps reached below it, more than any --steps is needed") ∷ []
limit_spans (steps (Some needed)) =
    keep (codes "limit") (text (codes "steps"))
    ∷ say (codes "limit of steps reached below it, --steps ")
    ∷ tell (codes "steps_needed") (count needed) ∷ say (codes " is needed") ∷ []

-- below the row of that CA
abbrev pub limit_nodes : Option Limit → List Node
limit_nodes None = []
limit_nodes (Some limit) = further (limit_spans limit) ∷ []

-- the issuer of a certificate on which there is no verdict
abbrev pub issuer_spans : List ℕ → List Span
issuer_spans issuer = say (codes ", issuer ") ∷ tell (codes "issuer") (text issuer) ∷ []

-- and the limit that was reached below it
abbrev pub limited_spans : List ℕ → Limit → List Span
limited_spans issuer limit =
    say (codes ", issuer ") ∷ tell (codes "issuer") (inner issuer) ∷ say (codes ": ")
    ∷ limit_spans limit

-- and its error, if it has one
abbrev pub rejected_spans : List ℕ → Option (List ℕ) → List Span
rejected_spans issuer None = issuer_spans issuer
rejected_spans issuer (Some error) =
    say (codes ", issuer ") ∷ tell (codes "issuer") (inner issuer) ∷ say (codes ": ")
    ∷ tell (codes "issuer_fault") (text error) ∷ []

-- of such a certificate, among these
abbrev pub unseen_spans : List FileFields → Why → Option (List ℕ) → List Span
unseen_spans certs why.NoIssuer error = []
unseen_spans certs (why.NotBelow issuer) error = issuer_spans (name_of certs issuer)
unseen_spans certs (why.NotCa issuer) error = issuer_spans (name_of certs issuer)
unseen_spans certs (why.NotLookedAt issuer limit) error = limited_spans (name_of certs issuer) limit
unseen_spans certs (why.BelowRejected issuer) error = rejected_spans (name_of certs issuer) error
unseen_spans certs (why.BelowUnseen issuer) error = issuer_spans (name_of certs issuer)

abbrev pub unseen_row : List FileFields → List ℕ → Why → Option (List ℕ) → List Node
unseen_row certs name reason error =
    row_head (unseen_word reason) (file_first name (unseen_spans certs reason error)) ∷ []

-- the names of the CAs at these places, each behind an arrow
abbrev pub below_spans : List FileFields → List ℕ → List Span
below_spans certs places =
    flat_map (λ place. say (codes " > ") ∷ show (inner (name_of certs place)) ∷ []) places

-- those of the trust anchor and of the CAs, for a program
abbrev pub above_nodes : List FileFields → List ℕ → List Node
above_nodes certs places = map (λ place. kept_node [] (text (name_of certs place))) places

-- an accepted certificate: as what it was judged, and the CAs above it from the trust anchor down
abbrev pub accepted_head : List ℕ → Tree → List ℕ → Kind → Node
accepted_head name tree above kind =
    row_head word.Accepted (file_first name (say (codes ", ") ∷ tell (codes "judged_as") (kind_told kind)
    ∷ say (codes ", below ") ∷ show (inner (name_of (certs_of tree) tree.anchor))
    ∷ below_spans (certs_of tree) above))

-- those, for a program
abbrev pub above_node : Tree → List ℕ → Node
above_node tree above =
    each (codes "above") (document_of (above_nodes (certs_of tree) (tree.anchor ∷ above)))

-- the shown path among all that are kept
abbrev pub shown_node : Tree → List ℕ → Node
shown_node tree above =
    inside [] (document_of (above_node tree above ∷ kept_node (codes "same_resources") (flag true) ∷ []))

-- whether another path gives the certificate the resources of the shown one
abbrev pub same_spans : Bool → List Span
same_spans true = []
same_spans false = say (codes ": other resources") ∷ []

-- the line of such a path, by the CAs at these places, and the path among all
abbrev pub also_line : Tree → List ℕ → Bool → Node
also_line tree above same = further (keep (codes "same_resources") (flag same)
    ∷ say (codes "also below ") ∷ show (inner (name_of (certs_of tree) tree.anchor))
    ∷ (below_spans (certs_of tree) above ++ same_spans same))

abbrev pub also_node : Tree → List ℕ → Bool → Node
also_node tree above same =
    inside [] (document_of (above_node tree above ∷ also_line tree above same ∷ []))

-- what is said of another path beside the shown one
abbrev pub IsOtherPath : Tree → FoundPath → FoundPath → Node → Type 0
IsOtherPath tree shown path node =
    (same : Bool) × (IsTrue same ↔ HoldSame shown.judged.holder path.judged.holder)
    × (node ≡ also_node tree path.above.items same)

abbrev pub AreOtherPaths : Tree → FoundPath → List FoundPath → List Node → Type 0
AreOtherPaths tree shown paths nodes = AllZip (IsOtherPath tree shown) paths nodes

-- all paths, if there are several
abbrev pub AreAll : Tree → FoundPath → List FoundPath → List Node → Type 0
AreAll tree shown [] nodes = nodes ≡ []
AreAll tree shown (path ∷ paths) nodes =
    (others : List Node) × AreOtherPaths tree shown (path ∷ paths) others
    × (nodes ≡ each (codes "paths") (document_of (shown_node tree shown.above.items ∷ others)) ∷ [])

abbrev pub ArePathNodes : Tree → ShownPaths → List Node → Type 0
ArePathNodes tree paths nodes = AreAll tree paths.shown.now (map (λ path. path.now) paths.others.items) nodes

-- how many more there are
abbrev pub more_line : ℕ → Node
more_line more =
    further (say (codes "and ") ∷ tell (codes "more_paths") (count more) ∷ say (codes " more") ∷ [])

-- if there are some
abbrev pub more_nodes : ℕ → List Node
more_nodes more = if more == 0 then [] else more_line more ∷ []

-- an accepted certificate, for a program with what it holds by the shown path
abbrev pub AreAcceptedNodes : List ℕ → Tree → ShownPaths → Kind → List Node → Type 0
AreAcceptedNodes name tree paths kind nodes =
    (held : List Node) × (several : List Node)
    × AreHeld paths.shown.now.judged.holder paths.shown.now.judged.router held
    × ArePathNodes tree paths several
    × (nodes ≡ accepted_head name tree paths.shown.now.above.items kind
    ∷ above_node tree paths.shown.now.above.items ∷ aside (document_of held)
    ∷ (several ++ more_nodes paths.more))

-- what is said of a file
abbrev pub AreSaid : List FileFields → List ℕ → Said → List Node → Type 0
AreSaid certs name (said.Accepted tree paths kind) nodes = AreAcceptedNodes name tree.now paths kind nodes
AreSaid certs name (said.Rejected fault) nodes = nodes ≡ rejected_row name fault
AreSaid certs name (said.Unseen reason error) nodes =
    nodes ≡ unseen_row certs name reason (option_map (λ e. e.now) error)
AreSaid certs name said.Anchor nodes = nodes ≡ row_head word.Anchor (file_last name) ∷ []
AreSaid certs name said.Crl nodes = nodes ≡ row_head word.Crl (file_last name) ∷ []
AreSaid certs name said.Neither nodes = nodes ≡ row_head word.Neither (file_last name) ∷ []

-- the document of a row
abbrev pub IsRowDocument : List FileFields → Row → List Node → Type 0
IsRowDocument certs row nodes =
    (of_it : List Node) × AreSaid certs row.file.now.name row.said of_it
    × (nodes ≡ of_it ++ (limit_nodes row.limit ++ left_nodes row.left))

-- the row is printed, where only certificates that aren't accepted are
abbrev pub is_printed : Bool → Row → Bool
is_printed only row = if only then is_unaccepted (word_of row.said) else true

-- its document alone; none, where it isn't printed
abbrev pub PrintsRow : Bool → List FileFields → Row → List (List Node) → Type 0
PrintsRow only certs row documents =
    MatchBool (is_printed only row)
    ((nodes : List Node) × IsRowDocument certs row nodes × (documents ≡ nodes ∷ []))
    (documents ≡ [])

-- those of all rows, one after the other
abbrev pub PrintsRows : Bool → List FileFields → List Row → List (List Node) → Type 0
PrintsRows only certs [] documents = documents ≡ []
PrintsRows only certs (row ∷ rows) documents =
    (first : List (List Node)) × (more : List (List Node)) × PrintsRow only certs row first
    × PrintsRows only certs rows more × (documents ≡ first ++ more)

-- ---- heads

-- how far a walk went
abbrev pub ended_word : Ended → List ℕ
ended_word Whole = codes "whole"
ended_word TooDeep = codes "too_deep"
ended_word OutOfSteps = codes "out_of_steps"

-- a TAL without a valid trust anchor
abbrev pub no_anchor_head : List ℕ → Node
no_anchor_head name = head (codes "TAL") (
    tell (codes "tal") (inner name)
    ∷ say (codes ": no valid trust anchor (NoAnchor, RFC 8630 3)")
    ∷ keep (codes "fault") (text (codes "NoAnchor")) ∷ keep (codes "standard") (text (codes "RFC 8630 3")) ∷ [])

-- a TAL, and the trust anchor of its tree
abbrev pub anchor_head : List ℕ → Tree → Node
anchor_head name tree = head (codes "TAL") (
    tell (codes "tal") (inner name) ∷ keep (codes "ended") (text (ended_word tree.ended))
    ∷ say (codes ", trust anchor ")
    ∷ tell (codes "trust_anchor") (text (name_of (certs_of tree) tree.anchor)) ∷ [])

abbrev pub tal_head : List ℕ → TreeAnswer → Node
tal_head name (NoAnchor wrong) = no_anchor_head name
tal_head name (Walked tree) = anchor_head name tree

abbrev pub tal_node : TreePart → Node
tal_node part = inside [] (document_of (tal_head part.locator.now.file.name part.answer ∷ []))

-- the heads of the TALs
abbrev pub tals_node : Trees → Node
tals_node trees = each (codes "tals") (document_of (map tal_node trees.parts.items))

-- ---- counts

-- two words are the same
abbrev pub is_word : Word → Word → Bool
is_word w v = bytes_eq (word_key v) (word_key w)

-- how many rows have a word
abbrev pub has_word : Word → Row → Bool
has_word w row = is_word w (word_of row.said)

abbrev pub count_of : Word → List Row → ℕ
count_of w rows = count_by (has_word w) rows

-- the line of such a count
abbrev pub count_line : List ℕ → Word → List Row → Node
count_line label w rows = line label (tell (word_key w) (count (count_of w rows)) ∷ [])

-- the counts of the words
abbrev pub count_lines : List Row → List Node
count_lines rows =
    count_line (codes "Trust anchors") word.Anchor rows
    ∷ count_line (codes "Accepted") word.Accepted rows
    ∷ count_line (codes "Rejected") word.Rejected rows
    ∷ count_line (codes "Below a rejected CA") word.BelowRejected rows
    ∷ count_line (codes "Below an unjudged CA") word.BelowUnseen rows
    ∷ count_line (codes "Not looked at") word.NotLookedAt rows
    ∷ count_line (codes "Not issued by a CA here") word.NotIssued rows
    ∷ count_line (codes "Issuer isn't a CA") word.NotCa rows
    ∷ count_line (codes "No issuer here") word.NoIssuer rows
    ∷ count_line (codes "CRLs") word.Crl rows
    ∷ count_line (codes "Other files") word.Neither rows
    ∷ []

-- and of all certificates
abbrev pub counts_node : Trees → List Row → Node
counts_node trees rows = inside (codes "counts") (document_of (
    line (codes "Certificates") (tell (codes "certificates") (count (length trees.certs.items)) ∷ [])
    ∷ count_lines rows))

-- the row has this error
abbrev pub said_error : Said → Option (List ℕ)
said_error (said.Rejected fault) = Some fault.name.now
said_error _ = None

abbrev pub is_error : List ℕ → Option (List ℕ) → Bool
is_error name None = false
is_error name (Some error) = bytes_eq error name

abbrev pub has_error : List ℕ → Row → Bool
has_error name row = is_error name (said_error row.said)

-- the errors so far, with that of a row, where it is new
abbrev pub with_error : List (List ℕ) → Option (List ℕ) → List (List ℕ)
with_error names None = names
with_error names (Some error) =
    if list_any (λ name. bytes_eq name error) names then names else names ++ error ∷ []

-- the errors of rows, each once, in the order of the rows
abbrev pub errors_of : List Row → List (List ℕ)
errors_of rows = fold (λ names row. with_error names (said_error row.said)) [] rows

-- how many rows have an error
abbrev pub error_node : List Row → List ℕ → Node
error_node rows name = inside [] (document_of (
    line (codes "Error") (tell (codes "fault") (text name) ∷ say (codes ": ")
    ∷ tell (codes "count") (count (count_by (has_error name) rows)) ∷ []) ∷ []))

abbrev pub errors_node : List Row → Node
errors_node rows = each (codes "errors") (document_of (map (error_node rows) (errors_of rows)))

-- the keys of the CAs of which no CRL can be asked, with that of a row; each once, by their octets
abbrev pub with_unasked : List (List ℕ) → Option (List ℕ) → List (List ℕ)
with_unasked keys None = keys
with_unasked keys (Some key) = insert_key (slice_cmp nat_cmp) keys key

abbrev pub unasked_of : List Row → List (List ℕ)
unasked_of rows = fold (λ keys row. with_unasked keys row.unasked) [] rows

-- what damages a cache
abbrev pub damage_nodes : Trees → List Row → List Node
damage_nodes trees rows =
    line (codes "Malformed CRLs") (tell (codes "malformed_crls") (count trees.broken_lists) ∷ [])
    ∷ line (codes "CAs without current CRL")
    (tell (codes "cas_without_current_crl") (count (length (unasked_of rows))) ∷ [])
    ∷ line (codes "Unknown files") (tell (codes "unknown_files") (count trees.others) ∷ [])
    ∷ line (codes "Trust anchors only") (tell (codes "only_trust_anchors") (flag (are_anchors trees)) ∷ [])
    ∷ []

-- ---- the whole

-- every certificate was judged
abbrev pub whole_line : Node
whole_line = line (codes "Searched") (
    keep (codes "ended") (text (codes "whole")) ∷ say (codes "every certificate below the trust anchors") ∷ [])

-- a bound was met, and which option is a greater one
abbrev pub limited_line : List ℕ → List ℕ → ℕ → List ℕ → Node
limited_line w before limit behind = line (codes "Searched") (
    keep (codes "ended") (text w) ∷ say before ∷ show (count limit) ∷ say behind ∷ [])

-- how far the walks went
abbrev pub searched_line : TreeFields → Ended → Node
searched_line q Whole = whole_line
searched_line q TooDeep = limited_line (codes "too_deep") (codes "at most ") q.depth
    (codes " certificates down, more are below (--depth sets the limit)")
searched_line q OutOfSteps = limited_line (codes "out_of_steps") (codes "not all, the limit of ") q.steps
    (codes " steps was reached (--steps sets the limit)")

-- what wasn't checked
abbrev pub tree_unchecked : TreeFields → List Node
tree_unchecked q =
    unchecked (codes "manifests, a withheld file isn't missed")
    ∷ (unchecked_names q.names ++ unchecked (codes "whether the RPKI uses the last keys") ∷ [])

-- what was asked, for a program
abbrev pub tree_asked : Bool → Node
tree_asked names =
    unsaid (keep (codes "names_checked") (flag names) ∷ keep (codes "manifests_checked") (flag false)
    ∷ keep (codes "last_keys_checked") (flag false) ∷ [])

-- the names of what can't be read, for a program
abbrev pub unread_node : List (List ℕ) → Node
unread_node unread =
    each (codes "unread") (document_of (map (λ name. kept_node [] (characters name)) unread))

-- what is said behind the rows
abbrev pub end_nodes : TreeFields → Trees → List Row → List (List ℕ) → List Node
end_nodes q trees rows unread =
    time_node q.at ∷ counts_node trees rows ∷ errors_node rows ∷ unread_node unread
    ∷ (damage_nodes trees rows ++ searched_line q (worst_end trees.parts.items)
    ∷ (tree_unchecked q ++ tree_asked q.names ∷ []))

-- where a file given as a TAL is none
abbrev pub no_locator_nodes : TreeFields → Fault → List Node
no_locator_nodes q f =
    unjudged_nodes f.step.now f.rule.says.now f.name.now f.rule.section.now
    ++ each (codes "not_tals") (document_of (not_locators q.locators)) ∷ time_node q.at ∷ []

-- a document in a format
abbrev pub rendered : Format → List Node → List ℕ
rendered Text nodes = document_text (document_of nodes)
rendered format nodes = json_value_text format (document_json (document_of nodes))

-- the documents of rows, as one
abbrev pub files_node : List (List Node) → Node
files_node documents = each (codes "files") (document_of (map (λ nodes. inside [] (document_of nodes)) documents))

-- the heads, the rows and what is said behind them: in a person's format one after the other; in JSON
-- one object, or a line for each row, and one for the rest
abbrev pub tree_text : Format → Node → List (List Node) → List Node → List ℕ
tree_text Text heads documents ends =
    rendered Text (heads ∷ []) ++ (flat_map (rendered Text) documents ++ rendered Text ends)
tree_text JsonLines heads documents ends =
    flat_map (rendered JsonLines) documents ++ rendered JsonLines (heads ∷ ends)
tree_text Json heads documents ends = rendered Json (heads ∷ files_node documents ∷ ends)

-- of trees, of these rows, and of these names that can't be read, this is printed
abbrev pub PrintsTrees : Format → Bool → TreeFields → Trees → List Row → List (List ℕ) → List ℕ → Type 0
PrintsTrees format only q trees rows unread printed =
    (documents : List (List Node)) × PrintsRows only (files_of trees) rows documents
    × (printed ≡ tree_text format (tals_node trees) documents (end_nodes q trees rows unread))

-- of trees, this is printed
abbrev pub AreTreesSaid : Format → Bool → TreeFields → Trees → List (List ℕ) → List ℕ → Type 0
AreTreesSaid format only q trees unread printed =
    (rows : List Row) × AreRows trees q.files rows × PrintsTrees format only q trees rows unread printed

-- of what is found
abbrev pub IsTree : Format → Bool → TreeFields → TreeFinding → List (List ℕ) → List ℕ → Type 0
IsTree format only q (NotALocator fault) unread printed = printed ≡ rendered format (no_locator_nodes q fault)
IsTree format only q (Answered trees) unread printed = AreTreesSaid format only q trees unread printed
