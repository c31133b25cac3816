-- What the functions that print rows do to a text, and to the parts of a document.
use Rattle.std.specs.List.{flat_map}
use Rattle.std.specs.Prelude.{◌≡◌, ℕ, Bool, List, [], ◌++◌, ◌∷◌, map, Option}
use Rattle.rpki_cert.specs.Certificates.{CertFields}
use Rattle.rpki_cert.specs.Verification.{ResourceFields}
use Rattle.rpki_document.specs.Building.{Adds}
use Rattle.rpki_document.specs.Documents.{Node, aside, inside, document_of, document_text}
use Rattle.rpki_document.specs.declared.parts.Part.{Part}
use Rattle.rpki_files.specs.Files.{FileFields}
use Rattle.rpki_text.specs.declared.command_line.arguments.Format.{Format}
use Rattle.rpki_text.specs.declared.command_line.arguments.Format.TheVariants.{Text}
use Rattle.rpki_answers.specs.TreeDocuments.{PrintsRow, PrintsRows, rendered}
use Rattle.rpki_answers.specs.Verdicts.{AreHeld}
use Rattle.rpki_answers.specs.declared.tree_rows.Row.{Row}

-- these parts are printed in a format as those are: JSON has no others, a text may lack what no line says
abbrev pub PrintsAs : Format → List Node → List Node → Type 0
PrintsAs Text nodes whole = document_text (document_of nodes) ≡ document_text (document_of whole)
PrintsAs format nodes whole = nodes ≡ whole

-- as parts of which this holds
abbrev pub PrintsSome : Format → (List Node → Type 0) → List Node → Type 0
PrintsSome format Hold nodes = (whole : List Node) × Hold whole × PrintsAs format nodes whole

-- what is held, for a program alone
abbrev pub AreHeldAside : ResourceFields → Option CertFields → List Node → Type 0
AreHeldAside holder router nodes = (held : List Node) × AreHeld holder router held × (nodes ≡ aside (document_of held) ∷ [])

-- new is old with these documents behind it
abbrev pub AppendsDocuments : Format → List (List Node) → List ℕ → List ℕ → Type 0
AppendsDocuments format documents old new = new ≡ old ++ flat_map (rendered format) documents

-- with that of a row
abbrev pub AppendsRow : Format → Bool → List FileFields → Row → List ℕ → List ℕ → Type 0
AppendsRow format only certs row old new =
    (documents : List (List Node)) × PrintsRow only certs row documents × AppendsDocuments format documents old new

-- with those of rows
abbrev pub AppendsRows : Format → Bool → List FileFields → List Row → List ℕ → List ℕ → Type 0
AppendsRows format only certs rows old new =
    (documents : List (List Node)) × PrintsRows only certs rows documents × AppendsDocuments format documents old new

-- new is old with an object for each of these documents behind it
abbrev pub AddsDocuments : List (List Node) → List Part → List Part → Type 0
AddsDocuments documents old new = Adds (map (λ nodes. inside [] (document_of nodes)) documents) old new

abbrev pub AddsRow : Bool → List FileFields → Row → List Part → List Part → Type 0
AddsRow only certs row old new =
    (documents : List (List Node)) × PrintsRow only certs row documents × AddsDocuments documents old new

abbrev pub AddsRows : Bool → List FileFields → List Row → List Part → List Part → Type 0
AddsRows only certs rows old new =
    (documents : List (List Node)) × PrintsRows only certs rows documents × AddsDocuments documents old new
