use Rattle.std.specs.Prelude.{Result, OnOk}
use Rattle.std.proofs.Common.{List, map, refl}
use Rattle.rpki_document.proofs.Built.{ended_some}
use Rattle.rpki_document.specs.Building.{Adds, AddsSome}
use Rattle.rpki_document.specs.Documents.{Node}
use Rattle.rpki_document.specs.declared.parts.Part.{Part}
use Rattle.rpki_answers.specs.TreeDocuments.{AreSaid}
use Rattle.rpki_answers.specs.TreeDocuments.Steps.{PrintsSome}
use Rattle.rpki_answers.specs.declared.tree_rows.Said.TheVariants as said
use Rattle.rpki_text.specs.declared.command_line.arguments.Format.{Format}
use Rattle.rpki_answers.proofs.PrintedAs.{some_as}
use Rattle.rpki_answers.proofs.tree_document.rows.add_said.Goals as goal

as_said : {T E : Type 0} (r : Result T E) (format : Format) (P : List Node → Type 0) (nodes : List Node) (old new : List Part) →
    P nodes → OnOk r (Adds nodes old new) → OnOk r (AddsSome (PrintsSome format P) old new)
as_said r format P nodes old new holds added = some_as r format P old new (ended_some r P nodes old new holds added)

pub returns-in-Accepted : goal.returns-in-Accepted
returns-in-Accepted c = rw c.in-Accepted.is c.add_accepted.ensures

pub returns-in-Rejected : goal.returns-in-Rejected
returns-in-Rejected c =
    rw c.in-Rejected.is (as_said c.add_rejected.result c.args.format
    (AreSaid (map (λ f. f.now) c.args.certs.now) c.args.name.now (said.Rejected c.in-Rejected.fault)) _ _ _ refl
    c.add_rejected.ensures)

pub returns-in-Unseen : goal.returns-in-Unseen
returns-in-Unseen c =
    rw c.in-Unseen.is (as_said c.add_unseen.result c.args.format
    (AreSaid (map (λ f. f.now) c.args.certs.now) c.args.name.now
    (said.Unseen c.in-Unseen.why c.in-Unseen.error)) _ _ _ refl c.add_unseen.ensures)

pub returns-in-Anchor : goal.returns-in-Anchor
returns-in-Anchor c =
    rw c.in-Anchor.is (as_said c.add_plain.result c.args.format
    (AreSaid (map (λ f. f.now) c.args.certs.now) c.args.name.now said.Anchor) _ _ _ refl c.add_plain.ensures)

pub returns-in-Crl : goal.returns-in-Crl
returns-in-Crl c =
    rw c.in-Crl.is (as_said c.add_plain-in-Crl.result c.args.format
    (AreSaid (map (λ f. f.now) c.args.certs.now) c.args.name.now said.Crl) _ _ _ refl
    c.add_plain-in-Crl.ensures)

pub returns-in-Neither : goal.returns-in-Neither
returns-in-Neither c =
    rw c.in-Neither.is (as_said c.add_plain-in-Neither.result c.args.format
    (AreSaid (map (λ f. f.now) c.args.certs.now) c.args.name.now said.Neither) _ _ _ refl
    c.add_plain-in-Neither.ensures)
