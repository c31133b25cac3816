-- Parts that are printed in a format as others.
use Rattle.std.specs.Prelude.{Result, Ok, Err, OnOk}
use Rattle.std.proofs.Common.{◌≡◌, ◌∙◌, ℕ, List, [], ◌∷◌, ◌++◌, refl, sym, ap, append_assoc}
use Rattle.rpki_document.specs.Building.{AddsSome}
use Rattle.rpki_document.specs.Documents.{Node, document_of, document_text, node_text}
use Rattle.rpki_document.specs.declared.parts.Part.{Part}
use Rattle.rpki_text.specs.declared.command_line.arguments.Format.{Format}
use Rattle.rpki_text.specs.declared.command_line.arguments.Format.TheVariants.{Text, Json, JsonLines}
use Rattle.rpki_answers.specs.TreeDocuments.{rendered}
use Rattle.rpki_answers.specs.TreeDocuments.Steps.{PrintsAs, PrintsSome}

text_of_both : (a b : List Node) →
    document_text (document_of (a ++ b)) ≡ document_text (document_of a) ++ document_text (document_of b)
text_of_both [] b = refl
text_of_both (n ∷ a) b =
    ap (λ (t : List ℕ). node_text n ++ t) (text_of_both a b)
    ∙ sym (append_assoc (node_text n) (document_text (document_of a)) (document_text (document_of b)))

-- as they are
pub as_are : (format : Format) (nodes : List Node) → PrintsAs format nodes nodes
as_are Text nodes = refl
as_are Json nodes = refl
as_are JsonLines nodes = refl

-- one behind the other
pub as_both : (format : Format) (a b c d : List Node) → PrintsAs format a c → PrintsAs format b d → PrintsAs format (a ++ b) (c ++ d)
as_both Text a b c d p q =
    text_of_both a b
    ∙ ap (λ (t : List ℕ). t ++ document_text (document_of b)) p
    ∙ ap (λ (t : List ℕ). document_text (document_of c) ++ t) q
    ∙ sym (text_of_both c d)
as_both Json a b c d p q = ap (λ (l : List Node). l ++ b) p ∙ ap (λ (l : List Node). c ++ l) q
as_both JsonLines a b c d p q = ap (λ (l : List Node). l ++ b) p ∙ ap (λ (l : List Node). c ++ l) q

pub rendered_as : (format : Format) (nodes whole : List Node) → PrintsAs format nodes whole → rendered format nodes ≡ rendered format whole
rendered_as Text nodes whole same = same
rendered_as Json nodes whole same = ap (λ (l : List Node). rendered Json l) same
rendered_as JsonLines nodes whole same = ap (λ (l : List Node). rendered JsonLines l) same

pub some_as : {T E : Type 0} (r : Result T E) (format : Format) (P : List Node → Type 0) (old new : List Part) →
    OnOk r (AddsSome P old new) → OnOk r (AddsSome (PrintsSome format P) old new)
some_as (Ok x) format P old new (nodes, holds, added) = (nodes, (nodes, holds, as_are format nodes), added)
some_as (Err x) format P old new added = tt
