-- Parts that are added one behind the other.
use Rattle.std.specs.Prelude.{Result, Ok, Err, OnOk}
use Rattle.std.proofs.Common.{◌≡◌, ◌∙◌, List, [], ◌∷◌, ◌++◌, ap, append_assoc, sym}
use Rattle.std.proofs.lemmas.List.{append-nil}
use Rattle.rpki_document.specs.Building.{Adds, AddsSome, nodes_of}
use Rattle.rpki_document.specs.Documents.{Node}
use Rattle.rpki_document.specs.declared.parts.Part.{Part}

-- nothing
pub nothing_added : (old : List Part) → Adds [] old old
nothing_added old = sym (append-nil (nodes_of old))

-- parts, and more
pub then_added : (old mid new : List Part) (a b : List Node) → Adds a old mid → Adds b mid new → Adds (a ++ b) old new
then_added old mid new a b p q = q ∙ ap (λ (l : List Node). l ++ b) p ∙ append_assoc (nodes_of old) a b

-- nothing, where it may be nothing
pub none_added : (P : List Node → Type 0) (old : List Part) → P [] → AddsSome P old old
none_added P old holds = ([], holds, nothing_added old)

-- the last call's parts, as what they are
pub ended_some : {T E : Type 0} (r : Result T E) (P : List Node → Type 0) (nodes : List Node) (old new : List Part)
    → P nodes → OnOk r (Adds nodes old new) → OnOk r (AddsSome P old new)
ended_some (Ok x) P nodes old new holds e = (nodes, holds, e)
ended_some (Err x) P nodes old new holds e = tt

-- parts, and what the last call adds
pub then_ended : {T E : Type 0} (r : Result T E) (old mid new : List Part) (a b : List Node)
    → Adds a old mid → OnOk r (Adds b mid new) → OnOk r (Adds (a ++ b) old new)
then_ended (Ok x) old mid new a b p q = then_added old mid new a b p q
then_ended (Err x) old mid new a b p q = tt

-- one part, of which this holds
pub one_ended : {T E : Type 0} (r : Result T E) (P : Node → Type 0) (node : Node) (old new : List Part)
    → P node → OnOk r (Adds (node ∷ []) old new) → OnOk r ((n : Node) × P n × Adds (n ∷ []) old new)
one_ended (Ok x) P node old new holds e = (node, holds, e)
one_ended (Err x) P node old new holds e = tt

-- the list is this one
pub ended_with : {T E X : Type 0} (r : Result T E) (new a b : List X) → OnOk r (new ≡ a) → a ≡ b → OnOk r (new ≡ b)
ended_with (Ok x) new a b e s = e ∙ s
ended_with (Err x) new a b e s = tt
