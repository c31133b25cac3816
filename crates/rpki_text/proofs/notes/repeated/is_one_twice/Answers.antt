use Rattle.std.proofs.Common.{◌≡◌, ℕ, List, sym, subst, ◌∙◌}
use Rattle.std.proofs.lemmas.Result.{IfOk-weaker}
use Rattle.rpki_der.specs.Extensions.{IsExtension}
use Rattle.rpki_der.specs.Place.{remaining}
use Rattle.rpki_der.specs.Sequences.{AreEncodings}
use Rattle.rpki_der.proofs.Octets.{nothing, some_is}
use Rattle.rpki_files.proofs.FoundPolicies.{extensions_again}
use Rattle.rpki_text.proofs.notes.repeated.is_one_twice.Goals as goal

pub returns-in-Some : goal.returns-in-Some
returns-in-Some c =
    IfOk-weaker c.has_again.result _ _
    (λ is its xs h.
    let found : h.0 ≡ remaining c.in-Some.elements = some_is h.0 (remaining c.in-Some.elements)
    (sym (extensions_again c.args.octets.now h.0 h.1) ∙ sym c.in-Some.ensures) in
    its xs (subst (λ (b : List ℕ). AreEncodings IsExtension xs b) found h.2))
    c.has_again.ensures

pub returns-in-None : goal.returns-in-None
returns-in-None c xs h = nothing h.0 (c.in-None.ensures ∙ extensions_again c.args.octets.now h.0 h.1)
