use Rattle.std.proofs.Common.{◌≡◌, ℕ, List, sym, subst, ◌∙◌, true}
use Rattle.std.specs.List.{list_any}
use Rattle.rpki_der.specs.Place.{remaining}
use Rattle.rpki_der.specs.Tags.{SEQUENCE}
use Rattle.rpki_der.specs.Values.Reading.{value_at}
use Rattle.rpki_der.proofs.Octets.{nothing, some_is}
use Rattle.rpki_files.proofs.FoundPolicies.{extensions_again}
use Rattle.rpki_files.specs.PolicyPresence.{HasExtensions}
use Rattle.rpki_parts.specs.NameTexts.Reading.{values_in}
use Rattle.rpki_text.specs.Notes.{states_false}
use Rattle.rpki_text.proofs.notes.flags.states_false.Goals as goal

pub returns-in-Some : goal.returns-in-Some
returns-in-Some c xs h =
    let found = λ (elements : List ℕ) (there : HasExtensions elements c.args.octets.now).
    some_is elements (remaining c.in-Some.elements) (sym (extensions_again c.args.octets.now elements there) ∙ sym c.in-Some.ensures) in
    let States = λ (elements : List ℕ). list_any states_false (values_in (value_at SEQUENCE) elements) ≡ true in (
      (λ yes. (h.0, h.1, subst States (sym (found h.0 h.1)) (sym c.has_any.ensures ∙ yes))),
      (λ so. c.has_any.ensures ∙ subst States (found so.0 so.1) so.2),
    )

pub returns-in-None : goal.returns-in-None
returns-in-None c xs h = nothing h.0 (c.in-None.ensures ∙ extensions_again c.args.octets.now h.0 h.1)
