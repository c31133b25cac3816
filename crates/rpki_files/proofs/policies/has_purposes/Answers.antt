use Rattle.std.specs.Prelude.{Some, false}
use Rattle.std.proofs.Common.{◌≡◌, ℕ, List, sym, subst, ◌∙◌}
use Rattle.std.proofs.lemmas.Bool.{false≢true}
use Rattle.rpki_der.specs.Place.{remaining}
use Rattle.rpki_der.specs.declared.error.Field.TheVariants as field
use Rattle.rpki_der.specs.Values.{AreOctets}
use Rattle.rpki_der.proofs.Octets.{nothing, some_is}
use Rattle.rpki_files.specs.PolicyPresence.{BeginsWithOne}
use Rattle.rpki_files.specs.PolicyPresence.Reading.{extensions_at}
use Rattle.rpki_files.specs.declared.policies.Wanted.TheVariants.{Named}
use Rattle.rpki_files.proofs.FoundPolicies.{extensions_take, extensions_again}
use Rattle.rpki_files.proofs.policies.has_purposes.Goals as goal

pub returns-in-Some : goal.returns-in-Some
returns-in-Some c =
    let octets = c.args.octets.now in
    let elements = remaining c.in-Some.elements in
    let found : extensions_at octets ≡ Some elements = sym c.in-Some.ensures in
    let fits : AreOctets octets = subst AreOctets (c.rest-octets.ensures.remaining ∙ c.new.ensures.all) c.rest-octets.ensures.octets in (
      (λ yes. (elements, extensions_take octets elements fits found, c.begins_with_one.ensures.0 yes)),
      (λ h. let same : h.0 ≡ elements = some_is h.0 elements (sym (extensions_again octets h.0 h.1) ∙ found) in
          c.begins_with_one.ensures.1
          (subst (λ (x : List ℕ). BeginsWithOne (Named field.ExtendedKeyUsage false) x) same h.2)),
    )

pub returns-in-None : goal.returns-in-None
returns-in-None c =
    let octets = c.args.octets.now in
    ((λ yes. absurd (false≢true yes)), (λ h. nothing h.0 (c.in-None.ensures ∙ extensions_again octets h.0 h.1)))
