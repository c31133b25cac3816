use Rattle.std.specs.Prelude.{Result, Ok, Err, IfOk}
use Rattle.std.proofs.Common.{◌≡◌, ℕ, List, ◌∙◌}
use Rattle.rpki_files.specs.Files.{FileFields}
use Rattle.rpki_files.proofs.DerTexts.{taken_as_is}
use Rattle.rpki_files.proofs.files.read_object.Goals as goal

same_octets : {E : Type 0} (r : Result FileFields E) (octets file : List ℕ) → IfOk r (λ o. o.octets ≡ octets) →
    octets ≡ file → IfOk r (λ o. o.octets ≡ file)
same_octets (Ok o) octets file is same = is ∙ same
same_octets (Err e) octets file is same = tt

pub returns-clause-der : goal.returns-clause-der
returns-clause-der c = λ either.
    same_octets c.object_of.result c.in_ok-octets.octets c.args.file.items c.object_of.ensures.octets
    (taken_as_is c.args.file.items c.in_ok-octets.octets c.in_ok-octets.ensures either)
