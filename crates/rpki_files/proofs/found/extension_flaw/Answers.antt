use Rattle.std.proofs.Common.{Some, None}
use Rattle.rpki_der.specs.Encoding.{Means}
use Rattle.rpki_der.specs.Extensions.{Extension, IsExtension}
use Rattle.rpki_der.specs.Place.{remaining}
use Rattle.rpki_files.specs.Flaws.{IsExtensionFlaw, IsFlaw, extension_flaws}
use Rattle.rpki_files.specs.declared.flaws.Flaw.TheVariants as flaw
use Rattle.rpki_files.proofs.FirstTrue.{first_image}
use Rattle.rpki_files.proofs.found.extension_flaw.Goals as goal

pub returns-in-Ok-Some : goal.returns-in-Ok-Some
returns-in-Ok-Some c = λ part.
    let octets = remaining c.args.at.now in
    first_image (λ f. (x : Extension) × Means IsExtension x octets × IsExtensionFlaw c.args.is_list x f)
    (IsFlaw c.args.is_list part octets) flaw.Extension extension_flaws (Some c.in-Ok-Some.flaw) (λ f p. p)
    (λ f p. p) (rw c.in-Ok-Some.field-0-is at c.in-Ok-Some.ensures)

pub returns-in-Ok-None : goal.returns-in-Ok-None
returns-in-Ok-None c = λ part.
    let octets = remaining c.args.at.now in
    first_image (λ f. (x : Extension) × Means IsExtension x octets × IsExtensionFlaw c.args.is_list x f)
    (IsFlaw c.args.is_list part octets) flaw.Extension extension_flaws None (λ f p. p) (λ f p. p)
    (rw c.in-Ok-None.field-0-is at c.in-Ok-None.ensures)
