use Rattle.std.proofs.Common.{subst, sym}
use Rattle.std.proofs.lemmas.Result.{IfOk-weaker}
use Rattle.rpki_der.specs.Encoding.{Begins, Means}
use Rattle.rpki_der.specs.Extensions.{Extension, IsExtension}
use Rattle.rpki_der.specs.Place.{Place, remaining}
use Rattle.rpki_files.specs.Flaws.{IsExtensionFlaw, extension_flaws, extension_of}
use Rattle.rpki_files.proofs.FirstTrue.{none_true}
use Rattle.rpki_files.proofs.FoundFlaws.{first_extension}
use Rattle.rpki_files.proofs.found.in_extension.Goals as goal

pub returns-in-Ok : goal.returns-in-Ok
returns-in-Ok c =
    let here = c.in-Ok in
    let x = extension_of here.identifier.now here.critical (remaining here.content) in
    let rest = remaining c.take_extension.new.cursor in
    let begins : Begins IsExtension (remaining c.args.at.now) x rest =
    subst (λ (p : Place). Begins IsExtension (remaining p) x rest) c.fork-rest.ensures.same
    here.ensures.answers.encoded in
    IfOk-weaker c.of_extension.result
    _ _ (λ o is. first_extension c.args.is_list x (remaining c.args.at.now) rest begins extension_flaws o is)
    c.of_extension.ensures

pub returns-in-Err : goal.returns-in-Err
returns-in-Err c =
    none_true (λ f. (x : Extension) × Means IsExtension x (remaining c.args.at.now) × IsExtensionFlaw c.args.is_list x f) extension_flaws
    (λ f p. c.in-Err.ensures.answers.encoded.1 p.0 p.1.0
    (subst (λ (a : Place). Begins IsExtension (remaining a) p.0 p.1.0) (sym c.fork-rest.ensures.same) p.1.1))
