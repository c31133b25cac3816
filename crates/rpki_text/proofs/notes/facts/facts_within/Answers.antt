use Rattle.std.proofs.Common.{◌≡◌, ℕ, List, sym, ap, subst, ◌∙◌}
use Rattle.std.proofs.lemmas.Result.{IfOk-weaker}
use Rattle.rpki_cert.specs.Certificates.{TbsFields}
use Rattle.rpki_der.specs.Extensions.{IsExtension}
use Rattle.rpki_der.specs.Place.{remaining}
use Rattle.rpki_der.specs.Sequences.{AreEncodings}
use Rattle.rpki_der.proofs.Octets.{nothing, some_is}
use Rattle.rpki_files.proofs.FoundPolicies.{extensions_again}
use Rattle.rpki_text.specs.Facts.{facts_of}
use Rattle.rpki_text.proofs.Told.{extensions_stand}
use Rattle.rpki_text.proofs.notes.facts.facts_within.Goals as goal

pub returns-in-Some : goal.returns-in-Some
returns-in-Some c =
    let x = extensions_stand c.args.octets.now c.args.cert.now c.requires in
    let h = x.1 in
    let found : h.0 ≡ remaining c.in-Some.elements = some_is h.0 (remaining c.in-Some.elements)
    (sym (extensions_again c.args.octets.now h.0 h.1) ∙ sym c.in-Some.ensures) in
    IfOk-weaker c.facts_among.result _ _
    (λ _ is. record {
      certificate = c.args.cert.now;
      extensions = x.0;
      begins = c.requires;
      extensions_are = h;
      are = is ∙ ap (λ (f : TbsFields). facts_of f.extensions x.0) c.as_tbs.ensures;
    })
    (c.facts_among.ensures x.0 (subst (λ (b : List ℕ). AreEncodings IsExtension x.0 b) found h.2))

pub returns-in-None : goal.returns-in-None
returns-in-None c =
    let h = (extensions_stand c.args.octets.now c.args.cert.now c.requires).1 in
    nothing h.0 (c.in-None.ensures ∙ extensions_again c.args.octets.now h.0 h.1)
