use Rattle.rpki_cert.specs.Verification.{context}
use Rattle.rpki_folder.proofs.KeptIssuers.{key_more}
use Rattle.rpki_folder.proofs.NamedSteps.{on_both}
use Rattle.rpki_folder.proofs.walk.Walk.enter_key.Goals as goal

pub returns : goal.returns
returns g c =
    let w = c.args.self.now in
    let x = context (g.V.Verifier.verifies w.verifier.now) w.at w.strict in
    on_both c.add_key.result c.add_key.ensures.keys c.add_key.ensures.kept
    (λ items same. key_more w.names x w.folder.now c.args.issuers.now c.add_key.new.self c.in_ok-named_key.field-0
    items same c.requires.kept c.in_ok-named_key.ensures)
