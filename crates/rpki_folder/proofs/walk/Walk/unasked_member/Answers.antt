use Rattle.std.proofs.Common.{◌≡◌, ℕ, List, IfErr, subst, ◌∙◌}
use Rattle.rpki_cert.specs.Verification.{context}
use Rattle.rpki_path.specs.Asking.{nobody}
use Rattle.rpki_path.specs.Paths.{Finds}
use Rattle.rpki_path.specs.Paths.Steps.{kind_of, demand_under}
use Rattle.rpki_folder.specs.Folders.{string_at}
use Rattle.rpki_folder.proofs.StepAnswers.{octets_here}
use Rattle.rpki_folder.proofs.walk.Walk.unasked_member.Goals as goal

pub returns-clause-fault : goal.returns-clause-fault
returns-clause-fault g c =
    let w = c.args.self.now in
    let x = context (g.V.Verifier.verifies w.verifier.now) w.at w.strict in
    let k = kind_of c.args.role in
    let issuer = c.args.issuer.now in
    let item = c.index-certs-place.result in
    let octets : c.member.result ≡ string_at w.folder.now.certs c.args.place = c.member.ensures ∙
    octets_here w.folder.now.certs c.certs.result.now c.args.place item c.certs.ensures c.index-certs-place.is
    c.requires in
    subst (λ (o : List ℕ). IfErr c.member-2.result (Finds x (demand_under x nobody issuer k) o)) octets
    c.member-2.ensures.fault
