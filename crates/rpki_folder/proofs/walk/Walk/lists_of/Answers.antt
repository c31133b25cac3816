use Rattle.std.specs.Prelude.{IsTrue, Bool, Option, IfSome}
use Rattle.std.proofs.Common.{rules, ◌↔◌, sym, subst}
use Rattle.rpki_folder.specs.IssuerLists.{HasSigned}
use Rattle.rpki_folder.specs.NameTables.{IsOfKey}
use Rattle.rpki_folder.proofs.NamedSteps.{if_some, if_some_map}
use Rattle.rpki_folder.proofs.walk.Walk.lists_of.Goals as goal

pub new-requires : goal.new-requires
new-requires g c =
    let w = c.args.self.now in
    let verifies = g.V.Verifier.verifies w.verifier.now in
    let folder = w.folder.now in
    let issuer = c.args.issuer.now.cert in
    let signed = if_some c.args.key (λ k. IsOfKey verifies folder issuer k.now)
    (λ k. IsTrue k.now.has_signed ↔ HasSigned verifies folder.lists issuer.fields) (λ k h. h.signed)
    c.requires in
    let mapped = if_some_map c.args.key (λ k. k.now.has_signed)
    (λ is. IsTrue is ↔ HasSigned verifies folder.lists issuer.fields) signed in
    let known = subst (λ (o : Option Bool).
    IfSome o (λ is. IsTrue is ↔ HasSigned verifies folder.lists issuer.fields)) (sym c.known_of-known.ensures)
    mapped in
    search (rules, known)
