use Rattle.std.proofs.Common.{Err, refl}
use Rattle.rpki_cert.specs.Verification.{context}
use Rattle.rpki_path.specs.AskedLists.{by_named_lists}
use Rattle.rpki_folder.specs.Folders.{string_at}
use Rattle.rpki_folder.proofs.StepAnswers.{member_rejected}
use Rattle.rpki_folder.proofs.walk.Walk.tell_member.Goals as goal

pub returns-in_ok-reject-in-Err-clause-ok : goal.returns-in_ok-reject-in-Err-clause-ok
returns-in_ok-reject-in-Err-clause-ok g c = λ v ts heard.
    let w = c.args.self.now in
    let x = context (g.V.Verifier.verifies w.verifier.now) w.at w.strict in (
      Err c.in-Err.fault,
      c.in_ok-reject-in-Err.ensures.ok v ts heard,
      member_rejected x (by_named_lists w.names x w.folder.now.lists) c.args.issuer.now
          (string_at w.folder.now.certs c.args.place) c.args.role c.in-Err.fault
          c.in_ok-reject-in-Err.ensures.no_memory c.in-Err.ensures.fault,
      refl,
    )
