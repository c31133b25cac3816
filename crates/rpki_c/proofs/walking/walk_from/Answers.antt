use Rattle.std.proofs.Common.{◌≡◌, ℕ, List, length, refl, ap, sym, subst, ◌∙◌}
use Rattle.rpki_cert.specs.Verification.{context}
use Rattle.rpki_keys.specs.RsaSignatures.{IsSignedByRsa}
use Rattle.rpki_folder.specs.KeptLines.{AreLines}
use Rattle.rpki_folder.specs.LimitTables.{IsTableOf}
use Rattle.rpki_folder.specs.UsualBounds.{usual_steps}
use Rattle.rpki_folder.specs.declared.lines.Line.{Line}
use Rattle.rpki_folder.proofs.KeptWalkSteps.{kept_walk}
use Rattle.rpki_c.specs.FolderQuestions.{asked_or}
use Rattle.rpki_c.specs.FolderFates.{StringWalk}
use Rattle.rpki_c.proofs.walking.walk_from.Goals as goal

pub returns : goal.returns
returns c = λ t found.
    let f = c.args.terms.now in
    let x = context IsSignedByRsa f.at f.strict in
    let s = c.args.sorted.now in
    let law = c.unambiguous.ensures.certificate in
    let firsts = c.in_ok-firsts.firsts in
    let told = c.in_ok-walk.ensures.tells in
    let walk = c.in_ok-walk.walk in
    let reached = c.in_ok-walk.ensures.limits in
    let kept = c.as_slice.result in
    let lines = subst (λ (ls : List Line). AreLines told.0 ls) (sym c.as_slice.ensures)
    (told.1.1 c.in_ok-kept.ensures.nothing) in
    let count : length kept.now ≡ length s.folder.certs = ap length c.as_slice.ensures ∙ told.1.0 ∙
    c.in_ok-kept.ensures.count ∙ ap length c.certs.ensures in
    let table = subst (λ (n : ℕ). IsTableOf n (length s.folder.certs) reached.0 walk.limits)
    c.first_of-start.ensures.value reached.1.table in
    let w : StringWalk = record {
      sorted = s;
      anchor = c.args.anchor;
      firsts = firsts;
      kept = kept.now;
      limits = walk.limits;
    } in
    record {
      lines = w;
      strings_are = refl;
      walked = record {
        sorted = c.requires.sorted;
        kept = kept_walk x f.asks_names t s.folder f.depth (asked_or f.steps usual_steps) c.args.anchor
            c.args.issuer.now firsts law found kept.now walk.limits walk.ended told.0 reached.0
            c.in_ok-firsts.ensures count lines told.2 reached.2 table;
      };
      anchor_is = c.origin-anchor.ensures;
      lines_are = c.in_ok-told.ensures;
    }
