use Rattle.std.specs.Prelude.{Bool, IfOk}
use Rattle.std.proofs.Common.{ℕ, List, [], length, subst}
use Rattle.rpki_der.specs.Times.{Moment}
use Rattle.rpki_cert.specs.Verification.{context}
use Rattle.rpki_path.specs.AskedLists.{by_named_lists}
use Rattle.rpki_keys.specs.RsaSignatures.{IsSignedByRsa}
use Rattle.rpki_folder.specs.FirstPlaces.{IsFirstIn}
use Rattle.rpki_folder.specs.Folders.{FolderFields}
use Rattle.rpki_folder.specs.LimitTables.{HasReached}
use Rattle.rpki_folder.specs.ReachedLimits.{AreLimited, LimitedCa}
use Rattle.rpki_folder.specs.Walks.{IsLookedAt, LeadsTo, Root, members_at}
use Rattle.rpki_folder.specs.declared.firsts.Firsts.{Firsts}
use Rattle.rpki_c.proofs.walking.walk_below.Goals as goal

pub returns-clause-limits : goal.returns-clause-limits
returns-clause-limits c =
    let issuer = c.args.issuer.now in
    let is = c.walk_of.ensures in
    let Limits : Moment → Bool → Bool → FolderFields → Firsts → ℕ → ℕ →
    Type 0 = λ at strict names folder firsts depth steps.
    IfOk c.below.result (λ walked. (limited : List LimitedCa) × HasReached c.args.start (length folder.certs)
    limited walked ×
    ((root : Root) →
    LeadsTo (context IsSignedByRsa at strict)
    (by_named_lists names (context IsSignedByRsa at strict) folder.lists) root
    (members_at root folder.certs []) issuer
    → AreLimited (context IsSignedByRsa at strict)
    (by_named_lists names (context IsSignedByRsa at strict) folder.lists)
    (IsLookedAt names (IsFirstIn firsts) issuer.cert folder.certs) root folder.certs depth steps limited)) in
    let w = c.walk_of.result in
    let f = c.args.terms.now in
    let folder = c.args.sorted.now.folder in
    let firsts = c.args.firsts.now in
    subst (λ (n : ℕ). Limits f.at f.strict f.asks_names folder firsts f.depth n) is.steps
    (subst (λ (n : ℕ). Limits f.at f.strict f.asks_names folder firsts n w.bounds.steps) is.depth
    (subst (λ (it : Firsts). Limits f.at f.strict f.asks_names folder it w.bounds.depth w.bounds.steps) is.admission
    (subst (λ (it : FolderFields). Limits f.at f.strict f.asks_names it w.admission.now w.bounds.depth
    w.bounds.steps) is.folder
    (subst (λ (b : Bool). Limits f.at f.strict b w.folder.now w.admission.now w.bounds.depth w.bounds.steps) is.names
    (subst (λ (b : Bool). Limits f.at b w.names w.folder.now w.admission.now w.bounds.depth w.bounds.steps) is.strict
    (subst (λ (at : Moment). Limits at w.strict w.names w.folder.now w.admission.now w.bounds.depth w.bounds.steps)
    is.at c.below.ensures.limits))))))
