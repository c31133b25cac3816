use Rattle.std.proofs.Common.{◌≡◌, ◌++◌, [], ◌∷◌, List, ap, ◌∙◌, subst}
use Rattle.rpki_crl.specs.Lists.{CrlState}
use Rattle.rpki_crl.specs.Stores.{Stored, StoreFields, stored}
use Rattle.rpki_crl.proofs.store.CrlStore.push.Goals as goal

pub returns-clause-stored : goal.returns-clause-stored
returns-clause-stored c =
    let old = c.self.inside.pairs.items in
    let caches = c.self.inside.caches in
    let room = ap (λ (ps : List Stored). ps ++ (c.args.uri, c.in-Ok.crl) ∷ []) c.try_reserve.ensures.items in
    let kept = ap (λ (k : CrlState). old ++ (c.args.uri, k) ∷ []) c.in-Ok.ensures.stored in
    let grown : c.push.new.self.items ≡ old ++ stored caches c.args.uri c.args.crl ∷ [] = c.in-Ok-push.ensures.items ∙ room ∙ kept in
    let made : List Stored → StoreFields = λ ps. record { pairs = ps; caches = caches } in
    subst (λ (s : StoreFields). made c.push.new.self.items ≡
    record { pairs = s.pairs ++ stored s.caches c.args.uri c.args.crl ∷ []; caches = s.caches }) c.self.view_is
    (ap made grown)
