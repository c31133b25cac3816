use Rattle.std.specs.Prelude.{Err}
use Rattle.std.proofs.Common.{◌≡◌, List, [], ◌∷◌, map, refl, sym, ap, ◌∙◌, inl, arith}
use Rattle.rpki_crl.specs.Lists.{CrlState}
use Rattle.rpki_path.specs.AskedLists.{HaveNone}
use Rattle.rpki_folder.specs.IssuerLists.{IssuerFields}
use Rattle.rpki_folder.proofs.issuer_lists.IssuerLists.ask.Goals as goal

none_left : (lists : List CrlState) → HaveNone (λ _. Unit {0}) lists → lists ≡ []
none_left [] none = refl
none_left (l ∷ lists) none = absurd (none l (0, omega arith, refl) tt)

pub returns-in_default : goal.returns-in_default
returns-in_default c =
    let given = ap (λ rs. map (λ r. r.now) rs) c.deref.ensures.value in
    let none = none_left (map (λ r. r.now) c.deref.result.now) c.in_default.ensures in
    inl (
      sym (ap (λ (k : IssuerFields). k.eligible) c.self.view_is) ∙ sym given ∙ none,
      ap (λ (k : IssuerFields). Err k.otherwise) c.self.view_is,
    )
