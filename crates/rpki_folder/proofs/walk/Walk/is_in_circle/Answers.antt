use Rattle.std.specs.Prelude.{Contains}
use Rattle.std.proofs.Common.{◌≡◌, List, ℕ, [], ◌∷◌, length, refl, sym, subst, ◌∙◌, arith}
use Rattle.std.proofs.lemmas.Bool.{false≢true}
use Rattle.std.proofs.lemmas.List.Elements.{Contains-append_left}
use Rattle.std.proofs.lemmas.Result.{IfOk-weaker}
use Rattle.rpki_cert.specs.Certificates.{CertFields}
use Rattle.rpki_folder.specs.Walks.{IsRepeated}
use Rattle.rpki_folder.proofs.LookedAt.{in_circle, in_none, none_at_top}
use Rattle.rpki_folder.proofs.walk.Walk.is_in_circle.Goals as goal

pub is_one_of-requires : goal.is_one_of-requires
is_one_of-requires g c = λ p among.
    let before = c.in-Some.before.now in
    let last = c.in-Some.field-0-0.now in
    let is = c.in-Some.ensures.cases.0 in
    let at = Contains-append_left before (last ∷ []) p among in
    c.requires.inside p (subst (λ (l : List ℕ). Contains l p) (sym is) at)

pub returns-in-Some-clause-circle : goal.returns-in-Some-clause-circle
returns-in-Some-clause-circle g c =
    let w = c.args.self.now in
    let certs = w.folder.now.certs in
    let top = c.args.top.now.cert in
    let above = c.args.above.now in
    let before = c.in-Some.before.now in
    let last = c.in-Some.field-0-0.now in
    let issuer = c.args.issuer.now.cert in
    let is = c.in-Some.ensures.cases.0 in
    IfOk-weaker c.is_one_of.result _ _ (λ b same yes none.
    in_circle top certs c.unambiguous.ensures.certificate w.names above issuer c.requires.last before last is
    (subst (λ (d : CertFields). IsRepeated w.names top certs before d) c.as_cert.ensures (same.0 yes)) none)
    c.is_one_of.ensures

pub returns-in-Some-clause-none : goal.returns-in-Some-clause-none
returns-in-Some-clause-none g c =
    let w = c.args.self.now in
    let certs = w.folder.now.certs in
    let top = c.args.top.now.cert in
    let above = c.args.above.now in
    let before = c.in-Some.before.now in
    let last = c.in-Some.field-0-0.now in
    let issuer = c.args.issuer.now.cert in
    let is = c.in-Some.ensures.cases.0 in
    IfOk-weaker c.is_one_of.result _ _ (λ b same no.
    in_none top certs c.unambiguous.ensures.certificate w.names above issuer c.requires.last before last is
    (λ repeated. false≢true
    (sym no ∙ same.1
    (subst (λ (d : CertFields). IsRepeated w.names top certs before d) (sym c.as_cert.ensures) repeated))))
    c.is_one_of.ensures

no_length : (xs : List ℕ) → length xs ≡ 0 → xs ≡ []
no_length [] e = refl
no_length (x ∷ xs) e = absurd (omega arith)

pub returns-in-None-clause-none : goal.returns-in-None-clause-none
returns-in-None-clause-none g c =
    let w = c.args.self.now in
    λ no. none_at_top c.args.top.now.cert w.folder.now.certs c.unambiguous.ensures.certificate w.names
    c.args.above.now (no_length c.args.above.now c.in-None.ensures.cases)
