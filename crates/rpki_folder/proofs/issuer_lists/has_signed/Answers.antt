use Rattle.std.specs.Prelude.{Contains}
use Rattle.std.proofs.Common.{ℕ, List, take, get_or, refl, sym, subst}
use Rattle.std.proofs.lemmas.Bool.{false≢true}
use Rattle.std.proofs.lemmas.List.{take_all}
use Rattle.std.proofs.lemmas.List.Elements.{Contains-get_or}
use Rattle.rpki_cert.specs.Verification.{IsSignedBy}
use Rattle.rpki_crl.specs.Lists.{CrlState}
use Rattle.rpki_path.proofs.LatestLists.{each_more}
use Rattle.rpki_folder.proofs.ListPlaces.{lists_at, at_more}
use Rattle.rpki_folder.proofs.IssuersList.{inside, named_at, there_named}
use Rattle.rpki_folder.proofs.issuer_lists.has_signed.Goals as goal

pub list_at-requires : goal.list_at-requires
list_at-requires g c =
    let places = c.args.places.now in
    let i = c.loop-place.place-index in
    inside c.args.lists.now c.args.issuer.now.cert.fields places c.requires (get_or places i 0)
    (Contains-get_or places i 0 c.loop-place-test.true)

pub returns-then-is_signed_by : goal.returns-then-is_signed_by
returns-then-is_signed_by g c =
    let lists = c.args.lists.now in
    let places = c.args.places.now in
    let i = c.loop-place.place-index in
    let l = c.list_at.result.now in
    let named = named_at lists c.args.issuer.now.cert.fields places c.requires (get_or places i 0)
    (Contains-get_or places i 0 c.loop-place-test.true) l c.list_at.ensures in
    ((λ _. (l, named.0, named.1, c.is_signed_by.ensures.0 c.if-is_signed_by.true)), (λ _. refl))

pub loop-place-preserved : goal.loop-place-preserved
loop-place-preserved g c =
    let lists = c.args.lists.now in
    let places = c.args.places.now in
    let i = c.loop-place.place-index in
    let l = c.list_at.result.now in
    let signs = λ (one : CrlState). IsSignedBy (g.V.Verifier.verifies c.args.verifier.now)
    c.args.issuer.now.cert.fields.key one.list.signed_data in
    let low = inside lists c.args.issuer.now.cert.fields places c.requires (get_or places i 0)
    (Contains-get_or places i 0 c.loop-place-test.true) in
    let more = at_more lists places i l c.loop-place-test.true low c.list_at.ensures in
    subst (λ (ls : List CrlState). (one : CrlState) → Contains ls one → signs one → ⊥) (sym more)
    (each_more (λ (one : CrlState). signs one → ⊥) (lists_at lists (take i places)) l c.loop-place.invariant
    (λ is. false≢true (c.if-is_signed_by.ensures.1 is)))

pub returns : goal.returns
returns g c =
    let lists = c.args.lists.now in
    let issuer = c.args.issuer.now.cert.fields in
    let places = c.args.places.now in
    let signs = λ (one : CrlState). IsSignedBy (g.V.Verifier.verifies c.args.verifier.now) issuer.key
    one.list.signed_data in
    let all = take_all c.loop-place.place-index places c.loop-place-test.false in
    let none = subst (λ (ps : List ℕ). (one : CrlState) → Contains (lists_at lists ps) one → signs one → ⊥) all
    c.loop-place.invariant in (
      (λ is. absurd (false≢true is)),
      (λ h. absurd (none h.0 (there_named lists issuer places c.requires h.0 h.1 h.2) h.3)),
    )
