use Rattle.std.proofs.Common.{ℕ, List, take, get_or, sym, subst}
use Rattle.std.proofs.lemmas.List.{take_more, take_all}
use Rattle.std.proofs.lemmas.List.Elements.{Contains-get_or}
use Rattle.rpki_folder.specs.IssuerLists.{ArePicked}
use Rattle.rpki_folder.specs.KeyTables.{places_in}
use Rattle.rpki_folder.specs.NameTables.{HasIssuer}
use Rattle.rpki_folder.proofs.NamedSteps.{by_issuer_more}
use Rattle.rpki_folder.proofs.names.NameTable.by_issuer.Goals as goal

pub issuer_at-requires : goal.issuer_at-requires
issuer_at-requires c =
    let places = c.args.places.now in
    let i = c.loop-place.place-index in
    c.requires (get_or places i 0) (Contains-get_or places i 0 c.loop-place-test.true)

pub loop-place-preserved : goal.loop-place-preserved
loop-place-preserved c = λ k.
    let certs = c.args.folder.now.certs in
    let places = c.args.places.now in
    let i = c.loop-place.place-index in
    let place = get_or places i 0 in
    let old = places_in c.loop-place.table.places in
    let new = places_in c.add.new.self.places in
    subst (λ (l : List ℕ). ArePicked (λ (p : ℕ). HasIssuer k certs p) l (new k))
    (sym (take_more places i 0 c.loop-place-test.true))
    (by_issuer_more c.unambiguous.ensures.certificate certs (take i places) place c.in_ok-issuer_at.field-0
    c.in_ok-issuer_at.ensures old new c.loop-place.invariant c.in_ok-add.ensures k)

pub returns : goal.returns
returns c = λ k.
    let certs = c.args.folder.now.certs in
    let places = c.args.places.now in
    subst (λ (l : List ℕ). ArePicked (λ (p : ℕ). HasIssuer k certs p) l (places_in c.loop-place.table.places k))
    (take_all c.loop-place.place-index places c.loop-place-test.false) (c.loop-place.invariant k)
