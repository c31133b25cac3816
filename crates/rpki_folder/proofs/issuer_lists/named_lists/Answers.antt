use Rattle.std.proofs.Common.{◌<◌, ℕ, List, [], ◌∷◌, ◌++◌, length, map, take, get_or, refl, sym, ap, subst, ◌∙◌}
use Rattle.std.proofs.lemmas.Bool.{both_ways}
use Rattle.std.proofs.lemmas.List.{map-append, take_all}
use Rattle.std.proofs.lemmas.List.Elements.{Contains-get_or}
use Rattle.rpki_crl.specs.Lists.{CrlState}
use Rattle.rpki_folder.specs.IssuerLists.{ArePicked, HasName}
use Rattle.rpki_folder.proofs.PickedLists.{picked_more, picked_same}
use Rattle.rpki_folder.proofs.ListPlaces.{lists_at, at_more}
use Rattle.rpki_folder.proofs.IssuersList.{inside, named_there_too}
use Rattle.rpki_folder.proofs.issuer_lists.named_lists.Goals as goal

pub list_at-list-requires : goal.list_at-list-requires
list_at-list-requires c =
    let places = c.args.places.now in
    let i = c.loop-place.place-index in
    inside c.args.lists.now c.args.issuer.now.cert.fields places c.requires (get_or places i 0)
    (Contains-get_or places i 0 c.loop-place-test.true)

pub loop-place-preserved-then-not-has_name : goal.loop-place-preserved-then-not-has_name
loop-place-preserved-then-not-has_name c =
    let lists = c.args.lists.now in
    let places = c.args.places.now in
    let i = c.loop-place.place-index in
    let place = get_or places i 0 in
    let l = c.list_at-list.result.now in
    let named = HasName c.args.names c.args.issuer.now.cert.fields in
    let kept = map (λ r. r.now) c.loop-place.named.items in
    let low : place < length lists = inside lists c.args.issuer.now.cert.fields places c.requires place
    (Contains-get_or places i 0 c.loop-place-test.true) in
    let more = at_more lists places i l c.loop-place-test.true low c.list_at-list.ensures in
    subst (λ (ls : List CrlState). ArePicked named ls kept) (sym more)
    (picked_same named (lists_at lists (take i places)) kept l c.loop-place.invariant
    (λ is. both_ways c.has_name.result c.if-not-has_name.true (c.has_name.ensures.1 is)))

pub loop-place-preserved : goal.loop-place-preserved
loop-place-preserved c =
    let lists = c.args.lists.now in
    let places = c.args.places.now in
    let i = c.loop-place.place-index in
    let place = get_or places i 0 in
    let l = c.list_at-list.result.now in
    let named = HasName c.args.names c.args.issuer.now.cert.fields in
    let old = c.loop-place.named.items in
    let kept = map (λ r. r.now) old in
    let low : place < length lists = inside lists c.args.issuer.now.cert.fields places c.requires place
    (Contains-get_or places i 0 c.loop-place-test.true) in
    let more = at_more lists places i l c.loop-place-test.true low c.list_at-list.ensures in
    let longer = ap (λ rs. map (λ r. r.now) rs) c.in_ok-push.ensures.items ∙
    map-append (λ r. r.now) old (c.list_at-list.result ∷ []) in
    subst (λ (ls : List CrlState). ArePicked named ls (map (λ r. r.now) c.push.new.self.items)) (sym more)
    (subst (λ (ks : List CrlState). ArePicked named (lists_at lists (take i places) ++ l ∷ []) ks) (sym longer)
    (picked_more named (lists_at lists (take i places)) kept l c.loop-place.invariant
    (c.if-not-has_name.ensures.0 refl)))

pub returns : goal.returns
returns c =
    let lists = c.args.lists.now in
    let places = c.args.places.now in
    let issuer = c.args.issuer.now.cert.fields in
    let named = map (λ r. r.now) c.loop-place.named.items in
    let all = take_all c.loop-place.place-index places c.loop-place-test.false in
    named_there_too c.args.names lists issuer places named c.requires
    (subst (λ (ps : List ℕ). ArePicked (HasName c.args.names issuer) (lists_at lists ps) named) all
    c.loop-place.invariant)
