use Rattle.std.proofs.Common.{◌≡◌, ◌++◌, ◌∷◌, [], ℕ, List, length, sym, ap, subst, ◌∙◌}
use Rattle.rpki_crl.specs.Lists.{CrlState, ListFields}
use Rattle.rpki_crl.specs.RevokedEntries.{Revoked}
use Rattle.rpki_folder.specs.KeyTables.{places_in, with_place, signer_of, list_places}
use Rattle.rpki_folder.proofs.ListPlaces.{list_added}
use Rattle.rpki_folder.proofs.folder.Folder.add_list.Goals as goal

pub invariant_of-self-2 : goal.invariant_of-self-2
invariant_of-self-2 c = (
  c.self.invariant.0,
  (λ key.
      let lists = c.self.inside.lists.items in
      let table = places_in c.self.inside.lists_by_signer.places in
      let new = places_in c.add.new.self.places in
      let list = c.args.list in
      let place = c.len-place.result in
      let signer : c.authority_key_identifier.result.now ≡ signer_of list = c.authority_key_identifier.ensures ∙
      ap (λ (f : ListFields Revoked). f.extensions.authority_key_identifier) c.as_cert_list.ensures in
      let last : place ≡ length lists = c.len-place.ensures ∙ c.self.inside.lists.ok.0 in
      let added : new key ≡ with_place (signer_of list) place key (table key) =
      subst (λ (s : List ℕ). new key ≡ with_place s place key (table key)) signer
      (c.in_default-add.ensures.ok key) in
      let items : c.push.new.self.items ≡ lists ++ list ∷ [] = c.in-Ok.ensures.items ∙
      ap (λ (l : List CrlState). l ++ list ∷ []) c.in_default.ensures.items in
      added ∙ ap (λ (ps : List ℕ). with_place (signer_of list) place key ps) (c.self.invariant.1 key) ∙
      sym (list_added key lists list place last) ∙ sym (ap (λ (l : List CrlState). list_places key l) items)),
)
