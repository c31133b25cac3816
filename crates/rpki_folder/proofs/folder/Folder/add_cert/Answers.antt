use Rattle.std.proofs.Common.{◌≡◌, ℕ, List, length, sym, subst, ◌∙◌}
use Rattle.rpki_folder.specs.KeyTables.{places_in, with_place}
use Rattle.rpki_folder.proofs.FolderSteps.{with_key, without_key}
use Rattle.rpki_folder.proofs.folder.Folder.add_cert.Goals as goal
use Rattle.rpki_folder.proofs.folder.Folder.add_cert.Goals.{in-Some+in_ok-add, in_default}

pub invariant_of-self-2 : goal.invariant_of-self-2
invariant_of-self-2 c = (
  (λ key.
      let certs = c.self.inside.certs.items in
      let octets = c.args.octets in
      let law = c.unambiguous.ensures.certificate in
      let said = c.requires in
      let named = sym said.2.signer_is in
      let table = places_in c.self.inside.by_signer.places in
      let len : c.len-place.result ≡ length certs = c.len-place.ensures ∙ c.self.inside.certs.ok.0 in
      elim c.match-said.branch [
        | in-Some+in_ok-add w ↦
            rw (c.in-Ok.ensures.items, w.self-inside-is, c.in_ok-try_reserve.ensures.items, c.new.ensures)
            (with_key certs octets law said.0 said.1 table c.self.invariant.0 w.in-Some.key (named ∙ w.in-Some.is)
            (places_in w.add.new.self.places)
            (subst (λ (n : ℕ). (k : List ℕ) →
            places_in w.add.new.self.places k ≡ with_place w.in-Some.key n k (table k)) len
            w.in_ok-add.ensures.ok) key)
        | in_default w ↦
            rw (c.in-Ok.ensures.items, w.self-inside-is, c.in_ok-try_reserve.ensures.items, c.new.ensures)
            (without_key certs octets law said.0 said.1 table c.self.invariant.0 (named ∙ w.in_default.is) key)
      ]),
  (λ key. elim c.match-said.branch [
    | in-Some+in_ok-add w ↦ rw w.self-inside-is (c.self.invariant.1 key)
    | in_default w ↦ rw w.self-inside-is (c.self.invariant.1 key)
  ]),
)
