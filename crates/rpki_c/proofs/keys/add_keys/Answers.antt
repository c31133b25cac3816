use Rattle.std.proofs.Common.{rules, ◌≡◌, ◌++◌, ◌∷◌, [], ℕ, List, sym, subst}
use Rattle.std.proofs.lemmas.Bool.{false≢true}
use Rattle.std.proofs.lemmas.Result.{on_ok_weaker}
use Rattle.rpki_der.specs.Place.{Rejects}
use Rattle.rpki_ext.specs.Kinds.{Means}
use Rattle.rpki_cert.specs.Certificates.{CertFields, IsCertificate}
use Rattle.rpki_c.specs.PathKeys.{AreKeysOf, keys_in}
use Rattle.rpki_c.proofs.KeysGathered.{keys_more, keys_same}
use Rattle.rpki_c.proofs.Unread.{unless_memory}
use Rattle.rpki_c.proofs.keys.add_keys.Goals as goal

pub returns-in-Ok : goal.returns-in-Ok
returns-in-Ok c = λ strings are.
    let octets = c.args.octets.now in
    let cert = c.in-Ok.cert in
    let copy : c.in_ok-clone.field-0 ≡ octets = search rules in
    let begins = subst (λ (o : List ℕ). Means IsCertificate cert o) copy c.in-Ok.ensures in
    on_ok_weaker c.push_keys-pushed.result
    (λ (items : c.push_keys-pushed.new.keys.items ≡ c.args.keys.now.items ++ keys_in cert).
    subst (λ (ks : List (List ℕ)). AreKeysOf (strings ++ octets ∷ []) ks) (sym items)
    (keys_more c.unambiguous.ensures.certificate cert octets begins strings c.args.keys.now.items are))
    c.push_keys-pushed.ensures

pub returns-else-is_memory : goal.returns-else-is_memory
returns-else-is_memory c = λ strings are.
    let octets = c.args.octets.now in
    let e = c.in-Err.error in
    let copy : c.in_ok-clone.field-0 ≡ octets = search rules in
    let rejected = subst (λ (o : List ℕ). Rejects e ((d : CertFields) → Means IsCertificate d o → ⊥)) copy
    c.in-Err.ensures in
    let none = unless_memory ((d : CertFields) → Means IsCertificate d octets → ⊥) e rejected
    (λ is. false≢true (c.if-is_memory.ensures.1 is)) in
    keys_same octets none strings c.args.keys.now.items are
