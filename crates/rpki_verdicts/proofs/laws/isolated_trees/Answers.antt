use Rattle.std.proofs.Common.{◌≡◌, refl}
use Rattle.rpki_cert.specs.Verification.{context}
use Rattle.rpki_files.specs.Files.{contents}
use Rattle.rpki_keys.specs.RsaSignatures.{IsSignedByRsa}
use Rattle.rpki_verdicts.specs.IsolatedTrees.{about, folder_of}
use Rattle.rpki_verdicts.specs.Trees.{certs_of}
use Rattle.rpki_verdicts.proofs.IsolatedQuestions.{one_locator, walk_by, walk_of}
use Rattle.rpki_verdicts.proofs.laws.isolated_trees.Goals as goal

pub returns-clause-anchor : goal.returns-clause-anchor
returns-clause-anchor c = c.same_anchors.ensures

pub returns-clause-alike : goal.returns-clause-alike
returns-clause-alike c = λ q files l keys one other both p free cert said says here there.
    let x = context IsSignedByRsa q.at q.strict in
    let w = both.without in
    let v = both.with_them in
    let same : v.locator ≡ w.locator = one_locator l v.locator w.locator v.locator_is w.locator_is in
    let alike = c.same_anchors.ensures q files l keys one other both in
    c.isolated_walks.ensures.alike (record {}) q.at q.strict q.names keys (folder_of x q l one w)
    (folder_of x (about q files) l other v) w.locator w.anchor.octets v.anchor.octets one.firsts other.firsts
    both.adds alike
    (walk_of x q l one w) (walk_by x (about q files) l other v w.locator same) p free cert said says here there

pub returns-clause-bounded : goal.returns-clause-bounded
returns-clause-bounded c = λ q files l keys one other both p free enough cert.
    let x = context IsSignedByRsa q.at q.strict in
    let w = both.without in
    let v = both.with_them in
    let same : v.locator ≡ w.locator = one_locator l v.locator w.locator v.locator_is w.locator_is in
    let alike = c.same_anchors.ensures q files l keys one other both in
    c.isolated_walks.ensures.bounded (record {}) q.at q.strict q.names keys (folder_of x q l one w)
    (folder_of x (about q files) l other v) w.locator w.anchor.octets v.anchor.octets one.firsts other.firsts
    both.adds alike
    (c.admitted_once.ensures.firsts (record {}) keys (contents (certs_of one)) one.firsts w.firsts_are)
    (c.admitted_once.ensures.firsts (record {}) keys (contents (certs_of other)) other.firsts v.firsts_are)
    (walk_of x q l one w) (walk_by x (about q files) l other v w.locator same) refl refl p free enough cert

pub returns-clause-unharmed : goal.returns-clause-unharmed
returns-clause-unharmed c = λ q files l keys one other both p free whole cert.
    let x = context IsSignedByRsa q.at q.strict in
    let w = both.without in
    let v = both.with_them in
    let same : v.locator ≡ w.locator = one_locator l v.locator w.locator v.locator_is w.locator_is in
    let alike = c.same_anchors.ensures q files l keys one other both in
    c.isolated_walks.ensures.unharmed (record {}) q.at q.strict q.names keys (folder_of x q l one w)
    (folder_of x (about q files) l other v) w.locator w.anchor.octets v.anchor.octets one.firsts other.firsts
    both.adds alike
    (c.admitted_once.ensures.firsts (record {}) keys (contents (certs_of one)) one.firsts w.firsts_are)
    (c.admitted_once.ensures.firsts (record {}) keys (contents (certs_of other)) other.firsts v.firsts_are)
    (walk_of x q l one w) (walk_by x (about q files) l other v w.locator same) refl refl p free whole cert
