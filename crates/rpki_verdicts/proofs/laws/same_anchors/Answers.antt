use Rattle.std.proofs.Common.{◌≡◌, subst}
use Rattle.rpki_cert.specs.Verification.{context}
use Rattle.rpki_files.specs.Files.{contents}
use Rattle.rpki_folder.specs.FoundAnchors.{IsAnchorAt}
use Rattle.rpki_keys.specs.Locators.{NamedTal}
use Rattle.rpki_keys.specs.RsaSignatures.{IsSignedByRsa}
use Rattle.rpki_path.specs.AskedLists.{by_named_lists}
use Rattle.rpki_verdicts.specs.IsolatedTrees.{about, folder_of}
use Rattle.rpki_verdicts.specs.Trees.{certs_of}
use Rattle.rpki_verdicts.proofs.IsolatedQuestions.{begin_alike, one_locator}
use Rattle.rpki_verdicts.proofs.laws.same_anchors.Goals as goal

pub returns : goal.returns
returns c = λ q files l keys one other both.
    let x = context IsSignedByRsa q.at q.strict in
    let w = both.without in
    let v = both.with_them in
    let same : v.locator ≡ w.locator = one_locator l v.locator w.locator v.locator_is w.locator_is in
    let there = subst (λ (t : NamedTal). IsAnchorAt x (by_named_lists q.names x v.lists) q.names t
    (contents (certs_of other)) other.anchor) same v.anchor_is in
    begin_alike x q files l one other w v
    (c.isolated_anchors.ensures.chosen (record {}) q.at q.strict q.names keys (folder_of x q l one w)
    (folder_of x (about q files) l other v) both.adds w.locator both.own_key one.anchor other.anchor w.anchor_is
    there)
