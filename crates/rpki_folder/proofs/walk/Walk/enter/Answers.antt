use Rattle.std.specs.Prelude.{false, Contains}
use Rattle.std.proofs.Common.{◌≡◌, List, [], get_or, sym, subst, ◌∙◌}
use Rattle.std.proofs.lemmas.List.{append-nil}
use Rattle.std.proofs.lemmas.List.Elements.{Contains-get_or}
use Rattle.rpki_cert.specs.Certificates.{CertFields}
use Rattle.rpki_cert.specs.Verification.{context}
use Rattle.rpki_path.specs.Repeats.{AreAlike}
use Rattle.rpki_folder.specs.IssuerTables.{IsKeptOf}
use Rattle.rpki_folder.specs.Walks.{Told}
use Rattle.rpki_folder.specs.declared.issuers.Issuer.{Issuer}
use Rattle.rpki_folder.specs.NameTables.{IsOfKey}
use Rattle.rpki_folder.proofs.KeptIssuers.{kept_alike, kept_more, turned}
use Rattle.rpki_folder.proofs.NamedSteps.{if_some, key_alike, on_both}
use Rattle.rpki_folder.proofs.walk.Walk.enter.Goals as goal

-- what is kept of the issuer's key
pub named_places-requires : goal.named_places-requires
named_places-requires g c =
    let w = c.args.self.now in
    let verifies = g.V.Verifier.verifies w.verifier.now in
    let folder = w.folder.now in
    let issuer = c.args.issuer.now.cert in
    let keys = c.enter_key.new.issuers.keys.items in
    record {
      places = c.requires.places;
      key = if_some c.key_of-key.result
          (λ k. Contains keys k.now × AreAlike false k.now.cert.fields c.as_cert-2.result.now.fields)
          (λ k. IsOfKey verifies folder issuer k.now)
          (λ k h.
          let alike : AreAlike false k.now.cert.fields issuer.fields =
          subst (λ (d : CertFields). AreAlike false k.now.cert.fields d.fields) c.as_cert-2.ensures h.1 in
          key_alike verifies folder k.now.cert issuer alike (turned false k.now.cert.fields issuer.fields alike)
          k.now (c.in_ok-enter_key.ensures.keys k.now h.0))
          c.key_of-key.ensures;
    }

pub lists_of-requires : goal.lists_of-requires
lists_of-requires g c =
    let w = c.args.self.now in
    let verifies = g.V.Verifier.verifies w.verifier.now in
    let folder = w.folder.now in
    let issuer = c.args.issuer.now.cert in
    let keys = c.enter_key.new.issuers.keys.items in
    if_some c.key_of-key.result
    (λ k. Contains keys k.now × AreAlike false k.now.cert.fields c.as_cert-2.result.now.fields)
    (λ k. IsOfKey verifies folder issuer k.now)
    (λ k h.
    let alike : AreAlike false k.now.cert.fields issuer.fields =
    subst (λ (d : CertFields). AreAlike false k.now.cert.fields d.fields) c.as_cert-2.ensures h.1 in
    key_alike verifies folder k.now.cert issuer alike (turned false k.now.cert.fields issuer.fields alike) k.now
    (c.in_ok-enter_key.ensures.keys k.now h.0))
    c.key_of-key.ensures

pub children-requires : goal.children-requires
children-requires g c = record { kept = c.in_ok-lists.ensures; places = c.in_ok-named.ensures }

pub returns-in_err-at-clause-told : goal.returns-in_err-at-clause-told
returns-in_err-at-clause-told g c =
    λ v ts heard.
    ([], subst (λ (l : List Told). g.W.Visitor.became v l c.args.visitor.now) (sym (append-nil ts)) heard, tt)

pub returns-in_err-enter_key-clause-told : goal.returns-in_err-enter_key-clause-told
returns-in_err-enter_key-clause-told g c =
    λ v ts heard.
    ([], subst (λ (l : List Told). g.W.Visitor.became v l c.args.visitor.now) (sym (append-nil ts)) heard, tt)

pub returns-in_err-named-clause-told : goal.returns-in_err-named-clause-told
returns-in_err-named-clause-told g c =
    λ v ts heard.
    ([], subst (λ (l : List Told). g.W.Visitor.became v l c.args.visitor.now) (sym (append-nil ts)) heard, tt)

pub returns-in-Some-clause-told : goal.returns-in-Some-clause-told
returns-in-Some-clause-told g c =
    λ v ts heard.
    ([], subst (λ (l : List Told). g.W.Visitor.became v l c.args.visitor.now) (sym (append-nil ts)) heard, tt)

pub returns-in_err-lists-clause-told : goal.returns-in_err-lists-clause-told
returns-in_err-lists-clause-told g c =
    λ v ts heard.
    ([], subst (λ (l : List Told). g.W.Visitor.became v l c.args.visitor.now) (sym (append-nil ts)) heard, tt)

pub returns-in-Some-clause-found : goal.returns-in-Some-clause-found
returns-in-Some-clause-found g c =
    let w = c.args.self.now in
    let x = context (g.V.Verifier.verifies w.verifier.now) w.at w.strict in
    let items = c.args.issuers.now.kept.items in
    let at = c.in-Some.at in
    let f = rw c.in-Some.is at c.in_ok-at.ensures in (
      f.0,
      (λ d.
          let one = get_or items at d in
          let alike : AreAlike w.names one.cert.fields c.args.issuer.now.cert.fields =
          subst (λ (e : CertFields). AreAlike w.names one.cert.fields e.fields) c.as_cert.ensures (f.1 d) in
          kept_alike w.names x w.folder.now one.cert c.args.issuer.now.cert alike one
          (c.requires.kept.issuers one (Contains-get_or items at d f.0))),
    )

pub returns-clause-kept : goal.returns-clause-kept
returns-clause-kept g c =
    let w = c.args.self.now in
    let x = context (g.V.Verifier.verifies w.verifier.now) w.at w.strict in
    let folder = w.folder.now in
    let one : Issuer = record {
      cert = c.in_ok-cert.cert;
      children = c.in_ok-children.children;
      lists =
          c.in_ok-lists.lists;
    } in
    let same : c.in_ok-cert.cert ≡ c.args.issuer.now.cert = c.in_ok-cert.ensures ∙ c.as_cert-3.ensures in
    let kept : IsKeptOf w.names x folder one.cert one =
    subst (λ (d : CertFields). IsKeptOf w.names x folder d one) (sym same)
    (record { children = c.in_ok-children.ensures.children; lists = c.in_ok-lists.ensures }) in
    on_both c.add.result c.add.ensures.kept c.add.ensures.keys
    (λ items same. kept_more w.names x folder c.enter_key.new.issuers c.add.new.self one items same
    c.in_ok-enter_key.ensures kept)
