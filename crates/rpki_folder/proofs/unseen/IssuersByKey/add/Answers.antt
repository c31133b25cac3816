use Rattle.std.specs.BTreeMap.{get, is_at}
use Rattle.std.specs.Cmp.Lexicographic.{slice_cmp}
use Rattle.std.specs.Option.{option_copied}
use Rattle.std.specs.Ordering.{nat_cmp}
use Rattle.std.specs.Prelude.{Option, Some, cond}
use Rattle.std.proofs.Common.{◌≡◌, ◌∙◌, ℕ, List, sym, ap, subst}
use Rattle.std.proofs.lemmas.Bool.{false≢true}
use Rattle.rpki_folder.specs.Folders.{string_at}
use Rattle.rpki_folder.specs.UnseenCertificates.{IsBetter}
use Rattle.rpki_folder.specs.declared.unseen.IssuerStatus.{IssuerStatus}
use Rattle.rpki_folder.specs.declared.unseen.KnownIssuer.{KnownIssuer}
use Rattle.rpki_folder.proofs.IssuersAmong.{is_taken, not_taken, own_key}
use Rattle.rpki_folder.proofs.unseen.IssuersByKey.add.Goals as goal

pub returns : goal.returns
returns c = λ certs statuses begins is among key.
    let n = c.args.place in
    let said = c.args.said in
    let own = own_key c.unambiguous.ensures.certificate (string_at certs n) said begins in
    let m = c.args.self.now.issuers in
    let before : option_copied c.get.result ≡ get (slice_cmp nat_cmp) m said.key =
    c.get.ensures.value ∙ ap (λ (k : List ℕ). get (slice_cmp nat_cmp) m k) c.as_octets.ensures.same in
    not_taken certs statuses n said.key own m
    (λ better. false≢true
    (sym c.if-is_better.false ∙
    c.is_better.ensures.1 (subst (λ (o : Option KnownIssuer). IsBetter o c.args.status) (sym before)
    (subst (λ (s : IssuerStatus). IsBetter (get (slice_cmp nat_cmp) m said.key) s) is better))))
    key (among key)

pub returns-in-Ok : goal.returns-in-Ok
returns-in-Ok c = λ certs statuses begins is among key.
    let n = c.args.place in
    let said = c.args.said in
    let own = own_key c.unambiguous.ensures.certificate (string_at certs n) said begins in
    let m = c.args.self.now.issuers in
    let before : option_copied c.get.result ≡ get (slice_cmp nat_cmp) m said.key =
    c.get.ensures.value ∙ ap (λ (k : List ℕ). get (slice_cmp nat_cmp) m k) c.as_octets.ensures.same in
    is_taken certs statuses n said.key own m c.insert.new.self
    (λ q.
    subst (λ (s : IssuerStatus). get (slice_cmp nat_cmp) c.insert.new.self q
    ≡ cond (is_at (slice_cmp nat_cmp said.key) q) (Some (record { place = n; status = s }))
    (get (slice_cmp nat_cmp) m q)) (sym is)
    (subst (λ (k : List ℕ). get (slice_cmp nat_cmp) c.insert.new.self q
    ≡ cond (is_at (slice_cmp nat_cmp k) q) (Some (record { place = n; status = c.args.status }))
    (get (slice_cmp nat_cmp) m q)) c.as_octets-then-is_better.ensures.same (c.in-Ok.ensures.updates.0 q)))
    (subst (λ (s : IssuerStatus). IsBetter (get (slice_cmp nat_cmp) m said.key) s) (sym is)
    (subst (λ (o : Option KnownIssuer). IsBetter o c.args.status) before (c.is_better.ensures.0 c.if-is_better.true)))
    key (among key)
