use Rattle.std.specs.Prelude.{None, Some}
use Rattle.std.specs.BTreeMap.{get}
use Rattle.std.specs.Cmp.Lexicographic.{slice_cmp}
use Rattle.std.specs.Ordering.{nat_cmp}
use Rattle.std.proofs.Common.{◌∙◌, ℕ, List, ap, refl}
use Rattle.rpki_folder.proofs.IssuersAmong.{why_alone, why_named}
use Rattle.rpki_folder.specs.declared.unseen.Unseen.TheVariants.{NoIssuer}
use Rattle.rpki_folder.proofs.unseen.IssuersByKey.why_unseen.Goals as goal

pub returns-in_default : goal.returns-in_default
returns-in_default c = λ certs statuses octets begins among.
    why_alone certs statuses octets c.args.said c.unambiguous.ensures.certificate begins c.in_default.is

pub returns-in-Some-get : goal.returns-in-Some-get
returns-in-Some-get c = λ certs statuses octets begins among.
    let table = c.args.self.now.issuers in
    let key = c.in-Some.key in
    why_named certs statuses octets c.args.said c.unambiguous.ensures.certificate begins key c.in-Some.is
    (Some c.in-Some-get.issuer.now) (get (slice_cmp nat_cmp) table key)
    (c.in-Some-get.ensures.value ∙ ap (λ (k : List ℕ). get (slice_cmp nat_cmp) table k) c.as_octets.ensures.same)
    (among key) c.why.result c.why.ensures

pub returns-in-None : goal.returns-in-None
returns-in-None c = λ certs statuses octets begins among.
    let table = c.args.self.now.issuers in
    let key = c.in-Some.key in
    why_named certs statuses octets c.args.said c.unambiguous.ensures.certificate begins key c.in-Some.is
    None (get (slice_cmp nat_cmp) table key)
    (c.in-None.ensures.value ∙ ap (λ (k : List ℕ). get (slice_cmp nat_cmp) table k) c.as_octets.ensures.same)
    (among key) NoIssuer refl
