use Rattle.std.specs.Prelude.{reverse}
use Rattle.std.proofs.Common.{◌+◌, ℕ, length, subst, eq-eqb}
use Rattle.std.proofs.lemmas.Bool.{eqb-true}
use Rattle.rpki_cert.specs.Certificates.{IsCertificate}
use Rattle.rpki_der.proofs.Formats.{one_meant}
use Rattle.rpki_verdicts.specs.NamedPaths.Steps.{certs_in}
use Rattle.rpki_verdicts.specs.ShownPaths.{NameIssuersAbove}
use Rattle.rpki_verdicts.proofs.OrderedPaths.{IsOneMeant, one_count}
use Rattle.rpki_verdicts.proofs.named_paths.NameRule.is_named.Goals as goal

pub returns : goal.returns
returns c = λ names.
    let rule = c.args.self.now in
    let n = c.count_named.result in
    let most = length c.args.above.now + 1 in
    let up = reverse c.args.above.now in
    let its = c.count_named.ensures.named (certs_in rule) names in
    let one : IsOneMeant = λ a b octets m k. one_meant IsCertificate c.unambiguous.ensures.certificate a b octets m k in (
      (λ t. subst (λ (k : ℕ). NameIssuersAbove (certs_in rule) rule.firsts.now rule.anchor c.args.place up k) (eqb-true n most t) its),
      λ named. eq-eqb n most (one_count one (certs_in rule) rule.firsts.now rule.anchor c.args.place up n most its named),
    )
