use Rattle.std.proofs.lemmas.Result.{IfOk-weaker}
use Rattle.rpki_verdicts.specs.NamedPaths.Steps.{certs_in}
use Rattle.rpki_verdicts.proofs.NamedPlaces.{names_by}
use Rattle.rpki_verdicts.proofs.named_paths.NameRule.names.Goals as goal

pub returns : goal.returns
returns c =
    let rule = c.args.self.now in
    IfOk-weaker c.names_of-names.result _ _ (λ names zip. names_by (certs_in rule) rule.root.now rule.certs.now names.items zip)
    (c.names_of-names.ensures (certs_in rule) c.in_ok-files.ensures)
