use Rattle.rpki_ext.specs.ExtensionKinds.{certificate_policies}
use Rattle.rpki_files.proofs.ContentReads.{read_or_none}
use Rattle.rpki_files.proofs.policies.has_profile_policies.Goals as goal

pub returns : goal.returns
returns c =
    rw c.is_ok.ensures.value
    (read_or_none (λ x. x) certificate_policies.format.encodes c.args.content.now
    c.take_certificate_policies.new.cursor c.take_certificate_policies.result
    c.take_certificate_policies.ensures.encoded)
