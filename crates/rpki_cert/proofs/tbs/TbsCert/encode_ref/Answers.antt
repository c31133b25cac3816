use Rattle.std.proofs.Common.{◌≡◌, length, rules}
use Rattle.std.proofs.lemmas.Result.{on_ok_weaker}
use Rattle.rpki_der.specs.Tags.{SEQUENCE}
use Rattle.rpki_der.specs.Writers.{value}
use Rattle.rpki_der.proofs.Ending.{ended, ended_well}
use Rattle.rpki_cert.specs.Certificates.{tbs_content}
use Rattle.rpki_cert.proofs.tbs.TbsCert.encode_ref.Goals as goal

pub returns-clause-fits : goal.returns-clause-fits
returns-clause-fits c =
    let start : c.len-start.result ≡ length c.args.out.now.items = search rules in
    let content = c.append_content-content.ensures in
    let writes = ended (value SEQUENCE) _ c.args.out.now.items (tbs_content c.args.self.now)
    _ _ c.append_content-content.result c.end_value.result start content.ok content.err content.too_long
    c.end_value.ensures in
    on_ok_weaker c.end_value.result (λ both. record {
      serial_is = both.0;
      issuer_is = c.known.ensures.issuer;
      not_before_is = c.known.ensures.not_before;
      not_after_is = c.known.ensures.not_after;
      subject_is = c.known.ensures.subject;
      key_is = c.known.ensures.key;
      extensions_are = c.known.ensures.extensions;
      short = both.1;
    }) (ended_well _ _ c.append_content-content.result c.end_value.result content.serial c.end_value.ensures.went_well writes.fits)

pub returns-clause-writes : goal.returns-clause-writes
returns-clause-writes c =
    let start : c.len-start.result ≡ length c.args.out.now.items = search rules in
    let content = c.append_content-content.ensures in
    ended (value SEQUENCE) _ c.args.out.now.items (tbs_content c.args.self.now) _ _ c.append_content-content.result
    c.end_value.result start content.ok content.err content.too_long c.end_value.ensures
