use Rattle.std.proofs.Common.{◌≡◌, length, rules}
use Rattle.std.proofs.lemmas.Result.{on_ok_weaker}
use Rattle.rpki_der.specs.Tags.{SEQUENCE}
use Rattle.rpki_der.specs.Writers.{value}
use Rattle.rpki_der.proofs.Ending.{ended, ended_well}
use Rattle.rpki_crl.specs.Lists.{list_content, list_format}
use Rattle.rpki_crl.proofs.writing.TbsCertList+RevokedCertificates.encode_ref.Goals as goal

pub returns-clause-fits : goal.returns-clause-fits
returns-clause-fits c =
    let start : c.len-start.result ≡ length c.args.out.now.items = search rules in
    let content = c.append_content-content.ensures in
    let writes = ended (value SEQUENCE) _ c.args.out.now.items (list_content c.args.self.now)
    _ _ c.append_content-content.result c.end_value.result start content.ok content.err content.too_long
    c.end_value.ensures in
    on_ok_weaker c.end_value.result (λ both. record {
      issuer_is = c.known.ensures.issuer;
      this_update_is = c.known.ensures.this_update;
      next_update_is = c.known.ensures.next_update;
      entries_are = c.known.ensures.entries;
      identifier_is = c.known.ensures.identifier;
      number_is = both.0;
      short = both.1;
    }) (ended_well _ _ c.append_content-content.result c.end_value.result content.number c.end_value.ensures.went_well writes.fits)

pub returns-clause-writes : goal.returns-clause-writes
unfolding list_format
returns-clause-writes c =
    let start : c.len-start.result ≡ length c.args.out.now.items = search rules in
    let content = c.append_content-content.ensures in
    ended (value SEQUENCE) _ c.args.out.now.items (list_content c.args.self.now) _ _ c.append_content-content.result
    c.end_value.result start content.ok content.err content.too_long c.end_value.ensures
