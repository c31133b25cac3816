use Rattle.std.proofs.Common.{◌++◌, refl}
use Rattle.rpki_document.proofs.Built.{ended_some, then_ended}
use Rattle.rpki_answers.specs.ShownCertificates.{IsShownCertificate, certificate_nodes, remark_nodes}
use Rattle.rpki_answers.proofs.showing.certificates.add_certificate.Goals as goal

pub returns : goal.returns
returns c =
    let last = c.add_remarks.result in
    let o = c.args.options.now in
    let cert = c.args.cert.now in
    let found = c.findings_of-found.result in
    let facts = c.in_ok-facts.facts.items in
    let notes = c.in_ok-notes.notes.items in
    ended_some last (IsShownCertificate o c.args.object.now.octets cert)
    (certificate_nodes cert.fields o.at o.all found ++ remark_nodes facts notes)
    c.args.parts.now.items c.add_remarks.new.parts.items
    (record {
      found = found;
      found_is = c.findings_of-found.ensures;
      facts = facts;
      facts_are = c.in_ok-facts.ensures cert c.requires;
      notes = notes;
      notes_are = c.in_ok-notes.ensures;
      nodes_are = refl;
    })
    (then_ended last c.args.parts.now.items c.add_found.new.parts.items c.add_remarks.new.parts.items
    (certificate_nodes cert.fields o.at o.all found) (remark_nodes facts notes)
    (rw c.as_tbs.ensures at c.in_ok-add_found.ensures)
    (rw (c.deref.ensures.value, c.deref-2.ensures.value) at c.add_remarks.ensures))
