use Rattle.std.proofs.Common.{sym, subst}
use Rattle.std.proofs.lemmas.Bool.{false≢true}
use Rattle.rpki_der.specs.Encoding.{Means}
use Rattle.rpki_der.specs.Values.{AreOctets}
use Rattle.rpki_der.proofs.Answering.{memory_alone, whole_means}
use Rattle.rpki_der.proofs.Formats.{one_meant}
use Rattle.rpki_cert.specs.Certificates.{IsCertificate, IsMade}
use Rattle.rpki_cert.proofs.round_trip.read_again.Goals as goal

pub unreachable-requires : goal.unreachable-requires
unreachable-requires c =
    let made = c.args.made.now in
    let octets : AreOctets made.signed_data.signature.value = rw (c.signature.ensures, c.signed_data.ensures)
    at c.value-value.ensures.octets in
    let is : IsMade made =
    record {
      message_is = c.requires.message;
      fields_are =
          record { fits = c.requires.written; resources = c.requires.resources; only_v4 = c.requires.only_v4 };
      signature_is = octets;
      short = c.requires.fits;
    } in
    let meant : Means IsCertificate made c.in_ok-octets.octets =
    whole_means IsCertificate made
    _ (subst (IsCertificate made) (sym c.in_ok-octets.ensures.ok)
    (c.written_is_read.ensures.certificate made is)) in
    false≢true (c.if-not-is_memory.ensures.1 (memory_alone c.in-Err.error c.in-Err.ensures (λ none. none made meant)))

pub returns-in-Ok-clause-same : goal.returns-in-Ok-clause-same
returns-in-Ok-clause-same c =
    let made = c.args.made.now in
    let octets : AreOctets made.signed_data.signature.value = rw (c.signature.ensures, c.signed_data.ensures)
    at c.value-value.ensures.octets in
    let is : IsMade made =
    record {
      message_is = c.requires.message;
      fields_are =
          record { fits = c.requires.written; resources = c.requires.resources; only_v4 = c.requires.only_v4 };
      signature_is = octets;
      short = c.requires.fits;
    } in
    let meant : Means IsCertificate made c.in_ok-octets.octets =
    whole_means IsCertificate made
    _ (subst (IsCertificate made) (sym c.in_ok-octets.ensures.ok)
    (c.written_is_read.ensures.certificate made is)) in
    one_meant IsCertificate c.unambiguous.ensures.certificate c.in-Ok.read made c.in_ok-octets.octets c.in-Ok.ensures meant
