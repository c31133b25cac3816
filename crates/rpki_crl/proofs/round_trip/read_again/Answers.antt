use Rattle.std.proofs.Common.{sym, subst, List, ℕ}
use Rattle.std.proofs.lemmas.Bool.{false≢true}
use Rattle.rpki_der.specs.Values.{AreOctets}
use Rattle.rpki_der.proofs.Answering.{memory_alone, whole_means}
use Rattle.rpki_der.proofs.Formats.{one_meant}
use Rattle.rpki_crl.specs.Lists.{IsCertificateList, IsMadeList}
use Rattle.rpki_crl.proofs.round_trip.read_again.Goals as goal

pub unreachable-requires : goal.unreachable-requires
unreachable-requires c =
    let made = c.args.made.now.list in
    let octets : AreOctets made.signed_data.signature.value = rw (c.signature.ensures, c.signed_data.ensures)
    at c.value-value.ensures.octets in
    let is : IsMadeList made =
    record {
      message_is = c.requires.message;
      fields_are = c.requires.written;
      same_algorithm =
          c.requires.algorithm;
      signature_is = octets;
      short = c.requires.fits;
    } in
    let own = whole_means IsCertificateList made c.in_ok-octets.octets
    (subst (λ (b : List ℕ). IsCertificateList made b) (sym c.in_ok-octets.ensures.ok)
    (c.written_is_read.ensures.list made is)) in
    false≢true (c.if-not-is_memory.ensures.1 (memory_alone c.in-Err.error c.in-Err.ensures.means (λ none. none made own)))

pub returns-in-Ok-clause-same : goal.returns-in-Ok-clause-same
returns-in-Ok-clause-same c =
    let made = c.args.made.now.list in
    let octets : AreOctets made.signed_data.signature.value = rw (c.signature.ensures, c.signed_data.ensures)
    at c.value-value.ensures.octets in
    let is : IsMadeList made =
    record {
      message_is = c.requires.message;
      fields_are = c.requires.written;
      same_algorithm =
          c.requires.algorithm;
      signature_is = octets;
      short = c.requires.fits;
    } in
    let own = whole_means IsCertificateList made c.in_ok-octets.octets
    (subst (λ (b : List ℕ). IsCertificateList made b) (sym c.in_ok-octets.ensures.ok)
    (c.written_is_read.ensures.list made is)) in
    one_meant IsCertificateList c.unambiguous.ensures.list c.in-Ok.read.list made c.in_ok-octets.octets c.in-Ok.ensures.means own
