use Rattle.std.specs.Prelude.{slice_range}
use Rattle.std.proofs.Common.{◌≡◌, ◌≢◌, ◌-◌, ℕ, List, length, take, sym, ap, subst, ◌∙◌, arith}
use Rattle.std.proofs.lemmas.Bool.{false≢true}
use Rattle.rpki_der.specs.Encoding.{Begins}
use Rattle.rpki_der.specs.Place.{remaining}
use Rattle.rpki_der.specs.declared.error.DecodeError.TheVariants.{Memory}
use Rattle.rpki_cert.specs.Certificates.{CertFields, IsCertificate}
use Rattle.rpki_folder.specs.FirstPlaces.{IsCertificateOctets}
use Rattle.rpki_folder.proofs.Descent.{if_ok, ok_if}
use Rattle.rpki_folder.proofs.FirstSteps.{own_octets}
use Rattle.rpki_folder.proofs.FolderSteps.{rejected}
use Rattle.rpki_folder.proofs.filed.Filed.certificate_octets.Goals as goal

-- octets that begin with a certificate aren't rejected
pub unreachable-requires : goal.unreachable-requires
unreachable-requires c =
    let begins = c.self.invariant in
    let apart : c.in-Err.fault ≢ Memory = λ is. false≢true (sym c.if-not-is_memory.true ∙ c.is_memory.ensures.1 is) in
    let none = subst (λ (o : List ℕ). (d : CertFields) (rest : List ℕ) → Begins IsCertificate o d rest → ⊥)
    c.new-cursor.ensures.all
    (rejected ((d : CertFields) (rest : List ℕ) → Begins IsCertificate (remaining c.new-cursor.result) d rest → ⊥)
    c.in-Err.fault c.in-Err.ensures.encoded apart) in
    none begins.0 begins.1.0 begins.1.1

pub returns-in-Ok : goal.returns-in-Ok
returns-in-Ok c =
    let octets = c.self.inside.octets in
    let rest = remaining c.take_from.new.cursor in
    let end = c.len.result - length c.rest.result.now in
    let begins = subst (λ (o : List ℕ). Begins IsCertificate o c.in-Ok.cert rest) c.new-cursor.ensures.all
    c.in-Ok.ensures.encoded in
    let whole : end - 0 ≡ end = omega arith in
    let count : end ≡ length octets - length rest = ap (λ (n : ℕ). n - length c.rest.result.now)
    c.len.ensures.value ∙ ap (λ (l : List ℕ). length octets - length l) c.rest.ensures.remaining in
    rw (← c.self.view_is) (ok_if (IsCertificateOctets octets) c.slice.result (λ own is.
    own_octets octets rest own c.in-Ok.cert begins
    (if_ok (λ b. b ≡ slice_range octets 0 end) c.slice.result own is c.slice.ensures.ok ∙
    ap (λ (n : ℕ). take n octets) (whole ∙ count))))
