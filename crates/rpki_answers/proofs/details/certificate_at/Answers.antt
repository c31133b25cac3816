use Rattle.std.specs.Prelude.{Some, None}
use Rattle.std.proofs.Common.{◌≡◌, ◌∙◌, length, refl, sym, subst}
use Rattle.std.proofs.lemmas.Option.{slice_get_past, slice_get_read}
use Rattle.rpki_cert.specs.Certificates.{IsCertificate}
use Rattle.rpki_der.specs.Encoding.{Means}
use Rattle.rpki_files.specs.Files.{FileFields}
use Rattle.rpki_answers.proofs.details.certificate_at.Goals as goal

pub returns-in-None-certificate : goal.returns-in-None-certificate
returns-in-None-certificate c = λ file there cert means.
    let files = c.args.files.now in
    let read = c.in-Some.file.now in
    let found = c.in-Some.ensures.lookup in
    let here = slice_get_read files (length files) c.args.place read refl found.3.0 found.1 in
    let is : Some read ≡ Some file = sym here ∙ there in
    let same : file ≡ read = cc in
    c.in-None-certificate.ensures cert (subst (λ (f : FileFields). Means IsCertificate cert f.octets) same means)

pub returns-in-None : goal.returns-in-None
returns-in-None c = λ file there cert means.
    let none = slice_get_past c.args.files.now c.args.place c.in-None.ensures.lookup.3 in
    let is : None ≡ Some file = sym none ∙ there in
    cc
