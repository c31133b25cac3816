use Rattle.std.specs.Prelude.{Some, slice_get}
use Rattle.std.proofs.Common.{rules, ◌≡◌, ◌∷◌, ◌∙◌, [], ℕ, List, sym, ap, subst}
use Rattle.rpki_cert.specs.Certificates.{IsCertificate}
use Rattle.rpki_der.specs.Encoding.{Means}
use Rattle.rpki_files.specs.Files.{FileFields, contents}
use Rattle.rpki_verdicts.specs.PathFiles.{QuestionFields}
use Rattle.rpki_verdicts.proofs.path.anchor_certificate.Goals as goal

-- the octets of the first file are the first
first_octets : (files : List FileFields) (file : FileFields) (anchor : List ℕ) (more : List (List ℕ)) →
    slice_get files 0 ≡ Some file → contents files ≡ anchor ∷ more → file.octets ≡ anchor
first_octets [] file anchor more first are = absurd cc
first_octets (f ∷ fs) file anchor more first are =
    let same : file ≡ f = cc in
    let octets : f.octets ≡ anchor = cc in
    ap (λ (f : FileFields). f.octets) same ∙ octets

pub returns-in-None : goal.returns-in-None
returns-in-None c = λ anchor more is.
    let inside = c.question.inside.members.now in
    let file = c.in_ok-anchor.anchor.now in
    let first : slice_get inside 0 ≡ Some file = search rules in
    let are : contents inside ≡ anchor ∷ more = ap (λ (f : QuestionFields). contents f.members) c.question.view_is ∙ is in
    let same = first_octets inside file anchor more first are in
    (λ begins. c.in-None.ensures begins.0 (subst (λ (octets : List ℕ). Means IsCertificate begins.0 octets) (sym same) begins.1))
