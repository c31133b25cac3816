use Rattle.std.proofs.Common.{◌≡◌, ⊎_elim}
use Rattle.rpki_files.specs.declared.contents.Form.TheVariants as forms
use Rattle.rpki_files.proofs.contents.read_content.Goals as goal

pub as_list-requires : goal.as_list-requires
as_list-requires c = λ begins. c.looks_like.ensures.certificate begins c.in-List.is

pub as_certificate-requires : goal.as_certificate-requires
as_certificate-requires c = λ begins.
    let same : c.looks_like.result ≡ forms.List = c.looks_like.ensures.list begins in
    ⊎_elim (λ (is : c.looks_like.result ≡ forms.Certificate). cc) (λ (is : c.looks_like.result ≡ forms.Other). cc) c.in-Certificate.is
