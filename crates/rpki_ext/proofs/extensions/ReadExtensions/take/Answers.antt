use Rattle.std.proofs.Common.{rules, ◌≡◌, Err}
use Rattle.rpki_der.proofs.Answering.{rejects}
use Rattle.rpki_ext.proofs.CertificateExtensions.{unread_ip, unread_as}
use Rattle.rpki_ext.proofs.extensions.ReadExtensions.take.Goals as goal

pub returns-in_err-take_families_from-in-IpResources : goal.returns-in_err-take_families_from-in-IpResources
returns-in_err-take_families_from-in-IpResources c =
    λ x named flag first same.
    let e = c.in_err-take_families_from-in-IpResources.field-0.0 in
    let is : c.from_residual-in_err-take_families_from-in-IpResources.result ≡ Err e = search rules in
    rw is (rejects e (λ none. unread_ip _ c.in-IpResources.mode x (rw c.in-IpResources.is at named)
    (rw c.in-IpResources.is at first) (rw same none)) c.in_err-take_families_from-in-IpResources.ensures.reads)

pub returns-in_err-take_from-in-AsResources : goal.returns-in_err-take_from-in-AsResources
returns-in_err-take_from-in-AsResources c =
    λ x named flag first same.
    let e = c.in_err-take_from-in-AsResources.field-0.0 in
    let is : c.from_residual-in_err-take_from-in-AsResources.result ≡ Err e = search rules in
    rw is (rejects e (λ none. unread_as _ c.in-AsResources.mode x (rw c.in-AsResources.is at named)
    (rw c.in-AsResources.is at first) (rw same none)) c.in_err-take_from-in-AsResources.ensures.reads)
