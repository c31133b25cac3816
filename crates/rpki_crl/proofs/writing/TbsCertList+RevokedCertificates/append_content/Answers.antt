use Rattle.std.proofs.Common.{◌≡◌, ◌++◌, append_assoc, length, take, refl, ap, arith, subst}
use Rattle.std.specs.Prelude.{OnOk}
use Rattle.std.proofs.lemmas.Result.{on_ok_weaker, on_err_weaker}
use Rattle.std.proofs.lemmas.List.{take_at}
use Rattle.rpki_der.proofs.Ending.{front_kept}
use Rattle.rpki_der.proofs.TooLong.{passed_long, still_long}
use Rattle.rpki_crl.specs.ListExtensions.Views.{extensions_view}
use Rattle.rpki_crl.specs.Lists.{ListFields, list_content, list_content_format, tagged_list_extensions}
use Rattle.rpki_crl.specs.RevokedEntries.{Revoked, revoked_part}
use Rattle.rpki_crl.proofs.ListFormats.{version_is}
use Rattle.rpki_crl.proofs.ListsWritten.{revoked_longer, tagged_longer}
use Rattle.rpki_crl.proofs.writing.TbsCertList+RevokedCertificates.append_content.Goals as goal

pub returns-in_err-encode_ref-2-clause-too_long : goal.returns-in_err-encode_ref-2-clause-too_long
returns-in_err-encode_ref-2-clause-too_long c =
    passed_long c.from_residual-in_err-encode_ref-2.result _ (revoked_part c.self.inside.revoked_certs).inside
    (list_content c.args.self.now) c.from_residual-in_err-encode_ref-2.ensures.1
    c.in_err-encode_ref-2.ensures.too_long
    (omega (arith, ap (λ (f : ListFields Revoked). length (revoked_part f.revoked).inside) c.self.view_is, revoked_longer c.args.self.now))

pub returns-clause-ok : goal.returns-clause-ok
unfolding list_content_format
returns-clause-ok c =
    subst (λ (f : ListFields Revoked). OnOk c.append_tagged.result
    (c.append_tagged.new.out.items ≡ c.args.out.now.items ++ list_content f)) c.self.view_is
    (on_ok_weaker c.append_tagged.result
    (λ (tagged : c.append_tagged.new.out.items ≡ c.encode_ref-2.new.out.items ++ tagged_list_extensions (extensions_view c.self.inside.extensions)). simp (
      tagged,
      c.in_ok-encode_ref-2.ensures.ok,
      c.in_ok-encode_varied-2.ensures.ok,
      c.in_ok-encode_varied.ensures.ok,
      c.in_ok-encode_ref.ensures.writes.ok,
      c.in_ok-x509_encode.ensures.writes.ok,
      c.in_ok-extend_from_slice.ensures.items,
      version_is,
      append_assoc,
    )) c.append_tagged.ensures.ok)

pub returns-clause-err : goal.returns-clause-err
returns-clause-err c =
    let old = c.args.out.now.items in
    let mid = c.encode_ref-2.new.out.items in
    let front : take (length old) mid ≡ old = simp (
      c.in_ok-encode_ref-2.ensures.ok,
      c.in_ok-encode_varied-2.ensures.ok,
      c.in_ok-encode_varied.ensures.ok,
      c.in_ok-encode_ref.ensures.writes.ok,
      c.in_ok-x509_encode.ensures.writes.ok,
      c.in_ok-extend_from_slice.ensures.items,
      append_assoc,
    ) (take_at old _ (length old) refl) in
    on_err_weaker c.append_tagged.result (front_kept old mid c.append_tagged.new.out.items front) c.append_tagged.ensures.err

pub returns-clause-too_long : goal.returns-clause-too_long
returns-clause-too_long c =
    still_long c.append_tagged.result (tagged_list_extensions (extensions_view c.self.inside.extensions))
    (list_content c.args.self.now) c.append_tagged.ensures.too_long
    (omega (
      arith,
      ap (λ (f : ListFields Revoked). length (tagged_list_extensions f.extensions)) c.self.view_is,
      tagged_longer c.args.self.now,
    ))
