use Rattle.std.proofs.Common.{rules, ◌≡◌, ◌++◌, [], ◌∷◌, List, ℕ, length, take, refl, ap, sym, ◌∙◌}
use Rattle.std.proofs.lemmas.Result.{on_ok_weaker, on_err_weaker}
use Rattle.rpki_der.specs.Primitives.{number}
use Rattle.rpki_der.specs.Tags.{CONTEXT_CONSTRUCTED, INTEGER}
use Rattle.rpki_parts.specs.Algorithms.{algorithm}
use Rattle.rpki_parts.specs.Validities.{validity}
use Rattle.rpki_parts.specs.Keys.{key, public_key_format}
use Rattle.rpki_der.proofs.Ending.{front_kept}
use Rattle.rpki_der.proofs.TooLong.{passed_long, still_long}
use Rattle.rpki_parts.specs.Names.{name_format}
use Rattle.rpki_cert.specs.Certificates.{tagged_extensions, tbs_content, version_format}
use Rattle.rpki_cert.proofs.CertificateFormats.{extensions_longer, front_of_pieces, key_longer, pieces_in_order, version_written}
use Rattle.rpki_cert.proofs.tbs.TbsCert.append_content.Goals as goal

pub returns-in_err-encode_ref-3-clause-too_long : goal.returns-in_err-encode_ref-3-clause-too_long
returns-in_err-encode_ref-3-clause-too_long c = passed_long c.from_residual-in_err-encode_ref-3.result
    _ (public_key_format.inside c.subject_public_key_info.result.now) (tbs_content c.args.self.now)
    c.from_residual-in_err-encode_ref-3.ensures.1 c.in_err-encode_ref-3.ensures.too_long
    (rw c.subject_public_key_info.ensures (key_longer c.args.self.now))

pub returns-clause-ok : goal.returns-clause-ok
unfolding name_format
returns-clause-ok c =
    let old = c.args.out.now.items in
    let f = c.args.self.now in
    let with_room : c.reserve.new.self.items ≡ old = search rules in
    let with_version : c.extend_from_slice.new.self.items ≡ old ++ version_format.written tt =
    c.in_ok-extend_from_slice.ensures.items ∙
    ap (λ (b : List ℕ). b ++ (CONTEXT_CONSTRUCTED 0 ∷ 3 ∷ INTEGER ∷ 1 ∷ 2 ∷ [])) with_room ∙
    ap (λ (b : List ℕ). old ++ b) (sym version_written) in
    let with_serial : c.encode.new.out.items ≡ c.extend_from_slice.new.self.items ++ number f.serial = search rules in
    let with_algorithm : c.x509_encode.new.out.items ≡ c.encode.new.out.items ++ algorithm f.algorithm = search rules in
    let with_issuer : c.encode_ref.new.out.items ≡ c.x509_encode.new.out.items ++ f.issuer = search rules in
    let with_validity : c.encode-2.new.out.items ≡ c.encode_ref.new.out.items ++ validity f.validity = search rules in
    let with_subject : c.encode_ref-2.new.out.items ≡ c.encode-2.new.out.items ++ f.subject = search rules in
    let with_key : c.encode_ref-3.new.out.items ≡ c.encode_ref-2.new.out.items ++ key f.key = search rules in
    let all : c.encode_ref-3.new.out.items ≡
    ((((((old ++ version_format.written tt) ++ number f.serial) ++ algorithm f.algorithm) ++ f.issuer) ++
    validity f.validity) ++ f.subject) ++ key f.key =
    rw (with_key, with_subject, with_validity, with_issuer, with_algorithm, with_serial, with_version) refl in
    on_ok_weaker c.append_extensions.result (λ e. e ∙ ap (λ (b : List ℕ). b ++ tagged_extensions f.extensions) all ∙
    pieces_in_order old f) c.append_extensions.ensures.ok

pub returns-clause-err : goal.returns-clause-err
unfolding name_format
returns-clause-err c =
    let old = c.args.out.now.items in
    let f = c.args.self.now in
    let with_room : c.reserve.new.self.items ≡ old = search rules in
    let with_version : c.extend_from_slice.new.self.items ≡ old ++ version_format.written tt =
    c.in_ok-extend_from_slice.ensures.items ∙
    ap (λ (b : List ℕ). b ++ (CONTEXT_CONSTRUCTED 0 ∷ 3 ∷ INTEGER ∷ 1 ∷ 2 ∷ [])) with_room ∙
    ap (λ (b : List ℕ). old ++ b) (sym version_written) in
    let with_serial : c.encode.new.out.items ≡ c.extend_from_slice.new.self.items ++ number f.serial = search rules in
    let with_algorithm : c.x509_encode.new.out.items ≡ c.encode.new.out.items ++ algorithm f.algorithm = search rules in
    let with_issuer : c.encode_ref.new.out.items ≡ c.x509_encode.new.out.items ++ f.issuer = search rules in
    let with_validity : c.encode-2.new.out.items ≡ c.encode_ref.new.out.items ++ validity f.validity = search rules in
    let with_subject : c.encode_ref-2.new.out.items ≡ c.encode-2.new.out.items ++ f.subject = search rules in
    let with_key : c.encode_ref-3.new.out.items ≡ c.encode_ref-2.new.out.items ++ key f.key = search rules in
    let all : c.encode_ref-3.new.out.items ≡
    ((((((old ++ version_format.written tt) ++ number f.serial) ++ algorithm f.algorithm) ++ f.issuer) ++
    validity f.validity) ++ f.subject) ++ key f.key =
    rw (with_key, with_subject, with_validity, with_issuer, with_algorithm, with_serial, with_version) refl in
    let front : take (length old) c.encode_ref-3.new.out.items ≡ old = ap (take (length old)) all ∙
    front_of_pieces old (version_format.written tt) (number f.serial) (algorithm f.algorithm) f.issuer
    (validity f.validity) f.subject (key f.key) in
    on_err_weaker c.append_extensions.result
    (front_kept old c.encode_ref-3.new.out.items c.append_extensions.new.out.items front)
    c.append_extensions.ensures.err

pub returns-clause-too_long : goal.returns-clause-too_long
returns-clause-too_long c = still_long c.append_extensions.result (tagged_extensions c.args.self.now.extensions)
    (tbs_content c.args.self.now) c.append_extensions.ensures.too_long (extensions_longer c.args.self.now)
