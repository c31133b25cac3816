-- No octets are both a TBSCertList and a TBSCertificate.
use Rattle.std.proofs.Common.{◌≡◌, ℕ, List, [], ◌∷◌, ◌++◌, sym, ap, ◌∙◌, arith}
use Rattle.rpki_cert.specs.Certificates.{TbsFields, IsTbsCertificate, tbs_content_format, version_format}
use Rattle.rpki_crl.specs.Lists.{IsTbsCertList, ListFields, list_content_format, list_format, version_2}
use Rattle.rpki_crl.specs.RevokedEntries.{Revoked}
use Rattle.rpki_der.specs.Tags.{CONTEXT_CONSTRUCTED, INTEGER, SEQUENCE}
use Rattle.rpki_der.specs.Values.{enc}
use Rattle.rpki_der.proofs.Values.{enc_is_one, one_enc}

-- the one begins with an INTEGER, the other with a tag of its own
pub data_apart : (f : ListFields Revoked) (g : TbsFields) (b : List ℕ) → IsTbsCertList f b → IsTbsCertificate g b → ⊥
unfolding list_format list_content_format tbs_content_format version_2 version_format
data_apart f g b (inner, (a, rest, first, more, is), outer)
    (other, (v, behind, (version, only_3, tagged), last, same), around) =
    let inside : inner ≡ other = (enc_is_one SEQUENCE SEQUENCE inner other (sym outer.is ∙ around.is)).1 in
    let parts : enc INTEGER (1 ∷ []) ++ rest ≡ enc (CONTEXT_CONSTRUCTED 0) version ++ behind =
    ap (λ (l : List ℕ). l ++ rest) (sym first.is) ∙ sym is ∙ inside ∙ same ∙ ap (λ (l : List ℕ). l ++ behind)
    tagged.is in
    let tags = (one_enc INTEGER (CONTEXT_CONSTRUCTED 0) (1 ∷ []) version rest behind parts).0 in
    absurd (omega (arith, tags))
