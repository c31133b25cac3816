-- What is asked of who issues: its fields, its name, and the lists that are its own (RFC 6487 4.4,
-- 5).
use Rattle.std.specs.Prelude.{◌≡◌, Option, option_map}
use Rattle.rpki_cert.specs.Certificates.{TbsFields}
use Rattle.rpki_cert.specs.Verification.{IsSignedBy, ResourceFields}
use Rattle.rpki_crl.specs.Lists.{CrlFields}
use Rattle.rpki_crl.specs.Revocation.{NamesIssuer}
use Rattle.rpki_keys.specs.RsaSignatures.{IsSignedByRsa}
use Rattle.rpki_issuing.specs.AskedFields.{issuer_name}

-- the fields of the issuer's certificate
abbrev pub fields_above : Option ResourceFields → Option TbsFields
fields_above issuer = option_map (λ r. r.cert.fields) issuer

-- the issuer is named as the certificate above, and without one as the subject (RFC 6487 4.4)
abbrev pub HasIssuerName : Option ResourceFields → TbsFields → Type 0
HasIssuerName issuer f = f.issuer ≡ issuer_name (fields_above issuer) f.subject

-- the list names the issuer's key, and this key signed it; it may be stale
pub record IsOwnList (issuer : TbsFields) (list : CrlFields) : Type 0 where
  pub names : NamesIssuer issuer list
  pub signed : IsSignedBy IsSignedByRsa issuer.key list.signed_data
