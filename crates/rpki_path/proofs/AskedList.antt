-- The same of lists whose names aren't asked.
use Rattle.std.specs.Prelude.{false, Result, Contains}
use Rattle.std.proofs.Common.{List}
use Rattle.rpki_parts.specs.Conditions.{IsFirstFalse, Tests}
use Rattle.rpki_cert.specs.Certificates.{TbsFields, CertFields}
use Rattle.rpki_cert.specs.Verification.{Context, IsSignedBy}
use Rattle.rpki_crl.specs.Lists.{CrlState}
use Rattle.rpki_crl.specs.Revocation.{NamesIssuer, revocation_checks}
use Rattle.rpki_crl.specs.declared.revocation_error.RevocationError.{RevocationError}
use Rattle.rpki_crl.specs.declared.revocation_error.RevocationError.TheVariants.{NoCrl, BadSignature, Stale}
use Rattle.rpki_path.specs.AskedLists.{IsFor, IsEligible, HaveNone, IsLatest, by_lists, IsSaidBy}
use Rattle.rpki_path.specs.AskedLists.Steps.{EachHas}
use Rattle.rpki_path.proofs.AskedNamedList as named

module _ (x : Context) (lists : List CrlState) (issuer : TbsFields) (c : CertFields) where
  abbrev Fits : CrlState → Type 0
  Fits l = IsEligible x.verifies x.now issuer c l

  abbrev Signs : CrlState → Type 0
  Signs l = IsSignedBy x.verifies issuer.key l.list.signed_data

  pub no_list : HaveNone (IsFor c) lists → IsFirstFalse (by_lists x lists issuer c) revocation_checks NoCrl
  no_list none = named.no_list false x lists issuer c none (λ l inside is. none l inside is.0)

  module _ (none : HaveNone Fits lists) (l : CrlState) (one : Contains lists l × IsFor c l)
      (key : NamesIssuer issuer l.list) where
    pub unsigned : (EachHas (IsFor c) Signs lists → ⊥) →
        IsFirstFalse (by_lists x lists issuer c) revocation_checks BadSignature
    unsigned not = named.unsigned false x lists issuer c none l one key not

    pub not_begun : EachHas (IsFor c) Signs lists → IsFirstFalse (by_lists x lists issuer c) revocation_checks Stale
    not_begun signed = named.not_begun false x lists issuer c none l one key signed

  -- what the latest list says is answered
  pub answered : (l : CrlState) → IsLatest Fits c lists l → NamesIssuer issuer l.list →
      {T : Type 0} (r : Result T RevocationError) → IsSaidBy x.now c l r →
      Tests (by_lists x lists issuer c) revocation_checks r
  answered l last key r said = named.answered false x lists issuer c l last key r said
