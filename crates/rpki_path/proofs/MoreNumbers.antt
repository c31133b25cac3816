-- Members that pass on more hold more.
use Rattle.std.proofs.Common.{◌≤◌, ℕ, arith}
use Rattle.rpki_cert.specs.Certificates.{CertFields}
use Rattle.rpki_cert.specs.Verification.{HeldCheck}
use Rattle.rpki_cert.specs.declared.verification_error.VerificationError.{VerificationError}
use Rattle.rpki_cert.specs.declared.verification_error.VerificationError.TheVariants.{NotYetValid, Expired}
use Rattle.rpki_cert.specs.declared.verification_error.VerificationError.TheVariants.{InheritedV4, InheritedV6}
use Rattle.rpki_cert.specs.declared.verification_error.VerificationError.TheVariants.{InheritedAs, MissingKeyId}
use Rattle.rpki_cert.specs.declared.verification_error.VerificationError.TheVariants.{WrongKeyId, MissingIssuerUri}
use Rattle.rpki_cert.specs.declared.verification_error.VerificationError.TheVariants.{BadSignature, OverclaimV4}
use Rattle.rpki_cert.specs.declared.verification_error.VerificationError.TheVariants.{OverclaimV6, OverclaimAs}
use Rattle.rpki_cert.specs.declared.verification_error.VerificationError.TheVariants.{Memory}
use Rattle.rpki_path.specs.Paths.{Path, last, NumberKind, v4_addresses, v6_addresses, system_numbers}
use Rattle.rpki_path.specs.Paths.{greatest_number, Holds, HeldAt, PassesMore}

module _ (p q : Path) (more : PassesMore p q) (i : ℕ) (short : i ≤ last p) where
  -- who lists or hands on more holds more
  pub holds_more : (k : NumberKind) (n : ℕ) → n ≤ greatest_number k → Holds p i k n → Holds q i k n
  holds_more k n small held = record {
    listed = more.anchor_lists k n small held.listed;
    passed_on = λ j low high. let within : j ≤ last p = omega arith in
        more.later_pass j low within k n small (held.passed_on j low high);
  }

  -- a check of overclaiming that is true under fewer numbers is true under more
  pub checks_kept : (c : CertFields) (e : VerificationError) → HeldCheck (HeldAt p i) c e → HeldCheck (HeldAt q i) c e
  checks_kept c NotYetValid l = l
  checks_kept c Expired l = l
  checks_kept c InheritedV4 l = l
  checks_kept c InheritedV6 l = l
  checks_kept c InheritedAs l = l
  checks_kept c MissingKeyId l = l
  checks_kept c WrongKeyId l = l
  checks_kept c MissingIssuerUri l = l
  checks_kept c BadSignature l = l
  checks_kept c OverclaimV4 l = λ mode n small listed. holds_more v4_addresses n small (l mode n small listed)
  checks_kept c OverclaimV6 l = λ mode n small listed. holds_more v6_addresses n small (l mode n small listed)
  checks_kept c OverclaimAs l = λ mode n small listed. holds_more system_numbers n small (l mode n small listed)
  checks_kept c Memory l = l
