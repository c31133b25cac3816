-- A certificate whose extensions stand in another order, with others among them that readers pass
-- over (RFC 5280 4.1, 4.2).
use Rattle.std.specs.Prelude.{ℕ, List, [], ◌∷◌, ◌++◌, ◌≡◌, ◌≤◌, ◌⊎◌, false, bytes_eq, count_by}
use Rattle.std.specs.List.{AllByRecursion, concat}
use Rattle.rpki_der.specs.Tags.{CONTEXT_CONSTRUCTED, SEQUENCE}
use Rattle.rpki_der.specs.Values.{IsEnc, IsNested, IsValue}
use Rattle.rpki_der.specs.Extensions.{Extension, IsExtension}
use Rattle.rpki_parts.specs.Signatures.{SignatureFields}
use Rattle.rpki_ext.specs.ExtensionKinds.{known}
use Rattle.rpki_ext.specs.Kinds.{is_of}
use Rattle.rpki_cert.specs.Certificates.{TbsFields, IsCertificate}

-- how often the string stands among the pieces
abbrev pub times : List ℕ → List (List ℕ) → ℕ
times piece pieces = count_by (bytes_eq piece) pieces

-- b is the SEQUENCE of a TBSCertificate and what stands behind it. The TBSCertificate is the
-- SEQUENCE of the values that stand before its extensions, and of these: the pieces, one after the
-- other, in a SEQUENCE under the tag [3] (RFC 5280 4.1).
pub record IsBuiltOf (before pieces : List (List ℕ)) (behind b : List ℕ) : Type 0 where
  pub extensions : List ℕ
  pub tbs : List ℕ
  pub before_are : AllByRecursion IsValue before
  pub extensions_is : IsNested (CONTEXT_CONSTRUCTED 3 ∷ SEQUENCE ∷ []) (concat pieces) extensions
  pub tbs_is : IsEnc SEQUENCE (concat before ++ extensions) tbs
  pub whole : IsEnc SEQUENCE (tbs ++ behind) b

-- the piece is an extension
abbrev pub IsSomeExtension : List ℕ → Type 0
IsSomeExtension piece = (x : Extension) × IsExtension x piece

-- the piece is an extension of no known kind that isn't critical: readers pass over it (RFC 5280
-- 4.2)
pub record IsPassedOver (piece : List ℕ) : Type 0 where
  pub extension : Extension
  pub piece_is : IsExtension extension piece
  pub unknown : is_of known extension ≡ false
  pub not_critical : extension.critical ≡ false

-- c is b with its extensions in any order, and with more among them that readers pass over. What
-- stands before the extensions and behind the TBSCertificate is unchanged; each piece stands among
-- the new ones as often as among the old ones or, if it is passed over, at least as often.
pub record IsRearrangement (b c : List ℕ) : Type 0 where
  pub before : List (List ℕ)
  pub old : List (List ℕ)
  pub new : List (List ℕ)
  pub behind : List ℕ
  pub old_is : IsBuiltOf before old behind b
  pub new_is : IsBuiltOf before new behind c
  pub extensions_are : AllByRecursion IsSomeExtension old
  pub counts : (piece : List ℕ) → (times piece new ≡ times piece old) ⊎ (IsPassedOver piece × (times piece old ≤ times piece new))

-- all of b is a certificate with these fields and this signature, whatever the octets that are
-- signed
pub record IsCertificateOf (f : TbsFields) (s : SignatureFields) (b : List ℕ) : Type 0 where
  pub message : List ℕ
  pub certificate_is : IsCertificate (record { fields = f; signed_data = record { message = message; signature = s } }) b
