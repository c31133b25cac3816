-- What is encoded under one bound of depth is encoded under a greater one.
use Rattle.std.proofs.Common.{ℕ, ◌≤◌, List, Some, None}
use Rattle.rpki_der.specs.Skipping.{IsSkippableWithin}
use Rattle.rpki_der.proofs.Lists.{weaken}
use Rattle.rpki_der.proofs.SkippingDepths.{deeper}
use Rattle.rpki_blocks.specs.declared.overclaim.Overclaim.{Overclaim}
use Rattle.rpki_parts.proofs.DeeperNames.{more_sequences}
use Rattle.rpki_ext.specs.Contents.{AreSkippableWithin}
use Rattle.rpki_ext.specs.ExtensionKinds.{certificate_policies_format}
use Rattle.rpki_ext.specs.SubjectAccess.{Access, Description, description_format, subject_information_access_format}

module _ (d e : ℕ) (le : d ≤ e) where
  skipped : (rest : List ℕ) → AreSkippableWithin d rest → AreSkippableWithin e rest
  skipped rest (elements, is, all) =
      (elements, is, weaken (IsSkippableWithin d) (IsSkippableWithin e) (λ b s. deeper d e b le s) elements all)

  -- certificatePolicies
  pub deeper_policies : (overclaim : Overclaim) (b : List ℕ) → (certificate_policies_format d).encodes overclaim b →
      (certificate_policies_format e).encodes overclaim b
  unfolding certificate_policies_format
  deeper_policies overclaim b (elements, (policy, (id, a, rest, oid, (named, skip), is), one), sequence) =
      (elements, (policy, (id, a, rest, oid, (named, skipped rest skip), is), one), sequence)

  description : (v : Description) (b : List ℕ) → (description_format d).encodes v b → (description_format e).encodes v b
  unfolding description_format
  description (Some (method, uri)) b s = s
  description None b (c, (id, a, rest, oid, (unknown, skip), is), sequence) =
      (c, (id, a, rest, oid, (unknown, skipped rest skip), is), sequence)

  -- a SubjectInfoAccessSyntax
  pub deeper_access : (v : Access) (b : List ℕ) → (subject_information_access_format d).encodes v b →
      (subject_information_access_format e).encodes v b
  unfolding subject_information_access_format
  deeper_access v b (c, (ds, (are, some), gives), sequence) = (
    c,
    (
      ds,
      (
        more_sequences (description_format d).encodes (description_format e).encodes description ds c are,
        some,
      ),
      gives,
    ),
    sequence,
  )
