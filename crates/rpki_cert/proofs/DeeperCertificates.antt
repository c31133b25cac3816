-- A certificate under one bound of depth is one under a greater bound.
use Rattle.std.proofs.Common.{ℕ, ◌≤◌, List, [], ◌∷◌, Option, Some}
use Rattle.rpki_der.specs.Extensions.{Extension}
use Rattle.rpki_der.specs.Sequences.{IsAtMostOne}
use Rattle.rpki_blocks.specs.declared.overclaim.Overclaim.{Overclaim}
use Rattle.rpki_parts.proofs.DeeperNames.{deeper_name}
use Rattle.rpki_ext.specs.CertificateExtensions.{ExtensionFields, GiveFieldsWithin}
use Rattle.rpki_ext.specs.ExtensionKinds.{subject_information_access_within, certificate_policies_within}
use Rattle.rpki_ext.specs.Kinds.{Gives, Tells, identifiers, only}
use Rattle.rpki_ext.specs.SubjectAccess.{Access}
use Rattle.rpki_ext.proofs.DeeperKinds.{deeper_access, deeper_policies}
use Rattle.rpki_cert.specs.Certificates.{TbsFields, CertFields, IsCertificateWithin, certificate_content_format, tbs_content_format}

-- ---- the one extension of a kind

more_of_one : {X V : Type 0} (P Q : X → V → Type 0) → ((x : X) (v : V) → P x v → Q x v) →
    (xs : List X) (v : Option V) → IsAtMostOne P xs v → IsAtMostOne Q xs v
more_of_one P Q f [] v h = h
more_of_one P Q f (x ∷ []) v h = (h.0, f x h.0 h.1, h.2)
more_of_one P Q f (x ∷ y ∷ more) v h = h

module _ (d e : ℕ) (le : d ≤ e) where
  gives_access : (xs : List Extension) (v : Option Access) → Gives (subject_information_access_within d) xs v →
      Gives (subject_information_access_within e) xs v
  gives_access xs v h =
      more_of_one (Tells (subject_information_access_within d)) (Tells (subject_information_access_within e))
      (λ x w t. (
        t.0,
        (
          t.1.0,
          record {
            text = t.1.1.text;
            encoded = deeper_access d e le w t.1.1.text t.1.1.encoded;
            parts =
                t.1.1.parts;
          },
        ),
      ))
      (only (identifiers (subject_information_access_within d)) xs) v h

  gives_policies : (xs : List Extension) (v : Option Overclaim) → Gives (certificate_policies_within d) xs v →
      Gives (certificate_policies_within e) xs v
  gives_policies xs v h =
      more_of_one (Tells (certificate_policies_within d)) (Tells (certificate_policies_within e))
      (λ x w t. (
        t.0,
        (
          t.1.0,
          record {
            text = t.1.1.text;
            encoded = deeper_policies d e le w t.1.1.text t.1.1.encoded;
            parts =
                t.1.1.parts;
          },
        ),
      ))
      (only (identifiers (certificate_policies_within d)) xs) v h

  gives : (xs : List Extension) (f : ExtensionFields) → GiveFieldsWithin d xs f → GiveFieldsWithin e xs f
  gives xs f h =
      let (basic, (subject, (authority, (usage, (purposes, (lists, (issuer, (uris, (policy, others))))))))) = h.each_is in
      record {
        passed_over = h.passed_over;
        access = h.access;
        ip = h.ip;
        numbers = h.numbers;
        each_is = (
          basic,
          (
            subject,
            (
              authority,
              (
                usage,
                (
                  purposes,
                  (
                    lists,
                    (issuer, (gives_access xs h.access uris, (gives_policies xs (Some f.overclaim) policy, others))),
                  ),
                ),
              ),
            ),
          ),
        );
        access_is = h.access_is;
        v4_is = h.v4_is;
        v6_is = h.v6_is;
        as_is = h.as_is;
        some_resources = h.some_resources;
      }

  -- ---- certificates

  tbs_content : (f : TbsFields) (b : List ℕ) → (tbs_content_format d).encodes f b → (tbs_content_format e).encodes f b
  unfolding tbs_content_format
  tbs_content f b (
    v,
    r0,
    v_is,
    (
      n,
      r1,
      n_is,
      (
        a,
        r2,
        a_is,
        (
          i,
          r3,
          i_is,
          (
            p,
            r4,
            p_is,
            (s, r5, s_is, (k, x, k_is, (inner, (elements, (xs, are, given), sequence), outer), e6), e5),
            e4,
          ),
          e3,
        ),
        e2,
      ),
      e1,
    ),
    e0,
  ) = (
    v,
    r0,
    v_is,
    (
      n,
      r1,
      n_is,
      (
        a,
        r2,
        a_is,
        (
          i,
          r3,
          deeper_name d e le f.issuer i i_is,
          (
            p,
            r4,
            p_is,
            (
              s,
              r5,
              deeper_name d e le f.subject s s_is,
              (k, x, k_is, (inner, (elements, (xs, are, gives xs f.extensions given), sequence), outer), e6),
              e5,
            ),
            e4,
          ),
          e3,
        ),
        e2,
      ),
      e1,
    ),
    e0,
  )

  -- a certificate under one bound of depth is one under a greater bound
  pub deeper_certificate : (c : CertFields) (b : List ℕ) → IsCertificateWithin d c b → IsCertificateWithin e c b
  unfolding certificate_content_format
  deeper_certificate c b (content, (signed, (inside, are, encoded)), outer) =
      (content, (signed, (inside, tbs_content c.fields inside are, encoded)), outer)
