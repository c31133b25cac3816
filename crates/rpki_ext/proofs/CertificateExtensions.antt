-- The extensions of a certificate: the formats of their kinds are lawful; what a sequence of them
-- gives, both ways; and what is written of their fields.
use Rattle.std.specs.List.{AllByRecursion, list_all}
use Rattle.std.specs.Prelude.{unwrap_or, filter, IfSome, is_some, ◌≢◌, ◌^◌, ◌-◌, bytes_eq}
use Rattle.std.proofs.Common.{ℕ, Bool, List, Option, [], ◌∷◌, Some, None, ◌≡◌, true, false, cond, ap, refl, map, sym}
use Rattle.std.proofs.Common.{subst, inl, inr, Result, Ok, Err, ◌⊎◌, ◌||◌, not, ◌∙◌, length, arith}
use Rattle.std.proofs.lemmas.Bool.{cases_Bool, false_from_ne_true, true_from_ne_false, eq-eqb}
use Rattle.std.proofs.lemmas.Option.{IfSome_then}
use Rattle.rpki_der.specs.Extensions.{OptionalExtension, Extension, IsExtension, extension_format}
use Rattle.rpki_der.specs.Folding.{IsLawful, IsFolded, over}
use Rattle.rpki_der.specs.Place.{MeansOrMemory}
use Rattle.rpki_der.specs.Place.Reading.{ReturnsOrMemory}
use Rattle.rpki_der.specs.Reading.{ReadsWhole}
use Rattle.rpki_der.specs.Values.{AreOctets, nested}
use Rattle.rpki_der.specs.Values.Reading.{◌>>=◌}
use Rattle.rpki_der.specs.declared.error.DecodeError.{DecodeError}
use Rattle.rpki_der.proofs.Answering.{rejects}
use Rattle.rpki_der.proofs.ExtensionReads.{HasOctets, extension_reads, extension_shrinks, extension_octets}
use Rattle.rpki_der.proofs.Folding.{beside_law, each_law, over_reads}
use Rattle.rpki_der.proofs.Lists.{weaken}
use Rattle.rpki_der.proofs.Octets.{some, some_is, nothing, bind_some, chosen, AreOctets-append}
use Rattle.rpki_der.proofs.ValueWritten.{Short}
use Rattle.rpki_der.proofs.WrittenOctets.{IfShort, literal, value_octets}
use Rattle.rpki_blocks.specs.Addresses.{Ip, ip_addr_blocks_format}
use Rattle.rpki_blocks.specs.Prefixes.{AreV4}
use Rattle.rpki_blocks.specs.Resources.{missing, inherit, IsResources, Resources}
use Rattle.rpki_blocks.specs.Systems.{as_identifiers_format}
use Rattle.rpki_blocks.specs.declared.overclaim.Overclaim.{Overclaim}
use Rattle.rpki_blocks.specs.declared.overclaim.Overclaim.TheVariants.{Refuse, Trim}
use Rattle.rpki_ext.specs.CertificateExtensions.{bare, ExtensionFields, parts, no_access, no_addresses, GiveFields}
use Rattle.rpki_ext.specs.CertificateExtensions.{ExtensionsFit, HasResources, AreExtensions, values_of, under}
use Rattle.rpki_ext.specs.CertificateExtensions.{may_stand, all_kinds, State, ListedFields, listed_under, agreed}
use Rattle.rpki_ext.specs.CertificateExtensions.{completed, extensions_of, state_of, Names, is_seen, wanted, HasFlag}
use Rattle.rpki_ext.specs.CertificateExtensions.Views.{ip_of}
use Rattle.rpki_ext.specs.ExtensionKinds.{known, subject_key_identifier, key_usage, certificate_policies}
use Rattle.rpki_ext.specs.ExtensionKinds.{ip_resources, as_resources, certificate_kinds, HasTwentyOctets}
use Rattle.rpki_ext.specs.ExtensionKinds.{authority_information_access_format, basic_constraints_format}
use Rattle.rpki_ext.specs.ExtensionKinds.{certificate_policies_format, crl_distribution_points_format}
use Rattle.rpki_ext.specs.ExtensionKinds.{authority_key_identifier_format, key_usage_format, usage_bits, usage_of}
use Rattle.rpki_ext.specs.ExtensionKinds.{ArePurposes, are_purposes, extended_key_usage_format, AreIssuers}
use Rattle.rpki_ext.specs.ExtensionKinds.{ca_issuers, issuers_of, IsPolicyWithin, policy_of, list_kinds}
use Rattle.rpki_ext.specs.Kinds.{Gives, is_of, kept_if, Any}
use Rattle.rpki_ext.specs.ResourceKinds.{addresses_format, are_there, has_addresses, numbers_format}
use Rattle.rpki_ext.specs.SubjectAccess.{Access, HasUris, has_uri, subject_information_access_format}
use Rattle.rpki_ext.specs.declared.key_usage.KeyUsage.{KeyUsage as Usage}
use Rattle.rpki_ext.specs.declared.extensions.Named.{Named}
use Rattle.rpki_ext.specs.declared.extensions.Named.TheVariants.{BasicConstraints, SubjectKeyIdentifier}
use Rattle.rpki_ext.specs.declared.extensions.Named.TheVariants.{AuthorityKeyIdentifier, KeyUsage, ExtendedKeyUsage}
use Rattle.rpki_ext.specs.declared.extensions.Named.TheVariants.{CrlDistributionPoints, AuthorityInformationAccess}
use Rattle.rpki_ext.specs.declared.extensions.Named.TheVariants.{SubjectInformationAccess, CertificatePolicies}
use Rattle.rpki_ext.specs.declared.extensions.Named.TheVariants.{IpResources, AsResources}
use Rattle.rpki_ext.specs.declared.extensions.ReadExtensions.{ReadExtensions}
use Rattle.rpki_ext.proofs.KindTables.{table_law, AreKinds}
use Rattle.rpki_ext.proofs.KindsWritten.{IsKnown, is_known, all_known, is_in, only_ones, none_unknown, written}
use Rattle.rpki_ext.proofs.ResourceKinds.{is_there, no_addresses_there, not_there, some_addresses, addresses_alone}
use Rattle.rpki_ext.proofs.ResourceKinds.{as_shows, ip_shows, numbers_alone}
use Rattle.rpki_ext.proofs.ShownModes.{under_mode, mode_under, stays, was}
use Rattle.rpki_ext.proofs.TablesWritten.{identifiers_by_kind, Fit, table_given, table_octets}
use Rattle.rpki_ext.proofs.SubjectAccess.{no_uris, subject_information_access_alone}
use Rattle.rpki_der.proofs.FormatAnswers.{IsAlone, format_laws}
use Rattle.rpki_der.specs.Tags.{CONTEXT, SEQUENCE, BIT_STRING, CONTEXT_CONSTRUCTED, OBJECT_IDENTIFIER}
use Rattle.rpki_der.proofs.FormatLaws.{tagged_lawful, any_octets_lawful, values_shrinks, some_read}
use Rattle.rpki_parts.specs.Keys.{key_identifier_format, twenty_octets}
use Rattle.rpki_parts.proofs.PartFormats.{twenty_lawful, key_identifier_alone}
use Rattle.rpki_der.specs.Formats.{any_octets, AreSome, some_of}
use Rattle.rpki_der.proofs.FormatChoices.{image_lawful, restricted_lawful}
use Rattle.rpki_ext.specs.declared.key_usage.KeyUsage.TheVariants.{Ca, Ee}
use Rattle.rpki_der.specs.BasicFormats.{object_identifier, serial_format}
use Rattle.rpki_der.specs.Primitives.{IsObjectIdentifier}
use Rattle.rpki_der.specs.Primitives.Reading.{oid_at}
use Rattle.rpki_der.specs.Sequences.{AreEncodings}
use Rattle.rpki_der.specs.Sequences.Reading.{Shrinks}
use Rattle.rpki_der.proofs.BasicFormats.{object_identifier_lawful, serial_lawful}
use Rattle.rpki_ext.proofs.Contents.{constant_oid, sequence_by_lawful}
use Rattle.rpki_ext.proofs.GeneralNames.{names_lawful, names_made, names_ok, names_read}
use Rattle.std.proofs.lemmas.Slice.Eq.{bytes_eq-Decides}
use Rattle.rpki_parts.specs.Uris.{IsRsync}
use Rattle.rpki_ext.specs.Contents.{SEQUENCE_BY}
use Rattle.rpki_ext.specs.GeneralNames.{names_of, uri_format}
use Rattle.std.proofs.lemmas.List.{append-nil}
use Rattle.rpki_der.specs.Skipping.{levels}
use Rattle.rpki_der.specs.Skipping.Reading.{skip_all_of}
use Rattle.rpki_der.proofs.SkippingReads.{skip_all_reads}
use Rattle.rpki_blocks.specs.Overclaims.{policy_identifier}
use Rattle.rpki_blocks.specs.Overclaims.Reading.{mode_of}
use Rattle.rpki_blocks.proofs.OverclaimReads.{was_named}

-- ---- Basic Constraints

-- anything may follow BasicConstraints
pub basic_constraints_alone : IsAlone basic_constraints_format
unfolding basic_constraints_format
basic_constraints_alone = record { law = search format_laws; none = refl }

-- ---- Subject Key Identifier and Authority Key Identifier

-- anything may follow an AuthorityKeyIdentifier
pub authority_key_identifier_alone : IsAlone authority_key_identifier_format
unfolding authority_key_identifier_format
authority_key_identifier_alone =
    record {
      law = tagged_lawful SEQUENCE (twenty_octets (CONTEXT 0)) (omega arith) (omega arith)
          (twenty_lawful (CONTEXT 0) (omega arith) (omega arith));
      none = refl;
    }

-- 20 octets can be written as either
pub subject_fits : (id : List ℕ) → HasTwentyOctets id → key_identifier_format.fits id
unfolding key_identifier_format
subject_fits id h = (eq-eqb (length id) 20 h.1, h.0)

pub authority_fits : (id : List ℕ) → HasTwentyOctets id → authority_key_identifier_format.fits id
unfolding authority_key_identifier_format
authority_fits id h = (eq-eqb (length id) 20 h.1, h.0)

-- ---- Key Usage

-- anything may follow a KeyUsage
pub key_usage_alone : IsAlone key_usage_format
unfolding key_usage_format
key_usage_alone = record {
  law = image_lawful usage_of usage_bits (any_octets BIT_STRING)
      (any_octets_lawful BIT_STRING (omega arith) (omega arith));
  none = refl;
}

-- every usage can be written
pub usage_fits : (usage : Usage) → key_usage_format.fits usage
unfolding key_usage_format
usage_fits Ca = (refl, literal (usage_bits Ca) refl)
usage_fits Ee = (refl, literal (usage_bits Ee) refl)

-- ---- Extended Key Usage

-- reading an OBJECT IDENTIFIER uses octets up
pub oid_shrinks : Shrinks oid_at
oid_shrinks = values_shrinks object_identifier object_identifier_lawful refl (omega arith)

identifiers_read : ReadsWhole (some_of oid_at) (AreSome IsObjectIdentifier)
identifiers_read = some_read object_identifier object_identifier_lawful refl (omega arith)

-- octets that pass the test are purposes
pub kept_purposes : (c : List ℕ) → AreOctets c → are_purposes c ≡ true → ArePurposes c
kept_purposes c low e = kept (some_of oid_at c) refl e
  where
    kept : (o : Option (List (List ℕ))) → some_of oid_at c ≡ o → is_some o ≡ true → ArePurposes c
    kept None h e = absurd cc
    kept (Some ids) h e = (ids, identifiers_read.takes c ids low h)

purposes_kept : (c : List ℕ) → ArePurposes c → are_purposes c ≡ true
purposes_kept c p = rw (identifiers_read.again p.0 c p.1) refl

-- anything may follow an ExtKeyUsageSyntax
pub extended_key_usage_alone : IsAlone extended_key_usage_format
unfolding extended_key_usage_format
extended_key_usage_alone = record {
  law = restricted_lawful are_purposes ArePurposes (any_octets SEQUENCE)
      (λ c text s. (kept_purposes c s.octets, purposes_kept c))
      (any_octets_lawful SEQUENCE (omega arith) (omega arith));
  none = refl;
}

values_octets : (ids : List (List ℕ)) (c : List ℕ) → AreEncodings IsObjectIdentifier ids c → AreOctets c
values_octets [] c s = rw s tt
values_octets (id ∷ ids) c s = rw s.4 (AreOctets-append s.0 s.1 (value_octets s.2.enc) (values_octets ids s.1 s.3))

-- purposes can be written
pub purposes_fit : (c : List ℕ) → ArePurposes c → extended_key_usage_format.fits c
unfolding extended_key_usage_format
purposes_fit c p = (values_octets p.0 c p.1.0, p)

-- ---- CRL Distribution Points

-- anything may follow CRLDistributionPoints
pub crl_distribution_points_alone : IsAlone crl_distribution_points_format
unfolding crl_distribution_points_format
crl_distribution_points_alone =
    record {
      law = tagged_lawful SEQUENCE _ (omega arith) (omega arith)
          (tagged_lawful SEQUENCE _ (omega arith) (omega arith)
          (tagged_lawful (CONTEXT_CONSTRUCTED 0) _ (omega arith) (omega arith)
          (names_lawful (CONTEXT_CONSTRUCTED 0) (omega arith) (omega arith))));
      none = refl;
    }

-- ---- Authority Information Access

issuers_read : (method : List ℕ) → ReadsWhole (issuers_of method) (AreIssuers method)
issuers_read method = record {
  takes = λ names v low e. let g = chosen (bytes_eq method ca_issuers) (names_of names) v e in
      ((bytes_eq-Decides method ca_issuers).0 g.0, names_read.takes names v low g.1);
  again = λ v names s. rw ((bytes_eq-Decides method ca_issuers).1 s.0) (names_read.again v names s.1);
}

-- anything may follow an AuthorityInfoAccessSyntax
pub authority_information_access_alone : IsAlone authority_information_access_format
unfolding authority_information_access_format
authority_information_access_alone = record {
  law = tagged_lawful SEQUENCE (SEQUENCE_BY issuers_of AreIssuers IsRsync (λ uri. ca_issuers) uri_format.written)
      (omega arith) (omega arith)
      (sequence_by_lawful issuers_of AreIssuers IsRsync (λ uri. ca_issuers) uri_format.written issuers_read
      (λ uri r. constant_oid ca_issuers refl refl) names_ok (λ uri r short. (refl, names_made uri r short)));
  none = refl;
}

-- ---- Certificate Policies

named_again : (overclaim : Overclaim) → mode_of policy_identifier (policy_identifier overclaim) ≡ Some overclaim
named_again Refuse = refl
named_again Trim = refl

policy_fits : (overclaim : Overclaim) → object_identifier.fits (policy_identifier overclaim)
policy_fits Refuse = constant_oid (policy_identifier Refuse) refl refl
policy_fits Trim = constant_oid (policy_identifier Trim) refl refl

policy_read : (id : List ℕ) → ReadsWhole (policy_of id) (IsPolicyWithin levels id)
policy_read id = record {
  takes = λ rest overclaim low e.
      let a = bind_some (mode_of policy_identifier id) (λ o. skip_all_of rest >>= λ u. some o) overclaim e in
      let b = bind_some (skip_all_of rest) (λ u. some a.0) overclaim a.2 in (
        was_named policy_identifier id (Some a.0) (sym a.1) ∙ ap policy_identifier (some_is a.0 overclaim b.2),
        skip_all_reads.takes rest b.0 low b.1,
      );
  again = λ overclaim rest s. rw (s.0, named_again overclaim, skip_all_reads.again tt rest s.1) refl;
}

-- anything may follow certificatePolicies
pub certificate_policies_alone : IsAlone (certificate_policies_format levels)
unfolding certificate_policies_format
certificate_policies_alone = record {
  law = tagged_lawful SEQUENCE (SEQUENCE_BY policy_of (IsPolicyWithin levels) Any policy_identifier (λ o. [])) (omega arith) (omega arith)
      (sequence_by_lawful policy_of (IsPolicyWithin levels) Any policy_identifier (λ o. []) policy_read
      (λ o fits. policy_fits o) (λ o fits short. tt) (λ o fits short. (refl, ([], refl, tt))));
  none = refl;
}

-- what is written of a policy
pub policy_alone_written : (overclaim : Overclaim) → (certificate_policies_format levels).written overclaim ≡
    nested (SEQUENCE ∷ SEQUENCE ∷ OBJECT_IDENTIFIER ∷ []) (policy_identifier overclaim)
unfolding certificate_policies_format
policy_alone_written overclaim = rw append-nil refl

-- ---- CRL Number

-- anything may follow a CRLNumber
pub crl_number_alone : IsAlone serial_format
crl_number_alone = record { law = serial_lawful; none = refl }

-- ---- tables

-- all kinds that certificates know are lawful
pub kinds_are : AreKinds certificate_kinds
kinds_are = (
  basic_constraints_alone,
  (
    key_identifier_alone,
    (
      authority_key_identifier_alone,
      (
        key_usage_alone,
        (
          extended_key_usage_alone,
          (
            crl_distribution_points_alone,
            (
              authority_information_access_alone,
              (
                subject_information_access_alone,
                (certificate_policies_alone, ((ip_shows, λ m. addresses_alone), ((as_shows, λ m. numbers_alone), tt))),
              ),
            ),
          ),
        ),
      ),
    ),
  ),
)

-- the kinds of a revocation list's extensions are lawful
pub list_kinds_are : AreKinds list_kinds
list_kinds_are = (authority_key_identifier_alone, (crl_number_alone, tt))

-- ---- a second extension of a kind, and one with another flag than its kind's, is refused

abbrev IsRejected : ReadExtensions → List ℕ → Bool → List ℕ → Type 0
IsRejected s id critical content = all_kinds.step (state_of s) (record { identifier = id; critical = critical; content = content }) ≡ None

second : (s : ReadExtensions) (kind : Named) (id : List ℕ) (critical : Bool) (content : List ℕ) →
    Names id (Some kind) → is_seen s kind ≡ true → IsRejected s id critical content
second s BasicConstraints id critical content n h = rw (n, h) refl
second s SubjectKeyIdentifier id critical content n h = rw (n, h) refl
second s AuthorityKeyIdentifier id critical content n h = rw (n, h) refl
second s KeyUsage id critical content n h = rw (n, h) refl
second s ExtendedKeyUsage id critical content n h = rw (n, h) refl
second s CrlDistributionPoints id critical content n h = rw (n, h) refl
second s AuthorityInformationAccess id critical content n h = rw (n, h) refl
second s SubjectInformationAccess id critical content n h = rw (n, h) refl
second s CertificatePolicies id critical content n h = rw (n, h) refl
second s (IpResources Refuse) id critical content n h = rw (n, h) refl
second s (IpResources Trim) id critical content n h = rw (n, h) refl
second s (AsResources Refuse) id critical content n h = rw (n, h) refl
second s (AsResources Trim) id critical content n h = rw (n, h) refl

-- nothing is kept, whether one was seen or not
neither : {V : Type 0} (seen : Bool) → cond {A = Option V} seen None None ≡ None
neither true = refl
neither false = refl

unflagged : (s : ReadExtensions) (kind : Named) (id : List ℕ) (critical : Bool) (content : List ℕ) →
    Names id (Some kind) → (HasFlag (wanted kind) critical → ⊥) → IsRejected s id critical content
unflagged s BasicConstraints id critical content n h = rw (n, false_from_ne_true critical h, neither (is_some s.basic_ca)) refl
unflagged s SubjectKeyIdentifier id critical content n h =
    rw (n, true_from_ne_false critical h, neither (is_some s.subject_key_identifier)) refl
unflagged s AuthorityKeyIdentifier id critical content n h =
    rw (n, true_from_ne_false critical h, neither (is_some s.authority_key_identifier)) refl
unflagged s KeyUsage id critical content n h = rw (n, false_from_ne_true critical h, neither (is_some s.key_usage)) refl
unflagged s ExtendedKeyUsage id critical content n h = rw (n, true_from_ne_false critical h, neither (is_some s.extended_key_usage)) refl
unflagged s CrlDistributionPoints id critical content n h = rw (n, true_from_ne_false critical h, neither (is_some s.crl_uri)) refl
unflagged s AuthorityInformationAccess id critical content n h = rw (n, true_from_ne_false critical h, neither (is_some s.ca_issuer)) refl
unflagged s SubjectInformationAccess id critical content n h = rw (n, true_from_ne_false critical h, neither (is_some s.access)) refl
unflagged s CertificatePolicies id critical content n h = rw (n, false_from_ne_true critical h, neither (is_some s.overclaim)) refl
unflagged s (IpResources mode) id critical content n h = absurd (h tt)
unflagged s (AsResources mode) id critical content n h = absurd (h tt)

-- an extension of a kind that was seen, or with a wrong flag, ends the walk
pub rejected : (s : ReadExtensions) (kind : Named) (id : List ℕ) (critical : Bool) (content : List ℕ) →
    Names id (Some kind) → (is_seen s kind ≡ true) ⊎ (HasFlag (wanted kind) critical → ⊥) →
    IsRejected s id critical content
rejected s kind id critical content n h =
    elim h [
      | inl seen ↦ second s kind id critical content n seen
      | inr flag ↦ unflagged s kind id critical content n
          flag
    ]

-- resources that are not read, whatever the mode of their identifier
pub unread_ip : (s : ReadExtensions) (mode : Overclaim) (x : Extension) →
    x.identifier ≡ (ip_resources mode).identifier → is_some (ip_of s.ip_resources) ≡ false →
    ip_addr_blocks_format.read x.content ≡ None → all_kinds.step (state_of s) x ≡ None
unfolding addresses_format
unread_ip s Refuse x named first none = rw (named, first, none) refl
unread_ip s Trim x named first none = rw (named, first, none) refl

-- an extension of AS numbers that isn't read ends the walk
pub unread_as : (s : ReadExtensions) (mode : Overclaim) (x : Extension) →
    x.identifier ≡ (as_resources mode).identifier → is_some s.as_resources ≡ false →
    as_identifiers_format.read x.content ≡ None → all_kinds.step (state_of s) x ≡ None
unfolding numbers_format
unread_as s Refuse x named first none = rw (named, first, none) refl
unread_as s Trim x named first none = rw (named, first, none) refl

-- ---- what a sequence gives

all_kinds_law : IsLawful HasOctets all_kinds
all_kinds_law = beside_law _ _ (each_law may_stand) (table_law certificate_kinds kinds_are)

either : (a b : Bool) → (a || b) ≡ true → (a ≡ true) ⊎ (b ≡ true)
either true b e = inl refl
either false b e = inr e

-- an extension stands: of a known kind, or not critical
stands : (known critical : Bool) → (known || not critical) ≡ true → known ≡ false → critical ≡ false
stands true critical e f = absurd cc
stands false true e f = absurd cc
stands false false e f = refl

stand : (known critical : Bool) → (known ≡ false → critical ≡ false) → (known || not critical) ≡ true
stand true critical h = refl
stand false critical h = rw (h refl) refl

give : (xs : List Extension) (s : State) (f : ExtensionFields) → completed s ≡ Some f → all_kinds.means xs s → GiveFields xs f
give xs (u, (basic_ca, (subject, (authority, (usage, (purposes, (crl_uri, (ca_issuer, (access, (policy, (ip, (numbers, _)))))))))))) f e h =
    let (
      others,
      (
        basic_is,
        (
          subject_is,
          (
            authority_is,
            (usage_is, (purposes_is, (crl_is, (issuer_is, (access_is, (policy_is, (ip_is, (numbers_is, _)))))))),
          ),
        ),
      ),
    ) =
    h in
    let made : ListedFields → List ℕ → Usage →
    ExtensionFields =
    λ l key used.
    record {
      basic_ca = basic_ca;
      subject_key_identifier = key;
      authority_key_identifier =
          authority;
      key_usage = used;
      extended_key_usage = purposes;
      crl_uri = crl_uri;
      ca_issuer =
          ca_issuer;
      access = unwrap_or access no_access;
      overclaim = l.overclaim;
      v4_resources =
          l.v4_resources;
      v6_resources = l.v6_resources;
      as_resources = l.as_resources;
    } in
    let l = bind_some (agreed policy ip numbers) (λ l. subject >>= λ key. usage >>= λ used. some (made l key used)) f e in
    let key = bind_some subject (λ key. usage >>= λ used. some (made l.0 key used)) f l.2 in
    let used = bind_some usage (λ used. some (made l.0 key.0 used)) f key.2 in
    let t = chosen (is_some ip || is_some numbers)
    (policy >>= λ mode. under mode ip >>= λ i. under mode numbers >>= λ n. some (listed_under mode i n)) l.0
    l.1 in
    let mode = bind_some policy (λ mode. under mode ip >>= λ i. under mode numbers >>= λ n. some (listed_under mode i n)) l.0 t.1 in
    let i = bind_some (under mode.0 ip) (λ i. under mode.0 numbers >>= λ n. some (listed_under mode.0 i n)) l.0 mode.2 in
    let n = bind_some (under mode.0 numbers) (λ n. some (listed_under mode.0 i.0 n)) l.0 i.2 in
    let same : listed_under mode.0 i.0 n.0 ≡ l.0 = some_is (listed_under mode.0 i.0 n.0) l.0 n.2 in
    subst (λ (g : ExtensionFields). GiveFields xs g) {x = made (listed_under mode.0 i.0 n.0) key.0 used.0}
    (◌∙◌ {a = made (listed_under mode.0 i.0 n.0) key.0 used.0} {b = made l.0 key.0 used.0}
    (ap (λ (k : ListedFields). made k key.0 used.0) {x = listed_under mode.0 i.0 n.0} same)
    (some_is (made l.0 key.0 used.0) f used.2)) (record {
      passed_over = weaken (λ x. may_stand x ≡ true) (λ x. is_of known x ≡ false → x.critical ≡ false)
          (λ x p. stands (is_of known x) x.critical p) xs others;
      access = access;
      ip = i.0;
      numbers = n.0;
      each_is =
          let subject_given = subst (λ (v : Option (List ℕ)). Gives subject_key_identifier xs v) key.1 subject_is in
          let usage_given = subst (λ (v : Option Usage). Gives key_usage xs v) used.1 usage_is in
          let policy_given = subst (λ (v : Option Overclaim). Gives certificate_policies xs v) mode.1 policy_is in
          let ip_given = under_mode ip_resources mode.0 _ ip i.0 i.1 ip_is in
          let numbers_given = under_mode as_resources mode.0 _ numbers n.0 n.1 numbers_is in (
            basic_is,
            (
              subject_given,
              (
                authority_is,
                (
                  usage_given,
                  (
                    purposes_is,
                    (crl_is, (issuer_is, (access_is, (policy_given, (ip_given, (numbers_given, tt)))))),
                  ),
                ),
              ),
            ),
          );
      access_is = refl {a = unwrap_or access no_access};
      v4_is = refl {a = (unwrap_or i.0 no_addresses).v4};
      v6_is = refl {a = (unwrap_or i.0 no_addresses).v6};
      as_is = refl {a = unwrap_or n.0 missing};
      some_resources = elim (either (is_some ip) (is_some numbers) t.0)
          [ inl y ↦ inl (stays mode.0 ip i.0 i.1 y) | inr y ↦ inr (stays mode.0 numbers n.0 n.1 y) ];
    })

some_some : {X Y : Type 0} (i : Option X) (n : Option Y) → (is_some i ≡ true) ⊎ (is_some n ≡ true) → (is_some i || is_some n) ≡ true
some_some (Some i) n h = refl
some_some None n h = elim h [ inl e ↦ absurd cc | inr e ↦ e ]

same_fields : (f : ExtensionFields) (access : Access) (v4 v6 numbers : Resources) → f.access ≡ access →
    f.v4_resources ≡ v4 → f.v6_resources ≡ v6 → f.as_resources ≡ numbers
    → record f { access = access; v4_resources = v4; v6_resources = v6; as_resources = numbers } ≡ f
same_fields f access v4 v6 numbers a b c d =
    λ i. record f
    { access = (sym a) i; v4_resources = (sym b) i; v6_resources = (sym c) i; as_resources = (sym d) i }

seen_of : (xs : List Extension) (f : ExtensionFields) → GiveFields xs f → (s : State) × all_kinds.means xs s × (completed s ≡ Some f)
seen_of xs f g =
    let (basic, (subject, (authority, (usage, (purposes, (lists, (issuer, (uris, (policy, (ips, (asns, _))))))))))) = g.each_is in
    let i = mode_under ip_resources f.overclaim _ g.ip ips in
    let n = mode_under as_resources f.overclaim _ g.numbers asns in
    let there : (is_some i.0 || is_some n.0) ≡ true =
    some_some i.0 n.0
    (elim g.some_resources
    [ inl y ↦ inl (was f.overclaim i.0 g.ip i.1 y) | inr y ↦ inr (was f.overclaim n.0 g.numbers n.1 y) ]) in
    let stand_all = weaken (λ x. is_of known x ≡ false → x.critical ≡ false) (λ x. may_stand x ≡ true)
    (λ x p. stand (is_of known x) x.critical p) xs g.passed_over in (
      (
        tt,
        (
          f.basic_ca,
          (
            Some f.subject_key_identifier,
            (
              f.authority_key_identifier,
              (
                Some f.key_usage,
                (f.extended_key_usage, (f.crl_uri, (f.ca_issuer, (g.access, (Some f.overclaim, (i.0, (n.0, tt))))))),
              ),
            ),
          ),
        ),
      ),
      (stand_all, (basic, (subject, (authority, (usage, (purposes, (lists, (issuer, (uris, (policy, (i.2, (n.2, tt)))))))))))),
      rw (there, i.1, n.1) (ap some (same_fields f (unwrap_or g.access no_access) _ _ _ g.access_is g.v4_is g.v6_is g.as_is)),
    )

-- the extensions of a certificate are read as they are encoded
pub extensions_read : ReadsWhole extensions_of AreExtensions
unfolding extensions_of
extensions_read = record {
  takes = λ c f low e.
      let a = bind_some (over extension_format.read all_kinds.step all_kinds.start c) completed f e in
      let folded : IsFolded IsExtension all_kinds a.0 c = going.takes c a.0 low a.1 in
      (folded.0, folded.1, give folded.0 a.0 f a.2 folded.2);
  again = λ f c s.
      let g = seen_of s.0 f s.2 in
      rw (going.again g.0 c (s.0, s.1, g.1), g.2) refl;
}
  where
    going : ReadsWhole (over extension_format.read all_kinds.step all_kinds.start) (IsFolded IsExtension all_kinds)
    going = over_reads extension_format.read IsExtension HasOctets all_kinds extension_reads extension_shrinks
        extension_octets all_kinds_law

-- a function that returns what reading gives answers both ways for whole octets
pub sequence_means : (r : Result ExtensionFields DecodeError) (octets : List ℕ) → AreOctets octets →
    ReturnsOrMemory r (extensions_of octets) → MeansOrMemory AreExtensions r octets
sequence_means (Ok f) octets low e = extensions_read.takes octets f low e
sequence_means (Err d) octets low e = rejects d (λ none f a. nothing f (sym none ∙ extensions_read.again f octets a)) e

-- ---- what is written

abbrev parts_under : Overclaim → ExtensionFields → List OptionalExtension
parts_under m x = parts (record x { overclaim = m })

-- each is the only one of its kind, by computation
pub one_each : (m : Overclaim) (x : ExtensionFields) →
    map (λ kind. filter (is_in kind) (parts_under m x)) (identifiers_by_kind certificate_kinds) ≡
    map (λ p. p ∷ []) (parts_under m x)
one_each Refuse x = refl
one_each Trim x = refl

are_known : (m : Overclaim) (x : ExtensionFields) → list_all is_known (parts_under m x) ≡ true
are_known Refuse x = refl
are_known Trim x = refl

-- what is written of fields has identifiers of known kinds
pub known_parts : (x : ExtensionFields) → AllByRecursion IsKnown (parts x)
known_parts x = all_known (parts x) (are_known x.overclaim x)

-- a value that passes the test can be written, or there is none
if_fits : {V : Type 0} (test : V → Bool) (P Q : V → Type 0) → ((w : V) → P w → test w ≡ true → Q w) → (v : V) → P v →
    IfSome (kept_if test v) Q
if_fits {V} test P Q fits v p = elim (cases_Bool (test v)) [ inl y ↦ rw y (fits v p y) | inr n ↦ rw n tt ]

-- a value is what is kept of it, or what it is where it doesn't pass
else_kept : {V : Type 0} (test : V → Bool) (d v : V) → (test v ≡ false → v ≡ d) → v ≡ unwrap_or (kept_if test v) d
else_kept test d v other = elim (cases_Bool (test v)) [ inl y ↦ rw y refl | inr n ↦ rw n (other n) ]

-- a value that passes the test is kept
kept_some : {V : Type 0} (test : V → Bool) (v : V) → test v ≡ true → kept_if test v ≢ None
kept_some test v y = rw y (λ e. absurd cc)

module _ (x : ExtensionFields) (fits : ExtensionsFit x) (only_v4 : AreV4 x.v4_resources) where
  abbrev i : Ip
  i = record { v4 = x.v4_resources; v6 = x.v6_resources }

  all_fit : Fit certificate_kinds (values_of x)
  unfolding basic_constraints_format crl_distribution_points_format authority_information_access_format
      subject_information_access_format certificate_policies_format addresses_format numbers_format
  all_fit =
      let subject = subject_fits x.subject_key_identifier fits.subject_key_identifier_is in
      let authority = IfSome_then x.authority_key_identifier fits.authority_key_identifier_is authority_fits in
      let purposes = IfSome_then x.extended_key_usage fits.extended_key_usage_is purposes_fit in
      let uris = if_fits has_uri HasUris (λ a. HasUris a × (has_uri a ≡ true)) (λ a h y. (h, y)) x.access fits.access_is in
      let addresses = if_fits has_addresses
      (λ i. IsResources (2 ^ 128 - 1) i.v4 × AreV4 i.v4 × IsResources (2 ^ 128 - 1) i.v6) addresses_format.fits
      (λ i h y. (h.0, h.1, h.2, y)) i (fits.v4_is, only_v4, fits.v6_is) in
      let numbers = if_fits are_there (IsResources (2 ^ 32 - 1)) numbers_format.fits (λ r h y. (h, y)) x.as_resources fits.as_is in (
        any x.basic_ca,
        (
          subject,
          (
            authority,
            (
              usage_fits x.key_usage,
              (purposes, (fits.crl_uri_is, (fits.ca_issuer_is, (uris, (tt, (addresses, (numbers, tt))))))),
            ),
          ),
        ),
      )
    where
      any : (v : Option Bool) → IfSome v (λ b. Unit {0})
      any None = tt
      any (Some b) = tt

  -- the contents that are written of fields, if short, consist of octets
  pub ok_contents : AllByRecursion (λ p. IfSome p.content IfShort) (parts x)
  ok_contents = table_octets certificate_kinds kinds_are (values_of x) all_fit

  -- what is written of fields with resources gives these fields, if short
  pub fields_given : HasResources x → AllByRecursion (λ p. IfSome p.content Short) (parts x) → GiveFields (written (parts x)) x
  fields_given some s =
      let addresses_are : i ≡ _ = else_kept has_addresses no_addresses i (no_addresses_there i) in
      record {
        passed_over = none_unknown (parts x) (known_parts x);
        access = _;
        ip = _;
        numbers = _;
        each_is = table_given certificate_kinds kinds_are (parts x) (values_of x) all_fit
            (only_ones (parts x) (identifiers_by_kind certificate_kinds) (parts x) (one_each x.overclaim x) s);
        access_is = else_kept has_uri no_access x.access (no_uris x.access);
        v4_is = ap (λ (j : Ip). j.v4) addresses_are;
        v6_is = ap (λ (j : Ip). j.v6) addresses_are;
        as_is = else_kept are_there missing x.as_resources (not_there x.as_resources);
        some_resources = elim some [
          | inl four ↦ inl (kept_some has_addresses i (some_addresses (inl four)))
          | inr more ↦ elim more [
            | inl six ↦ inl (kept_some has_addresses i (some_addresses (inr six)))
            | inr numbered ↦ inr (kept_some are_there x.as_resources (is_there x.as_resources numbered))
          ]
        ];
      }

-- nothing that may be left out, and the issuer's IPv4 addresses
pub inheriting_fits : (id : List ℕ) (usage : Usage) (mode : Overclaim) → HasTwentyOctets id →
    ExtensionsFit (record (bare id usage mode) { v4_resources = inherit })
inheriting_fits id usage mode is = record {
  subject_key_identifier_is = is;
  authority_key_identifier_is = tt;
  extended_key_usage_is = tt;
  crl_uri_is = tt;
  ca_issuer_is = tt;
  access_is = record { ca_repository_is = tt; rpki_manifest_is = tt; signed_object_is = tt; rpki_notify_is = tt };
  v4_is = tt;
  v6_is = tt;
  as_is = tt;
}
