-- Files that strangers add change no valid trust anchor of a locator whose key is none of theirs.
use Rattle.std.specs.List.{AllZip}
use Rattle.std.specs.Prelude.{Bool, Contains}
use Rattle.std.proofs.Common.{List, [], arith, length, refl, subst, ◌↔◌, ◌∷◌, ◌≡◌}
use Rattle.rpki_der.specs.Values.{IsUnambiguous}
use Rattle.rpki_der.proofs.Formats.{one_meant}
use Rattle.rpki_ext.specs.Kinds.{Means}
use Rattle.rpki_parts.specs.Keys.{KeyFields}
use Rattle.rpki_cert.specs.Certificates.{CertFields, IsCertificate}
use Rattle.rpki_cert.specs.Profiles.{MeetsProfile}
use Rattle.rpki_cert.specs.Verification.{Context, IsVerified, TrustAnchorCheck, trust_anchor_checks}
use Rattle.rpki_cert.specs.declared.inspect.Kind.TheVariants.{Anchor}
use Rattle.rpki_keys.specs.Locators.{NamedTal}
use Rattle.rpki_path.specs.Paths.{IsMember, Member, Path}
use Rattle.rpki_folder.specs.Folders.{FolderFields}
use Rattle.rpki_folder.specs.Strangers.{AddsOnly, HasCertificate, IsFreeOf, LeadsThrough}
use Rattle.rpki_folder.proofs.IsolatedPaths.{anchors_alike, leads_alike}
use Rattle.rpki_isolation.specs.ToldWalks.{IsAnchorIn}

none_below : (ms : List Member) → AllZip IsMember ms [] → length ms ≡ 0
none_below [] h = refl
none_below (m ∷ ms) h = absurd h

module _ (x : Context) (names : Bool) (t : NamedTal) (law : IsUnambiguous IsCertificate) (keys : List KeyFields)
    (own : Contains keys t.tal.key → ⊥) where
  pub anchor_there : (a b : FolderFields)
      → ((q : Path) → IsFreeOf keys q → LeadsThrough names x a q → LeadsThrough names x b q)
      → ((c : CertFields) → (Contains keys c.fields.key → ⊥) → MeetsProfile Anchor x.strict c →
      IsVerified (TrustAnchorCheck x c) trust_anchor_checks → HasCertificate a c → HasCertificate b c)
      → (c : CertFields) → IsAnchorIn x names t a c → IsAnchorIn x names t b c
  anchor_there a b through carried c h =
      let r = h.is_valid.0 in
      let l = h.is_valid.1 in
      let q = l.path in
      let valid = l.is_valid in
      let one : q.anchor ≡ c = one_meant IsCertificate law q.anchor c h.octets l.path_of.anchor_begins h.begins in
      let alone : length q.below ≡ 0 = none_below q.below l.path_of.members in
      let theirs : Contains keys q.anchor.fields.key → ⊥ = λ has. own (subst (λ (k : KeyFields). Contains keys k) valid.key_is has) in
      let has = carried q.anchor theirs valid.is_valid.anchor_meets valid.is_valid.anchor_verified
      (h.octets, h.among, l.path_of.anchor_begins) in
      let free : IsFreeOf keys q = λ i low at. absurd (omega (arith, low, alone)) in
      let there = through q free (record { is_valid = valid.is_valid; members = λ i low. absurd (omega (arith, low, alone)) }) in
      record {
        octets = has.0;
        among = has.1;
        begins = subst (λ (d : CertFields). Means IsCertificate d has.0) one has.2;
        is_valid = (
          r,
          record {
            path = q;
            path_of = record { anchor_begins = has.2; members = l.path_of.members };
            is_valid = record { is_valid = there.is_valid; key_is = valid.key_is; lists = valid.lists };
            held = l.held;
          },
          h.is_valid.2,
        );
      }

  pub anchors_same : (old new : FolderFields) → AddsOnly x.verifies keys old new → (c : CertFields) →
      IsAnchorIn x names t old c ↔ IsAnchorIn x names t new c
  anchors_same old new adds c = (
    anchor_there old new (λ q free. (leads_alike names x keys old new adds q free).0)
        (λ d theirs meets verified. (anchors_alike names x keys old new adds d theirs meets verified).0) c,
    anchor_there new old (λ q free. (leads_alike names x keys old new adds q free).1)
        (λ d theirs meets verified. (anchors_alike names x keys old new adds d theirs meets verified).1) c,
  )
