-- A valid path gets a further member.
use Rattle.std.specs.List.{AllByRecursion}
use Rattle.std.proofs.Common.{◌≡◌, ◌⊎◌, ◌↔◌, ◌+◌, ◌<◌, ◌≤◌, ℕ, List, [], ◌∷◌, ◌++◌, refl, sym, ap, subst, ◌∙◌, inl}
use Rattle.std.proofs.Common.{inr, arith}
use Rattle.std.proofs.Math.Nat.{eq-or-lt_of_le}
use Rattle.rpki_blocks.specs.Sets.{Has, Block}
use Rattle.rpki_blocks.specs.IssuedSets.{IsIssued}
use Rattle.rpki_cert.specs.Certificates.{TbsFields, CertFields}
use Rattle.rpki_cert.specs.Profiles.{MeetsProfile}
use Rattle.rpki_cert.specs.Validation.{IsValidBelow}
use Rattle.rpki_cert.specs.Verification.{Context, Held, Check, CheckUnder, issued_checks, IsVerified}
use Rattle.rpki_cert.specs.Verification.{ResourceFields, HasIssued, held_by}
use Rattle.rpki_cert.specs.declared.inspect.Kind.{Kind}
use Rattle.rpki_cert.specs.declared.verification_error.VerificationError.{VerificationError}
use Rattle.rpki_cert.specs.declared.verification_error.VerificationError.TheVariants.{NotYetValid, Expired}
use Rattle.rpki_cert.specs.declared.verification_error.VerificationError.TheVariants.{InheritedV4, InheritedV6}
use Rattle.rpki_cert.specs.declared.verification_error.VerificationError.TheVariants.{InheritedAs, MissingKeyId}
use Rattle.rpki_cert.specs.declared.verification_error.VerificationError.TheVariants.{WrongKeyId, MissingIssuerUri}
use Rattle.rpki_cert.specs.declared.verification_error.VerificationError.TheVariants.{BadSignature, OverclaimV4}
use Rattle.rpki_cert.specs.declared.verification_error.VerificationError.TheVariants.{OverclaimV6, OverclaimAs}
use Rattle.rpki_cert.specs.declared.verification_error.VerificationError.TheVariants.{Memory}
use Rattle.rpki_crl.specs.declared.revocation_error.RevocationError.{RevocationError}
use Rattle.rpki_path.specs.Asking.{RevocationChecks, IsUnrevokedBy}
use Rattle.rpki_cert.proofs.Checks.{all_map}
use Rattle.rpki_path.specs.Paths.{Member, Path, member, longer, last, certificate_at, NumberKind, v4_addresses}
use Rattle.rpki_path.specs.Paths.{v6_addresses, system_numbers, kind_resources, Holds, HeldAt, CheckBelow}
use Rattle.rpki_path.specs.Paths.{IsValidPath, Candidate, candidate, IsMember, HasHeld, IsAccepted}
use Rattle.rpki_path.specs.Paths.Steps.{IsTrustAnchor, IsIssuedBy}
use Rattle.rpki_path.proofs.LongerPaths.{extended, above, there, last_extended, all_below_more, holds_above}
use Rattle.rpki_path.proofs.LongerPaths.{holds_there, gets_passed, zip_more, all_more}

-- ---- revocation

-- checks that ask nothing are true
pub unasked_checks : (es : List RevocationError) → AllByRecursion (λ e. Unit {0}) es
unasked_checks [] = tt
unasked_checks (e ∷ es) = (tt, unasked_checks es)

-- ---- checks

-- both have the same numbers
record SameHeld (h g : Held) : Type 0 where
  v4_same : (n : ℕ) → h.v4 n ↔ g.v4 n
  v6_same : (n : ℕ) → h.v6 n ↔ g.v6 n
  as_same : (n : ℕ) → h.as_numbers n ↔ g.as_numbers n

turned : {h g : Held} → SameHeld h g → SameHeld g h
turned s = record {
  v4_same = λ n. ((s.v4_same n).1, (s.v4_same n).0);
  v6_same = λ n. ((s.v6_same n).1, (s.v6_same n).0);
  as_same = λ n. ((s.as_same n).1, (s.as_same n).0);
}

module _ (x : Context) where
  check_kept : (f : TbsFields) (h g : Held) → SameHeld h g → (c : CertFields) (e : VerificationError) →
      Check x f h c e → Check x f g c e
  check_kept f h g same c NotYetValid l = l
  check_kept f h g same c Expired l = l
  check_kept f h g same c InheritedV4 l = l
  check_kept f h g same c InheritedV6 l = l
  check_kept f h g same c InheritedAs l = l
  check_kept f h g same c MissingKeyId l = l
  check_kept f h g same c WrongKeyId l = l
  check_kept f h g same c MissingIssuerUri l = l
  check_kept f h g same c BadSignature l = l
  check_kept f h g same c OverclaimV4 l = λ mode n small listed. (same.v4_same n).0 (l mode n small listed)
  check_kept f h g same c OverclaimV6 l = λ mode n small listed. (same.v6_same n).0 (l mode n small listed)
  check_kept f h g same c OverclaimAs l = λ mode n small listed. (same.as_same n).0 (l mode n small listed)
  check_kept f h g same c Memory l = l

  check_same : (f d : TbsFields) → f ≡ d → (h g : Held) → SameHeld h g → (c : CertFields) (e : VerificationError) →
      Check x f h c e ↔ Check x d g c e
  check_same f d is h g same c e = (
    (λ l. check_kept d h g same c e (subst (λ (y : TbsFields). Check x y h c e) is l)),
    (λ l. check_kept f g h (turned same) c e (subst (λ (y : TbsFields). Check x y g c e) (sym is) l)),
  )

  -- the checks under the last member, as it was validated, are those of the path
  pub check_last : (p : Path) (tal : List ℕ) (issuer : ResourceFields) → HasHeld p tal issuer →
      (c : CertFields) (e : VerificationError) → CheckUnder x issuer c e ↔ CheckBelow x p (last p) c e
  check_last p tal issuer held c e =
      check_same issuer.cert.fields (certificate_at p (last p)).fields
      (ap (λ (c : CertFields). c.fields) held.cert_is) (held_by issuer) (HeldAt p (last p))
      (record { v4_same = held.v4_is; v6_same = held.v6_is; as_same = held.as_is }) c e

  -- they stay so with further members
  pub check_above : (p : Path) (m : Member) (more : List Member) (i : ℕ) → i ≤ last p →
      (c : CertFields) (e : VerificationError) → CheckBelow x p i c e ↔ CheckBelow x (extended p m more) i c e
  check_above p m more i h c e =
      check_same (certificate_at p i).fields (certificate_at (extended p m more) i).fields
      (ap (λ (c : CertFields). c.fields) (sym (above p m more i h))) (HeldAt p i)
      (HeldAt (extended p m more) i)
      (record {
        v4_same = λ n. holds_above p m more v4_addresses n i h;
        v6_same = λ n. holds_above p m more v6_addresses n i h;
        as_same = λ n. holds_above p m more system_numbers n i h;
      }) c e

  -- ---- a further member

  module _ (asked : RevocationChecks) where
    -- a trust anchor alone
    pub anchor_alone : (anchor tal : List ℕ) (r : ResourceFields) → IsTrustAnchor x anchor tal r →
        IsAccepted x asked anchor [] tal r
    anchor_alone anchor tal r is =
        let p : Path = record { anchor = r.cert; below = [] } in
        let holds : (k : NumberKind) (n : ℕ) → Rattle.rpki_path.specs.Paths.Lists r.cert k n ↔ Holds p 0 k n =
        λ k n. (
          (λ l. record { listed = l; passed_on = λ j low high. absurd (omega arith) }),
          (λ h. h.listed),
        ) in
        record {
          path = p;
          path_of = record { anchor_begins = is.begins; members = tt };
          is_valid = record {
            anchor_meets = is.valid.meets;
            members_meet = tt;
            anchor_verified = is.valid.checks;
            members_verified = λ i h. absurd (omega arith);
            members_unrevoked = λ i h. absurd (omega arith);
          };
          held = record {
            cert_is = refl;
            v4_is = λ n. (
              (λ h. (holds v4_addresses n).0 ((is.valid.listed.v4_is n).0 h)),
              (λ h. (is.valid.listed.v4_is n).1 ((holds v4_addresses n).1 h)),
            );
            v6_is = λ n. (
              (λ h. (holds v6_addresses n).0 ((is.valid.listed.v6_is n).0 h)),
              (λ h. (is.valid.listed.v6_is n).1 ((holds v6_addresses n).1 h)),
            );
            as_is = λ n. (
              (λ h. (holds system_numbers n).0 ((is.valid.listed.as_is n).0 h)),
              (λ h. (is.valid.listed.as_is n).1 ((holds system_numbers n).1 h)),
            );
            tal_is = is.valid.listed.tal_is;
          };
        }

    module _ (p : Path) (tal : List ℕ) (issuer : ResourceFields) (held : HasHeld p tal issuer) (k : Kind)
        (r : ResourceFields) where
      abbrev m : Member
      m = member k r.cert

      abbrev more : Path
      more = longer p m

      -- what is issued is what the path holds
      same_held : (n_kind : NumberKind) (has : List Block) (set : List Block) →
          ((n : ℕ) → Has has n ↔ Holds p (last p) n_kind n) → IsIssued has (kind_resources n_kind r.cert) set →
          (n : ℕ) → Has set n ↔ Holds more (last more) n_kind n
      same_held n_kind has set is issued n =
          let at : last more ≡ last p + 1 = last_extended p m in
          let gets = gets_passed (Has has) (kind_resources n_kind r.cert) n in
          let holds = holds_there p m [] n_kind n in (
            (λ h. let got = gets.0 ((issued n).0 h) in
                subst (λ (i : ℕ). Holds more i n_kind n) (sym at) (holds.1 ((is n).0 got.0, got.1))),
            (λ h. let both = holds.0 (subst (λ (i : ℕ). Holds more i n_kind n) at h) in
                (issued n).1 (gets.1 ((is n).1 both.0, both.1))),
          )

      pub held_then : HasIssued r.cert issuer r → HasHeld more tal r
      held_then issued = record {
        cert_is = sym (there p m []) ∙ ap (λ (i : ℕ). certificate_at more i) (sym (last_extended p m));
        v4_is = same_held v4_addresses issuer.v4 r.v4 held.v4_is issued.v4_is;
        v6_is = same_held v6_addresses issuer.v6 r.v6 held.v6_is issued.v6_is;
        as_is = same_held system_numbers issuer.as_numbers r.as_numbers held.as_is issued.as_is;
        tal_is = issued.tal_is ∙ held.tal_is;
      }

      module _ (is_valid : IsValidPath x asked p) (is : IsValidBelow x issuer k r.cert r)
          (free : IsUnrevokedBy asked issuer.cert.fields r.cert) where
        verified : (i : ℕ) → (i ≡ last p) ⊎ (i < last p) →
            IsVerified (CheckBelow x more i (certificate_at more (i + 1))) issued_checks
        verified i (inl e) =
            let h : last p ≤ last p = omega arith in
            let under = all_map (CheckUnder x issuer r.cert) (CheckBelow x p (last p) r.cert) issued_checks
            (λ l. (check_last p tal issuer held r.cert l).0) is.checks in
            let below = all_map (CheckBelow x p (last p) r.cert) (CheckBelow x more (last p) r.cert) issued_checks
            (λ l. (check_above p m [] (last p) h r.cert l).0) under in
            subst (λ (j : ℕ). IsVerified (CheckBelow x more j (certificate_at more (j + 1))) issued_checks) (sym e)
            (subst (λ (c : CertFields). IsVerified (CheckBelow x more (last p) c) issued_checks)
            (sym (there p m [])) below)
        verified i (inr h) =
            let low : i ≤ last p = omega arith in
            let next : i + 1 ≤ last p = omega arith in
            let c = certificate_at p (i + 1) in
            subst (λ (c : CertFields). IsVerified (CheckBelow x more i c) issued_checks)
            (sym (above p m [] (i + 1) next))
            (all_map (CheckBelow x p i c) (CheckBelow x more i c) issued_checks
            (λ l. (check_above p m [] i low c l).0) (is_valid.members_verified i h))

        pub valid_then : IsValidPath x asked more
        valid_then = record {
          anchor_meets = is_valid.anchor_meets;
          members_meet = all_more (λ (m : Member). MeetsProfile m.kind x.strict m.cert) p.below m
              is_valid.members_meet is.meets;
          anchor_verified = is_valid.anchor_verified;
          members_verified = λ i h. let low : i ≤ last p = omega (arith, last_extended p m) in
              verified i (eq-or-lt_of_le low);
          members_unrevoked = all_below_more (λ above c. IsUnrevokedBy asked above.fields c) p m
              is_valid.members_unrevoked
              (subst (λ (c : CertFields). IsUnrevokedBy asked c.fields r.cert) held.cert_is free);
        }

    -- the path with one member more
    pub one_more : (anchor : List ℕ) (below : List Candidate) (tal : List ℕ) (issuer : ResourceFields) (k : Kind)
        (octets : List ℕ) (r : ResourceFields) → IsAccepted x asked anchor below tal issuer →
        IsIssuedBy x asked issuer k octets r → IsAccepted x asked anchor (below ++ candidate k octets ∷ []) tal r
    one_more anchor below tal issuer k octets r a is =
        let p = a.path in
        record {
          path = longer p (member k r.cert);
          path_of = record {
            anchor_begins = a.path_of.anchor_begins;
            members = zip_more IsMember p.below below (member k r.cert) (candidate k octets) a.path_of.members
                (record { kind_is = refl; begins = is.begins });
          };
          is_valid = valid_then p tal issuer a.held k r a.is_valid is.below is.unrevoked;
          held = held_then p tal issuer a.held k r is.below.issued;
        }
