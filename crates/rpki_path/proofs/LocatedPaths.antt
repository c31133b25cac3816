-- Paths below the trust anchor of a locator, from what is asked of its key and of the path.
use Rattle.std.proofs.Common.{◌≡◌, Result, Ok, Err, IfOk, IfErr, ℕ, List, ap, subst, ◌∙◌, inl}
use Rattle.rpki_der.specs.Values.{IsUnambiguous}
use Rattle.rpki_der.proofs.Formats.{one_meant}
use Rattle.rpki_cert.specs.Certificates.{CertFields, IsCertificate}
use Rattle.rpki_cert.specs.Verification.{Context, ResourceFields}
use Rattle.rpki_path.specs.Asking.{RevocationChecks}
use Rattle.rpki_keys.specs.Locators.{NamedTal, TalFields}
use Rattle.rpki_path.specs.declared.located.LocatedError.{LocatedError}
use Rattle.rpki_path.specs.declared.located.LocatedError.TheVariants.{OtherKey, NoResources, Path as path}
use Rattle.rpki_path.specs.declared.path_fault.PathError.{PathError}
use Rattle.rpki_path.specs.declared.path_fault.PathFault.{PathFault}
use Rattle.rpki_path.specs.declared.path_fault.PathFault.TheVariants.{Decode, Inspect, Verify, Revocation, Memory}
use Rattle.rpki_path.specs.LocatedPaths.{BeginsWithAnchor, BeginsWithKey, BeginsWithNoNumber, BeginsWithNumbers}
use Rattle.rpki_path.specs.LocatedPaths.{BeginsWithOtherKey, ListsSome, IsAnchorFault, IsAcceptedFrom}
use Rattle.rpki_path.specs.LocatedPaths.{IsLocatedFault, IsNoPathFrom, ValidatesFrom}
use Rattle.rpki_path.specs.Paths.{Candidate, IsAccepted, IsFault, trust_anchor_demand, UnlessMemory}
use Rattle.rpki_path.specs.Paths.Steps.{IsUnread}
use Rattle.rpki_path.proofs.FoundSteps.{unread}
use Rattle.rpki_path.proofs.Rejections.{no_valid_path, unless_weaker}

module _ (law : IsUnambiguous IsCertificate) (t : TalFields) (anchor : List ℕ) where
  -- octets that begin with a certificate of the key have no other
  no_other_key : BeginsWithKey t anchor → BeginsWithOtherKey t anchor → ⊥
  no_other_key b o =
      o.key_differs (ap (λ (c : CertFields). c.fields.key)
      (one_meant IsCertificate law o.cert b.cert anchor o.begins b.begins) ∙ b.key_is)

  -- nor, if it lists a number, one that lists none
  not_both : BeginsWithNumbers anchor → BeginsWithNoNumber anchor → ⊥
  not_both b o = o.lists_none
      (subst ListsSome (one_meant IsCertificate law b.cert o.cert anchor b.begins o.begins) b.lists)

  pub no_anchor_fault : BeginsWithAnchor t anchor → (BeginsWithOtherKey t anchor → ⊥) × (BeginsWithNoNumber anchor → ⊥)
  no_anchor_fault b = (no_other_key b.0, not_both b.1)

  -- with another key no path begins at the locator
  pub no_path_from : (x : Context) (asked : RevocationChecks) (below : List Candidate) →
      BeginsWithOtherKey t anchor → IsNoPathFrom x asked t anchor below
  no_path_from x asked below o = λ p of valid.
      no_other_key (record { cert = p.anchor; begins = of.anchor_begins; key_is = valid.key_is }) o

  -- nor where the trust anchor lists no number
  pub no_path_below : (x : Context) (asked : RevocationChecks) (below : List Candidate) →
      BeginsWithNoNumber anchor → IsNoPathFrom x asked t anchor below
  no_path_below x asked below o = λ p of valid.
      not_both (record { cert = p.anchor; begins = of.anchor_begins; lists = valid.lists }) o

-- unless it ran out of memory, what always holds
unless : {P : Type 0} (e : PathFault) → P → UnlessMemory e P
unless Memory h = tt
unless (Decode e) h = h
unless (Inspect e) h = h
unless (Verify e) h = h
unless (Revocation e) h = h

module _ (x : Context) (asked : RevocationChecks) (below : List Candidate) where
  no_key_read : (t : TalFields) (anchor : List ℕ) (e : PathFault) → IsUnread anchor e →
      UnlessMemory e ((BeginsWithOtherKey t anchor → ⊥) × (BeginsWithNoNumber anchor → ⊥))
  no_key_read t anchor (Decode e) h = ((λ o. h.1 o.cert o.begins), (λ o. h.1 o.cert o.begins))
  no_key_read t anchor Memory h = tt
  no_key_read t anchor (Inspect e) h = absurd h
  no_key_read t anchor (Verify e) h = absurd h
  no_key_read t anchor (Revocation e) h = absurd h

  -- a trust anchor that isn't read is wrong
  pub unread_anchor : (t : TalFields) (anchor : List ℕ) (e : PathError) → e.index ≡ 0 → IsUnread anchor e.fault →
      IsLocatedFault x asked t anchor below (path e)
  unread_anchor t anchor e at h = (
    inl (record { index_is = at; fault_is = unread x (trust_anchor_demand x) anchor e.fault h }),
    no_key_read t anchor e.fault h,
  )

  -- a fault of the trust anchor
  pub anchor_fault : (t : TalFields) (anchor : List ℕ) (e : LocatedError) → IsAnchorFault t anchor e →
      IsLocatedFault x asked t anchor below e
  anchor_fault t anchor OtherKey h = h
  anchor_fault t anchor NoResources h = h
  anchor_fault t anchor (path e) h = unread_anchor t anchor e h.0 h.1

  -- a fault of the path, below such a trust anchor
  pub below_anchor : IsUnambiguous IsCertificate → (t : TalFields) (anchor : List ℕ) → BeginsWithAnchor t anchor →
      (e : PathError) → IsFault x asked anchor below e → IsLocatedFault x asked t anchor below (path e)
  below_anchor law t anchor b e h = (h, unless e.fault (no_anchor_fault law t anchor b))

  -- what an accepted or rejected path means
  pub located_headline : IsUnambiguous IsCertificate →
      (t : NamedTal) (anchor : List ℕ) (r : Result ResourceFields LocatedError)
      → IfOk r (λ h. BeginsWithAnchor t.tal anchor × IsAccepted x asked anchor below t.name h) →
      IfErr r (IsLocatedFault x asked t.tal anchor below) → ValidatesFrom x asked t anchor below r
  located_headline law t anchor (Ok r) ok named =
      let a = ok.1 in
      let key = ok.0.0 in
      let numbers = ok.0.1 in
      record {
        path = a.path;
        path_of = a.path_of;
        is_valid = record {
          is_valid = a.is_valid;
          key_is = ap (λ (c : CertFields). c.fields.key)
              (one_meant IsCertificate law a.path.anchor key.cert anchor a.path_of.anchor_begins key.begins) ∙
              key.key_is;
          lists = subst ListsSome
              (one_meant IsCertificate law numbers.cert a.path.anchor anchor numbers.begins
              a.path_of.anchor_begins) numbers.lists;
        };
        held = a.held;
      }
  located_headline law t anchor (Err OtherKey) ok named = no_path_from law t.tal anchor x asked below named
  located_headline law t anchor (Err NoResources) ok named = no_path_below law t.tal anchor x asked below named.1
  located_headline law t anchor (Err (path e)) ok named =
      unless_weaker e.fault (λ none p of valid. none p of valid.is_valid)
      (no_valid_path x asked law anchor below e named.0)
