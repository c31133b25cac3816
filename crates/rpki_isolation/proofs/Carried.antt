-- What isn't of strangers is in the directory with their files if and only if it is in the one without.
use Rattle.std.specs.Prelude.{Bool, Contains}
use Rattle.std.proofs.Common.{List, inl, inr, subst, ℕ, ◌≡◌}
use Rattle.rpki_der.specs.Values.{IsUnambiguous}
use Rattle.rpki_der.proofs.Formats.{one_meant}
use Rattle.rpki_ext.specs.Kinds.{Means}
use Rattle.rpki_parts.specs.Keys.{KeyFields}
use Rattle.rpki_cert.specs.Certificates.{CertFields, IsCertificate, TbsFields}
use Rattle.rpki_cert.specs.Verification.{Context, IsSignedBy}
use Rattle.rpki_path.specs.AskedLists.{by_named_lists}
use Rattle.rpki_path.specs.Asking.{IsUnrevokedBy}
use Rattle.rpki_path.specs.Paths.{Path}
use Rattle.rpki_folder.specs.Folders.{FolderFields}
use Rattle.rpki_folder.specs.Strangers.{AddsOnly, HasCertificate, IsFreeOf, LeadsThrough}
use Rattle.rpki_folder.proofs.IsolatedPaths.{leads_alike, unrevoked_alike}
use Rattle.rpki_isolation.specs.PathShares.{LetsIn}
use Rattle.rpki_isolation.specs.ToldWalks.{BeginAlike}

module _ (x : Context) (names : Bool) where
  -- what issuers without one of these keys signed in the first folder is in the second one, and let in
  -- there; and the trust anchor's octets begin with one certificate
  pub record Carries (keys : List KeyFields) (aa : List ℕ) (a : FolderFields) (bb : List ℕ) (b : FolderFields)
      (ib : List ℕ → ℕ → Type 0) : Type 0 where
    pub begins : (c : CertFields) → Means IsCertificate c aa → Means IsCertificate c bb
    pub through : (q : Path) → IsFreeOf keys q → LeadsThrough names x a q → LeadsThrough names x b q
    pub unrevoked : (issuer : TbsFields) → (Contains keys issuer.key → ⊥) → (c : CertFields) →
        IsUnrevokedBy (by_named_lists names x a.lists) issuer c →
        IsUnrevokedBy (by_named_lists names x b.lists) issuer c
    pub signed : (key : KeyFields) → (Contains keys key → ⊥) → (c : CertFields) →
        IsSignedBy x.verifies key c.signed_data → c.fields.algorithm ≡ c.signed_data.signature.algorithm →
        HasCertificate a c → HasCertificate b c
    pub lets_in : LetsIn x.verifies keys b.certs ib

  -- from a folder to itself
  pub carries_same : (keys : List KeyFields) (aa : List ℕ) (a : FolderFields) (ia : List ℕ → ℕ → Type 0) →
      LetsIn x.verifies keys a.certs ia → Carries keys aa a aa a ia
  carries_same keys aa a ia lets =
      record {
        begins = λ c means. means;
        through = λ q free leads. leads;
        unrevoked =
            λ issuer own c is. is;
        signed = λ key own c signed algorithm has. has;
        lets_in = lets;
      }

  module _ (law : IsUnambiguous IsCertificate) (keys : List KeyFields) (old new : FolderFields)
      (adds : AddsOnly x.verifies keys old new) (anchor other : List ℕ) (alike : BeginAlike anchor other) where
    turned : (one another : List ℕ) (b : BeginAlike one another) (c : CertFields) → Means IsCertificate c one →
        Means IsCertificate c another
    turned one another b c means = let same : b.0 ≡ c = one_meant IsCertificate law b.0 c one b.1 means in
        subst (λ (d : CertFields). Means IsCertificate d another) same b.2

    pub carries_on : (i : List ℕ → ℕ → Type 0) → LetsIn x.verifies keys new.certs i → Carries keys anchor old other new i
    carries_on i lets = record {
      begins = turned anchor other alike;
      through = λ q free. (leads_alike names x keys old new adds q free).0;
      unrevoked = λ issuer own c. (unrevoked_alike names x keys old new adds issuer own c).0;
      signed = λ key own c signed algorithm has. adds.certs_stay c has;
      lets_in = lets;
    }

    pub carries_back : (i : List ℕ → ℕ → Type 0) → LetsIn x.verifies keys old.certs i → Carries keys other new anchor old i
    carries_back i lets = record {
      begins = turned other anchor (alike.0, alike.2, alike.1);
      through = λ q free. (leads_alike names x keys old new adds q free).1;
      unrevoked = λ issuer own c. (unrevoked_alike names x keys old new adds issuer own c).1;
      signed = λ key own c signed algorithm has. elim (adds.certs_added c has) [
        | inl there ↦ there
        | inr (inl only) ↦ absurd (own (only key signed))
        | inr (inr two) ↦ absurd (two algorithm)
      ];
      lets_in = lets;
    }

    -- a verdict of a walk isn't about what it lets in
    pub unlet_on : Carries keys anchor old other new (λ above place. Unit {0})
    unlet_on = carries_on (λ above place. Unit {0}) (λ c others place stands above. (place, stands, tt))

    pub unlet_back : Carries keys other new anchor old (λ above place. Unit {0})
    unlet_back = carries_back (λ above place. Unit {0}) (λ c others place stands above. (place, stands, tt))
