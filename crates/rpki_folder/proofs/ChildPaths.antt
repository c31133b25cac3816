-- Paths that go on below an issuer go through its children.
use Rattle.std.proofs.Common.{ℕ, List, [], ◌∷◌, ◌++◌, refl, subst}
use Rattle.std.proofs.lemmas.List.{append-nil}
use Rattle.rpki_der.specs.Values.{IsUnambiguous}
use Rattle.rpki_cert.specs.Certificates.{CertFields, IsCertificate}
use Rattle.rpki_cert.specs.Verification.{Context, ResourceFields}
use Rattle.rpki_cert.specs.declared.inspect.Kind.TheVariants.{Authority}
use Rattle.rpki_path.specs.Asking.{RevocationChecks}
use Rattle.rpki_path.specs.Paths.{Candidate, candidate}
use Rattle.rpki_folder.specs.Folders.{string_at, cas_at}
use Rattle.rpki_folder.specs.Walks.{Root, members_at, LeadsTo, IsChildOf}
use Rattle.rpki_folder.proofs.PathsDown.{members_more, one_holder, is_child}

module _ (x : Context) (asked : RevocationChecks) (root : Root) (law : IsUnambiguous IsCertificate)
    (certs : List (List ℕ)) (above : List ℕ) where
  -- a path to CAs further down goes through the first of them
  pub passing : (p : ℕ) (rest : List ℕ) (r : ResourceFields) →
      LeadsTo x asked root (members_at root certs (above ++ p ∷ rest)) r
      → LeadsTo x asked root (members_at root certs above ++ candidate Authority (string_at certs p) ∷
      cas_at certs rest) r
  passing p rest r leads = subst (λ (l : List Candidate). LeadsTo x asked root l r)
      (members_more root certs above (p ∷ rest)) leads

  module _ (issuer : ResourceFields) (a : LeadsTo x asked root (members_at root certs above) issuer) where
    -- which is a child
    pub child_on : (p : ℕ) (rest : List ℕ) (r : ResourceFields) →
        LeadsTo x asked root (members_at root certs (above ++ p ∷ rest)) r →
        IsChildOf x.verifies issuer.cert certs p
    child_on p rest r leads = is_child x asked root law (members_at root certs above) issuer a Authority
        (string_at certs p) (cas_at certs rest) r (passing p rest r leads) certs p refl

    -- a child at the end of the same path is one of the same issuer
    pub child_here : (r : ResourceFields) (p : ℕ) → LeadsTo x asked root (members_at root certs (above ++ [])) r →
        IsChildOf x.verifies r.cert certs p → IsChildOf x.verifies issuer.cert certs p
    child_here r p leads child =
        let here : LeadsTo x asked root (members_at root certs above) r =
        subst (λ (l : List ℕ). LeadsTo x asked root (members_at root certs l) r) (append-nil above) leads in
        subst (λ (c : CertFields). IsChildOf x.verifies c certs p)
        (one_holder x asked root law (members_at root certs above) r issuer here a) child
