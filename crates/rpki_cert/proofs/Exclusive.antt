-- At most one kind of certificate meets its profile, and what profiles say together.
use Rattle.std.specs.Prelude.{◌≢◌, IsSome, IsNone, IfSome, slice_get}
use Rattle.std.specs.List.{AllByRecursion}
use Rattle.std.proofs.Common.{◌≡◌, ◌⊎◌, ℕ, zero, suc, List, [], ◌∷◌, ◌++◌, Option, Some, None, Bool, true, false, refl, ap, subst, inl, inr}
use Rattle.rpki_der.proofs.Octets.{nothing, some_is}
use Rattle.rpki_ext.specs.CertificateExtensions.{NamesNoOtherKey}
use Rattle.rpki_ext.specs.declared.inspection.InspectionError.{InspectionError}
use Rattle.rpki_ext.specs.declared.inspection.InspectionError.TheVariants as fault
use Rattle.rpki_cert.specs.Certificates.{CertFields}
use Rattle.rpki_cert.specs.Profiles.{MeetsProfile, Lacks, faults, group}
use Rattle.rpki_cert.specs.declared.inspect.Kind.{Kind}
use Rattle.rpki_cert.specs.declared.inspect.Kind.TheVariants.{Anchor, Authority, EndEntity, Detached, Router}

-- ---- lists of conditions

module _ {X : Type 0} (P : X → Type 0) where
  -- the one at this place
  at : (xs : List X) (place : ℕ) (x : X) → slice_get xs place ≡ Some x → AllByRecursion P xs → P x
  at [] place x e all = nothing x e
  at (y ∷ ys) zero x e (here, more) = subst P (some_is y x e) here
  at (y ∷ ys) (suc place) x e (here, more) = at ys place x e more

  -- those in front
  front : (xs ys : List X) → AllByRecursion P (xs ++ ys) → AllByRecursion P xs
  front [] ys all = tt
  front (x ∷ xs) ys (here, more) = (here, front xs ys more)

-- ---- what two profiles ask for both

not_both : {V : Type 0} (o : Option V) → IsSome o → IsNone o → ⊥
not_both None s n = cc
not_both (Some v) s n = cc

-- a certificate that meets the profile lacks the fault at this place
lacks : (kind : Kind) (strict : Bool) (c : CertFields) (f : InspectionError) (place : ℕ) →
    slice_get (faults kind) place ≡ Some f → MeetsProfile kind strict c → Lacks kind strict c f
lacks kind strict c f place e p = at (Lacks kind strict c) (faults kind) place f e p

module _ (strict other : Bool) (c : CertFields) where
  anchor_authority : MeetsProfile Anchor strict c → MeetsProfile Authority other c → ⊥
  anchor_authority p q = not_both c.fields.extensions.crl_uri (lacks Authority other c fault.MissingCrlUri 13 refl q)
      (lacks Anchor strict c fault.CrlUriPresent 14 refl p)

  authority_detached : MeetsProfile Authority strict c → MeetsProfile Detached other c → ⊥
  authority_detached p q =
      not_both c.fields.extensions.basic_ca (lacks Authority strict c fault.MissingBasicConstraints 7 refl p)
      (lacks Detached other c fault.BasicConstraintsPresent 7 refl q)

  anchor_detached : MeetsProfile Anchor strict c → MeetsProfile Detached other c → ⊥
  anchor_detached p q =
      not_both c.fields.extensions.basic_ca (lacks Anchor strict c fault.MissingBasicConstraints 7 refl p)
      (lacks Detached other c fault.BasicConstraintsPresent 7 refl q)

  authority_router : MeetsProfile Authority strict c → MeetsProfile Router other c → ⊥
  authority_router p q =
      not_both c.fields.extensions.basic_ca (lacks Authority strict c fault.MissingBasicConstraints 7 refl p)
      (lacks Router other c fault.BasicConstraintsPresent 4 refl q)

  anchor_router : MeetsProfile Anchor strict c → MeetsProfile Router other c → ⊥
  anchor_router p q = not_both c.fields.extensions.basic_ca
      (lacks Anchor strict c fault.MissingBasicConstraints 7 refl p)
      (lacks Router other c fault.BasicConstraintsPresent 4 refl q)

  detached_router : MeetsProfile Detached strict c → MeetsProfile Router other c → ⊥
  detached_router p q = not_both c.fields.extensions.extended_key_usage
      (lacks Router other c fault.MissingExtendedKeyUsage 7 refl q)
      (lacks Detached strict c fault.ExtendedKeyUsagePresent 5 refl p)

-- what is asked of an end entity is what is asked of a detached one, and one more
pub plain_is_detached : (strict : Bool) (c : CertFields) → MeetsProfile EndEntity strict c → MeetsProfile Detached strict c
plain_is_detached strict c p = front (Lacks EndEntity strict c) (faults Detached) (fault.MissingSignedObject ∷ []) p

-- a certificate that meets two profiles has one group
pub same_group : (k l : Kind) (t u : Bool) (c : CertFields) → MeetsProfile k t c → MeetsProfile l u c → group k ≡ group l
same_group Anchor Anchor t u c p q = refl
same_group Anchor Authority t u c p q = absurd (anchor_authority t u c p q)
same_group Anchor EndEntity t u c p q = absurd (anchor_detached t u c p (plain_is_detached u c q))
same_group Anchor Detached t u c p q = absurd (anchor_detached t u c p q)
same_group Anchor Router t u c p q = absurd (anchor_router t u c p q)
same_group Authority Anchor t u c p q = absurd (anchor_authority u t c q p)
same_group Authority Authority t u c p q = refl
same_group Authority EndEntity t u c p q = absurd (authority_detached t u c p (plain_is_detached u c q))
same_group Authority Detached t u c p q = absurd (authority_detached t u c p q)
same_group Authority Router t u c p q = absurd (authority_router t u c p q)
same_group EndEntity Anchor t u c p q = absurd (anchor_detached u t c q (plain_is_detached t c p))
same_group EndEntity Authority t u c p q = absurd (authority_detached u t c q (plain_is_detached t c p))
same_group EndEntity EndEntity t u c p q = refl
same_group EndEntity Detached t u c p q = refl
same_group EndEntity Router t u c p q = absurd (detached_router t u c (plain_is_detached t c p) q)
same_group Detached Anchor t u c p q = absurd (anchor_detached u t c q p)
same_group Detached Authority t u c p q = absurd (authority_detached u t c q p)
same_group Detached EndEntity t u c p q = refl
same_group Detached Detached t u c p q = refl
same_group Detached Router t u c p q = absurd (detached_router t u c p q)
same_group Router Anchor t u c p q = absurd (anchor_router u t c q p)
same_group Router Authority t u c p q = absurd (authority_router u t c q p)
same_group Router EndEntity t u c p q = absurd (detached_router u t c (plain_is_detached u c q) p)
same_group Router Detached t u c p q = absurd (detached_router u t c q p)
same_group Router Router t u c p q = refl

is_true : (o : Option Bool) → o ≢ Some false → IsSome o → o ≡ Some true
is_true None n s = absurd cc
is_true (Some true) n s = refl
is_true (Some false) n s = absurd (n refl)

no_other : (o : Option (List ℕ)) (own : List ℕ) → IfSome o (λ id. id ≡ own) → (o ≡ None) ⊎ (o ≡ Some own)
no_other None own h = inl refl
no_other (Some id) own h = inr (ap Some h)

-- a trust anchor's Basic Constraints say that it is a CA
pub anchor_is_ca : (strict : Bool) (c : CertFields) → MeetsProfile Anchor strict c → c.fields.extensions.basic_ca ≡ Some true
anchor_is_ca strict c p = is_true c.fields.extensions.basic_ca (lacks Anchor strict c fault.CaFlagFalse 6 refl p)
    (lacks Anchor strict c fault.MissingBasicConstraints 7 refl p)

-- a CA's Basic Constraints say that it is one
pub authority_is_ca : (strict : Bool) (c : CertFields) → MeetsProfile Authority strict c → c.fields.extensions.basic_ca ≡ Some true
authority_is_ca strict c p =
    is_true c.fields.extensions.basic_ca (lacks Authority strict c fault.CaFlagFalse 6 refl p)
    (lacks Authority strict c fault.MissingBasicConstraints 7 refl p)

-- a trust anchor names no other key as the one that signs
pub signs_itself : (strict : Bool) (c : CertFields) → MeetsProfile Anchor strict c → NamesNoOtherKey c.fields.extensions
signs_itself strict c p = no_other c.fields.extensions.authority_key_identifier
    c.fields.extensions.subject_key_identifier (lacks Anchor strict c fault.AuthorityKeyIdentifier 13 refl p)
