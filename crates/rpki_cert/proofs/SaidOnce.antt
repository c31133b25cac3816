-- A certificate says that it is of one kind, and a CA of the profile that it is a CA.
use Rattle.std.proofs.Common.{◌≡◌, ℕ, Bool, true, false, List, refl, subst, inl, inr}
use Rattle.std.specs.Prelude.{Option, None, Some, IsSome, IsNone, IsSomeAnd}
use Rattle.rpki_der.specs.Values.{IsUnambiguous}
use Rattle.rpki_der.proofs.Formats.{one_meant}
use Rattle.rpki_ext.specs.RouterPurposes.{HasRouterPurpose}
use Rattle.rpki_cert.specs.Certificates.{TbsFields, CertFields, IsCertificate}
use Rattle.rpki_cert.specs.Profiles.{MeetsProfile}
use Rattle.rpki_cert.specs.declared.inspect.Kind.{Kind}
use Rattle.rpki_cert.specs.declared.inspect.Kind.TheVariants.{Anchor, Authority, EndEntity, Detached, Router}
use Rattle.rpki_cert.specs.SaidKinds.{SaysAuthority, SaysKind, BeginsWithKind}

both : {X : Type 0} (o : Option X) → IsSome o → IsNone o → ⊥
both None some none = absurd cc
both (Some x) some none = absurd cc

-- a certificate says that it is of one kind alone
pub says_one : (f : TbsFields) (k l : Kind) → SaysKind k f → SaysKind l f → k ≡ l
says_one f Anchor l h g = absurd h
says_one f Authority Anchor h g = absurd g
says_one f Authority Authority h g = refl
says_one f Authority EndEntity h g = absurd (g.0.1 h.1)
says_one f Authority Detached h g = absurd (g.0.1 h.1)
says_one f Authority Router h g = absurd (h.0 g)
says_one f EndEntity Anchor h g = absurd g
says_one f EndEntity Authority h g = absurd (h.0.1 g.1)
says_one f EndEntity EndEntity h g = refl
says_one f EndEntity Detached h g = absurd (both f.extensions.access.signed_object h.1 g.1)
says_one f EndEntity Router h g = absurd (h.0.0 g)
says_one f Detached Anchor h g = absurd g
says_one f Detached Authority h g = absurd (h.0.1 g.1)
says_one f Detached EndEntity h g = absurd (both f.extensions.access.signed_object g.1 h.1)
says_one f Detached Detached h g = refl
says_one f Detached Router h g = absurd (h.0.0 g)
says_one f Router Anchor h g = absurd g
says_one f Router Authority h g = absurd (g.0 h)
says_one f Router EndEntity h g = absurd (g.0.0 h)
says_one f Router Detached h g = absurd (g.0.0 h)
says_one f Router Router h g = refl

-- and so do octets
pub begins_one : IsUnambiguous IsCertificate → (octets : List ℕ) (k l : Kind) → BeginsWithKind k octets → BeginsWithKind l octets → k ≡ l
begins_one law octets k l h g =
    let same : h.0 ≡ g.0 = one_meant IsCertificate law h.0 g.0 octets h.1 g.1 in
    says_one g.0.fields k l (subst (λ (c : CertFields). SaysKind k c.fields) same h.2) g.2

no_some : {X : Type 0} (P : X → Type 0) (o : Option X) → IsNone o → IsSomeAnd o P → ⊥
no_some P None none some = some
no_some P (Some x) none some = absurd cc

flag_true : (o : Option Bool) → (o ≡ Some false → ⊥) → IsSome o → o ≡ Some true
flag_true None apart some = absurd cc
flag_true (Some false) apart some = absurd (apart refl)
flag_true (Some true) apart some = refl

-- a CA of the profile says that it is a CA's
pub authority_says : (strict : Bool) (c : CertFields) → MeetsProfile Authority strict c → SaysKind Authority c.fields
authority_says strict c meets =
    let purposes = meets.1.1.1.1.1.0 in
    let apart = meets.1.1.1.1.1.1.0 in
    let some = meets.1.1.1.1.1.1.1.0 in
    let ca : SaysAuthority c.fields = flag_true c.fields.extensions.basic_ca apart some in (
      (λ says. elim says [
        | inl named ↦ no_some HasRouterPurpose c.fields.extensions.extended_key_usage purposes
            named
        | inr curve ↦ curve.1 ca
      ]),
      ca,
    )
