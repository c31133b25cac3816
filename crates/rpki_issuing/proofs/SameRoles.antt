-- Roles of one kind below one issuer.
use Rattle.std.proofs.Common.{◌≡◌, ◌≢◌, Option, Some, None, refl, sym, ap, subst, ◌∙◌, arith}
use Rattle.std.specs.Prelude.{ℕ, ◌^◌, ◌<◌, Bool, List, length, Result, Ok, Err, IfOk, IfErr, IsOk}
use Rattle.rpki_cert.specs.Certificates.{TbsFields}
use Rattle.rpki_cert.specs.Profiles.{Lacks, faults}
use Rattle.rpki_cert.specs.Verification.{ResourceFields, CheckUnder, IsVerified, issued_checks, router_checks}
use Rattle.rpki_cert.specs.declared.inspect.Kind.{Kind}
use Rattle.rpki_cert.specs.declared.validation_error.ValidationError.TheVariants.{Inspection, Verification}
use Rattle.rpki_cert.proofs.Checks.{first_not_all}
use Rattle.rpki_der.specs.Times.{Moment}
use Rattle.rpki_cert.specs.declared.verification_error.VerificationError.TheVariants.{BadSignature}
use Rattle.rpki_issuing.specs.Readiness.{IsReady, IsUnready, IsSignatureOf, IsSignatureFault, but_signature}
use Rattle.rpki_issuing.specs.Readiness.{unsigned_certificate, signed_with}
use Rattle.rpki_issuing.specs.Roles.{role_kind, signing_key, RoleCheck, role_checks}
use Rattle.rpki_issuing.specs.declared.issuing_error.IssuingError.{IssuingError}
use Rattle.rpki_issuing.specs.declared.issuing_error.IssuingError.TheVariants.{Unwritable, TooLong, Invalid, Memory}
use Rattle.rpki_issuing.specs.declared.role.Role.{Role}
use Rattle.rpki_issuing.specs.declared.role.Role.TheVariants.{Anchor, Authority, EndEntity, Detached, Router}
use Rattle.rpki_parts.specs.Keys.{KeyFields}
use Rattle.rpki_parts.specs.SignedDatas.{signed_content}
use Rattle.rpki_parts.specs.Signatures.{Verifies}
use Rattle.rpki_issuing.specs.PreparedOctets.{issuer_in, IsRoleOf}

some_same : (r s : ResourceFields) → Some r ≡ Some s → r ≡ s
some_same r s e = cc

-- whose key signs below the issuer
abbrev key_below : TbsFields → Option ResourceFields → KeyFields
key_below f None = f.key
key_below f (Some issuer) = issuer.cert.fields.key

signs_below : (r : Role) (f : TbsFields) → signing_key r f ≡ key_below f (issuer_in r)
signs_below Anchor f = refl
signs_below (Authority issuer) f = refl
signs_below (EndEntity issuer) f = refl
signs_below (Detached issuer) f = refl
signs_below (Router issuer) f = refl

module _ (at : Moment) (strict : Bool) (f : TbsFields) where
  -- what is ready isn't unready
  pub unready_not : (r : Role) (e : IssuingError) → e ≢ Memory → IsUnready at strict r f e → IsReady at strict r f → ⊥
  unready_not r Unwritable apart h ready = h ready.fields_are
  unready_not r TooLong apart h ready = let short = ready.short in omega arith
  unready_not r (Invalid (Inspection e)) apart h ready =
      first_not_all (Lacks (role_kind r) strict (unsigned_certificate f))
      (faults (role_kind r)) e h ready.valid.meets
  unready_not r (Invalid (Verification e)) apart h ready =
      first_not_all (RoleCheck (but_signature at strict) r (unsigned_certificate f)) (role_checks r) e h.1
      ready.valid.checks
  unready_not r Memory apart h ready = apart refl

  abbrev checked : ResourceFields → Type 0
  checked r = IsVerified (CheckUnder (but_signature at strict) r (unsigned_certificate f)) issued_checks

  abbrev router_checked : ResourceFields → Type 0
  router_checked r = IsVerified (CheckUnder (but_signature at strict) r (unsigned_certificate f)) router_checks

  same_ready : (r s : Role) → role_kind r ≡ role_kind s → issuer_in r ≡ issuer_in s → IsReady at strict r f →
      IsReady at strict s f
  same_ready Anchor Anchor k i h = h
  same_ready (Authority a) (Authority b) k i h =
      record {
        fields_are = h.fields_are;
        short = h.short;
        valid =
            record { meets = h.valid.meets; checks = subst checked (some_same a.now b.now i) h.valid.checks };
      }
  same_ready (EndEntity a) (EndEntity b) k i h =
      record {
        fields_are = h.fields_are;
        short = h.short;
        valid =
            record { meets = h.valid.meets; checks = subst checked (some_same a.now b.now i) h.valid.checks };
      }
  same_ready (Detached a) (Detached b) k i h =
      record {
        fields_are = h.fields_are;
        short = h.short;
        valid =
            record { meets = h.valid.meets; checks = subst checked (some_same a.now b.now i) h.valid.checks };
      }
  same_ready (Router a) (Router b) k i h =
      record {
        fields_are = h.fields_are;
        short = h.short;
        valid =
            record { meets = h.valid.meets; checks = subst router_checked (some_same a.now b.now i) h.valid.checks };
      }
  same_ready _ _ k i h = absurd cc

  -- what is ready in a role of a kind below an issuer is so in each such role
  pub role_ready : (kind : Kind) (issuer : Option ResourceFields) (r s : Role) → IsRoleOf kind issuer r →
      IsRoleOf kind issuer s → IsReady at strict r f → IsReady at strict s f
  role_ready kind issuer r s a b h = same_ready r s (a.kind_is ∙ sym b.kind_is) (a.issuer_is ∙ sym b.issuer_is) h

  -- and one key signs in each
  pub role_key : (kind : Kind) (issuer : Option ResourceFields) (r s : Role) → IsRoleOf kind issuer r →
      IsRoleOf kind issuer s → signing_key r f ≡ signing_key s f
  role_key kind issuer r s a b =
      let same : issuer_in r ≡ issuer_in s = a.issuer_is ∙ sym b.issuer_is in
      signs_below r f ∙ ap (λ (o : Option ResourceFields). key_below f o) same ∙ sym (signs_below s f)

-- what is signed isn't refused for its signature
pub signature_not : (V : Verifies) (r : Role) (f : TbsFields) (value : List ℕ) (e : IssuingError) → e ≢ Memory →
    IsSignatureFault V r f value e → length (signed_content (signed_with f value).signed_data) < 2 ^ 32 →
    IsSignatureOf V r f value → ⊥
signature_not V r f value (Invalid (Verification BadSignature)) apart h short signed = h signed
signature_not V r f value TooLong apart h short signed = omega arith
signature_not V r f value Memory apart h short signed = apart refl
signature_not V r f value _ apart h short signed = h

-- what an answer says, carried over
pub on_ok : {X E : Type 0} (P Q : X → Type 0) (S : Type 0) (r : Result X E) → IfOk r P → (IsOk r → S) →
    ((x : X) → P x → S → Q x) → IfOk r Q
on_ok P Q S (Ok x) p s f = f x p (s refl)
on_ok P Q S (Err e) p s f = tt

pub on_err : {X E : Type 0} (P Q : E → Type 0) (r : Result X E) → IfErr r P → ((e : E) → P e → Q e) → IfErr r Q
on_err P Q (Ok x) p f = tt
on_err P Q (Err e) p f = f e p
