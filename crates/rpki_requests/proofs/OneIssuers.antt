-- What is prepared or completed below an issuer is so below each that has its certificate and holds
-- its numbers.
use Rattle.std.specs.Prelude.{option_map}
use Rattle.std.proofs.Common.{◌≡◌, ◌≢◌, ℕ, Bool, List, [], ◌∷◌, Bor, Option, Some, None, refl, sym, ap, subst, ◌∙◌}
use Rattle.rpki_cert.specs.Certificates.{TbsFields, CertFields, encoding}
use Rattle.rpki_cert.specs.declared.inspect.Kind.{Kind}
use Rattle.rpki_issuing.specs.Acceptance.{IsUnrevokedIn}
use Rattle.rpki_issuing.specs.Readiness.{IsReady, but_signature, signed_with, unsigned_certificate}
use Rattle.rpki_path.specs.Asking.{RevocationChecks, IsUnrevokedBy}
use Rattle.rpki_issuing.specs.declared.role.Role.{Role}
use Rattle.rpki_issuing.specs.declared.role.Role.TheVariants.{Anchor, Authority, EndEntity, Detached, Router}
use Rattle.rpki_issuing.specs.IssuingRules.{HasOwnKey, KeepsRules}
use Rattle.rpki_cert.specs.declared.inspect.Kind.TheVariants as said
use Rattle.rpki_issuing.specs.Roles.{role_kind, signing_key}
use Rattle.rpki_keys.specs.RsaSignatures.{IsSignedByRsa}
use Rattle.rpki_parts.specs.Keys.{KeyFields}
use Rattle.rpki_der.specs.Times.{Moment}
use Rattle.rpki_cert.specs.Verification.{Check, CheckUnder, Context, IsVerified, ResourceFields, held_by}
use Rattle.rpki_cert.specs.Verification.{issued_checks, router_checks}
use Rattle.rpki_cert.specs.declared.verification_error.VerificationError.{VerificationError}
use Rattle.rpki_cert.specs.declared.verification_error.VerificationError.TheVariants.{NotYetValid, Expired}
use Rattle.rpki_cert.specs.declared.verification_error.VerificationError.TheVariants.{InheritedV4, InheritedV6}
use Rattle.rpki_cert.specs.declared.verification_error.VerificationError.TheVariants.{InheritedAs, MissingKeyId}
use Rattle.rpki_cert.specs.declared.verification_error.VerificationError.TheVariants.{WrongKeyId, MissingIssuerUri}
use Rattle.rpki_cert.specs.declared.verification_error.VerificationError.TheVariants.{BadSignature, OverclaimV4}
use Rattle.rpki_cert.specs.declared.verification_error.VerificationError.TheVariants.{OverclaimV6, OverclaimAs}
use Rattle.rpki_cert.specs.declared.verification_error.VerificationError.TheVariants.{Memory}
use Rattle.rpki_verdicts.specs.PathAnswers.{HoldSame}
use Rattle.rpki_issuing.specs.AskedFields.{fields_asked, issuer_name}
use Rattle.rpki_issuing.specs.PreparedOctets.{IsCompleted, IsPrepared, issuer_in}
use Rattle.rpki_requests.specs.Fulfilment.{CompletesBelow, PreparesBelow}
use Rattle.rpki_requests.specs.RequestFiles.{AreOneIssuer}
use Rattle.rpki_issuing.specs.Issuers.{fields_above}
use Rattle.rpki_requests.specs.RequestWords.{AskedFields}

-- ---- checks

module _ (x : Context) where
  held_moved : (f : TbsFields) (r s : ResourceFields) → HoldSame r s → (c : CertFields) (e : VerificationError) →
      Check x f (held_by r) c e → Check x f (held_by s) c e
  held_moved f r s same c NotYetValid l = l
  held_moved f r s same c Expired l = l
  held_moved f r s same c InheritedV4 l = l
  held_moved f r s same c InheritedV6 l = l
  held_moved f r s same c InheritedAs l = l
  held_moved f r s same c MissingKeyId l = l
  held_moved f r s same c WrongKeyId l = l
  held_moved f r s same c MissingIssuerUri l = l
  held_moved f r s same c BadSignature l = l
  held_moved f r s same c OverclaimV4 l = λ mode n small listed. (same.v4_same n).0 (l mode n small listed)
  held_moved f r s same c OverclaimV6 l = λ mode n small listed. (same.v6_same n).0 (l mode n small listed)
  held_moved f r s same c OverclaimAs l = λ mode n small listed. (same.as_same n).0 (l mode n small listed)
  held_moved f r s same c Memory l = l

  check_moved : (r s : ResourceFields) → HoldSame r s → (c : CertFields) (e : VerificationError) →
      CheckUnder x r c e → CheckUnder x s c e
  check_moved r s same c e l =
      subst (λ (d : CertFields). Check x d.fields (held_by s) c e) same.cert_is
      (held_moved r.cert.fields r s same c e l)

  checks_moved : (r s : ResourceFields) → HoldSame r s → (c : CertFields) (checks : List VerificationError) →
      IsVerified (CheckUnder x r c) checks → IsVerified (CheckUnder x s c) checks
  checks_moved r s same c [] h = tt
  checks_moved r s same c (e ∷ es) h = (check_moved r s same c e h.0, checks_moved r s same c es h.1)

-- ---- roles

some_same : (r s : ResourceFields) → Some r ≡ Some s → r ≡ s
some_same r s e = cc

-- the same role below another issuer
abbrev moved : Role → Bor ResourceFields → Role
moved Anchor issuer = Anchor
moved (Authority a) issuer = Authority issuer
moved (EndEntity a) issuer = EndEntity issuer
moved (Detached a) issuer = Detached issuer
moved (Router a) issuer = Router issuer

kind_moved : (role : Role) (issuer : Bor ResourceFields) → role_kind (moved role issuer) ≡ role_kind role
kind_moved Anchor issuer = refl
kind_moved (Authority a) issuer = refl
kind_moved (EndEntity a) issuer = refl
kind_moved (Detached a) issuer = refl
kind_moved (Router a) issuer = refl

module _ (r : ResourceFields) (issuer : Bor ResourceFields) (same : HoldSame r issuer.now) where
  issuer_moved : (role : Role) → issuer_in role ≡ Some r → issuer_in (moved role issuer) ≡ Some issuer.now
  issuer_moved Anchor is = absurd cc
  issuer_moved (Authority a) is = refl
  issuer_moved (EndEntity a) is = refl
  issuer_moved (Detached a) is = refl
  issuer_moved (Router a) is = refl

  same_as : (a : ResourceFields) → Some a ≡ Some r → HoldSame a issuer.now
  same_as a is = subst (λ (b : ResourceFields). HoldSame b issuer.now) (sym (some_same a r is)) same

  same_key : (a : ResourceFields) → Some a ≡ Some r → a.cert.fields.key ≡ issuer.now.cert.fields.key
  same_key a is = ap (λ (c : CertFields). c.fields.key) (same_as a is).cert_is

  key_moved : (role : Role) (f : TbsFields) → issuer_in role ≡ Some r →
      signing_key role f ≡ signing_key (moved role issuer) f
  key_moved Anchor f is = absurd cc
  key_moved (Authority a) f is = same_key a.now is
  key_moved (EndEntity a) f is = same_key a.now is
  key_moved (Detached a) f is = same_key a.now is
  key_moved (Router a) f is = same_key a.now is

  unrevoked_moved : (checks : RevocationChecks) (c : CertFields) → IsUnrevokedIn checks (Some r) c →
      IsUnrevokedIn checks (Some issuer.now) c
  unrevoked_moved checks c free = subst (λ (d : CertFields). IsUnrevokedBy checks d.fields c) same.cert_is free

  module _ (at : Moment) (strict : Bool) (f : TbsFields) where
    ready_moved : (role : Role) → issuer_in role ≡ Some r → IsReady at strict role f →
        IsReady at strict (moved role issuer) f
    ready_moved Anchor is h = absurd cc
    ready_moved (Authority a) is h =
        record {
          fields_are = h.fields_are;
          short = h.short;
          valid =
              record {
                meets = h.valid.meets;
                checks = checks_moved (but_signature at strict) a.now issuer.now
                    (same_as a.now is) (unsigned_certificate f) issued_checks h.valid.checks;
              };
        }
    ready_moved (EndEntity a) is h =
        record {
          fields_are = h.fields_are;
          short = h.short;
          valid =
              record {
                meets = h.valid.meets;
                checks = checks_moved (but_signature at strict) a.now issuer.now
                    (same_as a.now is) (unsigned_certificate f) issued_checks h.valid.checks;
              };
        }
    ready_moved (Detached a) is h =
        record {
          fields_are = h.fields_are;
          short = h.short;
          valid =
              record {
                meets = h.valid.meets;
                checks = checks_moved (but_signature at strict) a.now issuer.now
                    (same_as a.now is) (unsigned_certificate f) issued_checks h.valid.checks;
              };
        }
    ready_moved (Router a) is h =
        record {
          fields_are = h.fields_are;
          short = h.short;
          valid =
              record {
                meets = h.valid.meets;
                checks = checks_moved (but_signature at strict) a.now issuer.now
                    (same_as a.now is) (unsigned_certificate f) router_checks h.valid.checks;
              };
        }

    own_moved : (kind : Kind) (path : List (List ℕ)) → HasOwnKey kind (Some r) path f →
        HasOwnKey kind (Some issuer.now) path f
    own_moved said.Anchor path h = h
    own_moved said.Authority path h = (subst (λ (c : CertFields). c.fields.key ≢ f.key) same.cert_is h.0, h.1)
    own_moved said.EndEntity path h = h
    own_moved said.Detached path h = h
    own_moved said.Router path h = h

    rules_moved : (kind : Kind) (path : List (List ℕ)) → KeepsRules kind (Some r) path f →
        KeepsRules kind (Some issuer.now) path f
    rules_moved kind path h = (h.0, (h.1.0, (own_moved kind path h.1.1.0, h.1.1.1)))

    prepared_moved : (kind : Kind) (path : List (List ℕ)) (checks : RevocationChecks) (octets : List ℕ) →
        IsPrepared kind (Some r) path checks at strict f octets →
        IsPrepared kind (Some issuer.now) path checks at strict f octets
    prepared_moved kind path checks octets p = record {
      rules = rules_moved kind path p.rules;
      unrevoked = unrevoked_moved checks (unsigned_certificate f) p.unrevoked;
      role = moved p.role issuer;
      role_is = record {
        kind_is = kind_moved p.role issuer ∙ p.role_is.kind_is;
        issuer_is =
            issuer_moved p.role p.role_is.issuer_is;
      };
      ready = ready_moved p.role p.role_is.issuer_is p.ready;
      octets_are = p.octets_are;
    }

    completed_moved : (kind : Kind) (path : List (List ℕ)) (checks : RevocationChecks)
        (prepared signature octets : List ℕ) →
        IsCompleted kind (Some r) path checks at strict f prepared signature octets →
        IsCompleted kind (Some issuer.now) path checks at strict f prepared signature octets
    completed_moved kind path checks prepared signature octets p = record {
      rules = rules_moved kind path p.rules;
      unrevoked = unrevoked_moved checks (signed_with f signature) p.unrevoked;
      role = moved p.role issuer;
      role_is = record {
        kind_is = kind_moved p.role issuer ∙ p.role_is.kind_is;
        issuer_is =
            issuer_moved p.role p.role_is.issuer_is;
      };
      ready = ready_moved p.role p.role_is.issuer_is p.ready;
      prepared_is = p.prepared_is;
      signed = subst (λ (k : KeyFields). IsSignedByRsa k f.algorithm (encoding f) signature)
          (key_moved p.role f p.role_is.issuer_is) p.signed;
      short = p.short;
      octets_are = p.octets_are;
    }

  fields_moved : fields_above (Some r) ≡ fields_above (Some issuer.now)
  fields_moved = ap (λ (c : CertFields). Some c.fields) same.cert_is

-- ---- requests

module _ (asked : AskedFields) (path : List (List ℕ)) (checks : RevocationChecks) (at : Moment) where
  -- what is prepared below one issuer
  pub prepares_moved : (kind : Kind) (keys : List (List ℕ)) (octets : List ℕ) (other : Option ResourceFields)
      (issuer : Option (Bor ResourceFields)) → AreOneIssuer other (option_map (λ b. b.now) issuer) →
      PreparesBelow kind asked keys path checks at other octets →
      PreparesBelow kind asked keys path checks at (option_map (λ b. b.now) issuer) octets
  prepares_moved kind keys octets None None same p = p
  prepares_moved kind keys octets None (Some b) same p = absurd same
  prepares_moved kind keys octets (Some r) None same p = absurd same
  prepares_moved kind keys octets (Some r) (Some b) same p = record {
    fields = p.fields;
    asks = record {
      wanted = p.asks.wanted;
      wanted_is = p.asks.wanted_is;
      key = p.asks.key;
      key_is = p.asks.key_is;
      named = p.asks.named;
      fields_are = p.asks.fields_are ∙
          ap (λ (above : Option TbsFields). fields_asked kind asked.trims p.asks.wanted above p.asks.key)
          (fields_moved r b same);
    };
    prepared = prepared_moved r b same at asked.strict p.fields kind path checks octets p.prepared;
  }

  -- what is completed below one
  pub completes_moved : (prepared signature octets : List ℕ) (other : Option ResourceFields)
      (issuer : Option (Bor ResourceFields)) → AreOneIssuer other (option_map (λ b. b.now) issuer) →
      CompletesBelow asked path checks at other prepared signature octets →
      CompletesBelow asked path checks at (option_map (λ b. b.now) issuer) prepared signature octets
  completes_moved prepared signature octets None None same p = p
  completes_moved prepared signature octets None (Some b) same p = absurd same
  completes_moved prepared signature octets (Some r) None same p = absurd same
  completes_moved prepared signature octets (Some r) (Some b) same p = record {
    fields = p.fields;
    fields_are = p.fields_are;
    named = p.named ∙ ap (λ (above : Option TbsFields). issuer_name above p.fields.subject) (fields_moved r b same);
    kind = p.kind;
    kind_is = p.kind_is;
    completed = completed_moved r b same at asked.strict p.fields p.kind path checks prepared signature octets
        p.completed;
  }
