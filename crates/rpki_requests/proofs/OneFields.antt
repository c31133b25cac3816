-- The fields that a request asks for, and what is completed, are one.
use Rattle.std.specs.Prelude.{Option, Some, None}
use Rattle.std.proofs.Common.{◌≡◌, ℕ, Bool, List, sym, ap, subst, ◌∙◌}
use Rattle.rpki_cert.specs.Certificates.{TbsFields}
use Rattle.rpki_parts.specs.Keys.{KeyFields}
use Rattle.rpki_cert.specs.declared.inspect.Kind.{Kind}
use Rattle.rpki_parts.specs.Names.{IsName}
use Rattle.rpki_der.specs.Times.{Moment}
use Rattle.rpki_cert.specs.Verification.{ResourceFields}
use Rattle.rpki_issuing.specs.OnlyValues.{IsOnly}
use Rattle.rpki_cert.proofs.SaidOnce.{says_one}
use Rattle.rpki_issuing.specs.AskedFields.{fields_asked, subject_asked}
use Rattle.rpki_issuing.specs.PreparedOctets.{IsCompleted}
use Rattle.rpki_issuing.specs.declared.wanted.wanted.Wanted.{Wanted}
use Rattle.rpki_path.specs.Asking.{RevocationChecks}
use Rattle.rpki_requests.specs.Fulfilment.{AsksFields}
use Rattle.rpki_requests.specs.OptionValues.{GivesWanted}
use Rattle.rpki_requests.specs.RequestFiles.{IsCompletedAs, IsKeyFile}
use Rattle.rpki_issuing.specs.Issuers.{fields_above}
use Rattle.rpki_requests.specs.RequestWords.{AskedFields}

-- ---- what is prepared

-- what options and the key's file say
abbrev pub Says : AskedFields → List (List ℕ) → Wanted × KeyFields → Type 0
Says asked keys p = GivesWanted asked.given p.0 × IsKeyFile keys p.1

module _ (kind : Kind) (asked : AskedFields) (keys : List (List ℕ)) (issuer : Option ResourceFields)
    (wanted : Wanted) (key : KeyFields) (only : IsOnly (Says asked keys) (wanted, key)) where
  same_parts : (f : TbsFields) (h : AsksFields kind asked keys issuer f) →
      ◌≡◌ {A = Wanted × KeyFields} (h.wanted, h.key) (wanted, key)
  same_parts f h = only.1 (h.wanted, h.key) (h.wanted_is, h.key_is)

  -- these fields are asked for, and no others
  pub asks_only : (f : TbsFields) (subject : List ℕ) →
      f ≡ fields_asked kind asked.trims wanted (fields_above issuer) key → subject ≡ f.subject →
      IsName subject subject → IsOnly (AsksFields kind asked keys issuer) f
  asks_only f subject is subject_is name = (
    record {
      wanted = wanted;
      wanted_is = only.0.0;
      key = key;
      key_is = only.0.1;
      named = subst (λ (s : List ℕ). IsName s s) (subject_is ∙ ap (λ (g : TbsFields). g.subject) is) name;
      fields_are = is;
    },
    λ g h.
        h.fields_are ∙ ap (λ (p : Wanted × KeyFields). fields_asked kind asked.trims p.0 (fields_above issuer) p.1)
        (same_parts g h) ∙ sym is,
  )

  -- where the subject is no name, none are
  pub asks_none : (let subject = subject_asked kind wanted.numbers.systems key in IsName subject subject → ⊥) →
      (f : TbsFields) → AsksFields kind asked keys issuer f → ⊥
  asks_none not f h =
      not (subst (λ (p : Wanted × KeyFields). let subject = subject_asked kind p.0.numbers.systems p.1 in
      IsName subject subject) (same_parts f h) h.named)

-- ---- what is completed

-- as one kind
pub one_completed : (issuer : Option ResourceFields) (f : TbsFields) (a b : Kind) → IsCompletedAs issuer f a →
    IsCompletedAs issuer f b → a ≡ b
one_completed None f a b p q = p ∙ sym q
one_completed (Some issuer) f a b p q = says_one f a b p q

pub same_completed : (issuer : Option ResourceFields) (path : List (List ℕ)) (checks : RevocationChecks)
    (at : Moment) (strict : Bool) (signature octets : List ℕ) (a b : Kind) (f g : TbsFields)
    (prepared given : List ℕ) → a ≡ b → f ≡ g → prepared ≡ given →
    IsCompleted a issuer path checks at strict f prepared signature octets →
    IsCompleted b issuer path checks at strict g given signature octets
same_completed issuer path checks at strict signature octets a b f g prepared given kinds fields files p =
    subst (λ (k : Kind). IsCompleted k issuer path checks at strict g given signature octets) kinds
    (subst (λ (h : TbsFields). IsCompleted a issuer path checks at strict h given signature octets) fields
    (subst (λ (l : List ℕ). IsCompleted a issuer path checks at strict f l signature octets) files p))
