-- The list that a request asks for, and what is completed as one.
use Rattle.std.specs.Prelude.{option_map, Option, Some, None}
use Rattle.std.proofs.Common.{◌≡◌, ℕ, List, Bor, refl, sym, subst, ◌∙◌}
use Rattle.rpki_cert.specs.Certificates.{TbsFields, CertFields}
use Rattle.rpki_crl.specs.Lists.{CrlFields, CrlState, IsTbsCertList, ListFields}
use Rattle.rpki_crl.specs.RevokedEntries.{Revoked}
use Rattle.rpki_der.specs.Times.{Moment}
use Rattle.rpki_cert.specs.Verification.{ResourceFields}
use Rattle.rpki_issuing.specs.OnlyValues.{IsOnly}
use Rattle.rpki_verdicts.specs.PathAnswers.{HoldSame}
use Rattle.rpki_issuing.specs.WantedLists.{IsListWanted, WantedListFields}
use Rattle.rpki_path.specs.Asking.{RevocationChecks}
use Rattle.rpki_requests.specs.Fulfilment.{AsksList, CompletesAs, CompletesBelow, CompletesListBelow, GivesToSign}
use Rattle.rpki_requests.specs.Fulfilment.{PreparesListBelow}
use Rattle.rpki_requests.specs.OptionValues.{GivesList}
use Rattle.rpki_requests.specs.RequestFiles.{AreOneIssuer, InputFields, IsPreviousOf}
use Rattle.rpki_requests.specs.RequestWords.{AskedFields}
use Rattle.rpki_requests.specs.declared.fulfilling.Made.{Made}
use Rattle.rpki_requests.specs.declared.fulfilling.Made.TheVariants as made
use Rattle.rpki_requests.proofs.KindsApart.{data_apart}
use Rattle.rpki_requests.proofs.OneIssuers.{completes_moved}

-- where no octets are such, none are given to be signed
pub none_to_sign : (Are : List ℕ → Type 0) → ((octets : List ℕ) → Are octets → ⊥) → (given : Made) →
    GivesToSign Are given → ⊥
none_to_sign Are none (made.ToSign octets) p = none octets p
none_to_sign Are none (made.Certificate octets) p = p
none_to_sign Are none (made.RevocationList octets) p = p

-- the fields of the list before, as they are seen
pub fields_before : (list : Option (Bor CrlState)) →
    option_map (λ (l : CrlFields). l.fields) (option_map (λ (l : Bor CrlState). l.now.list) list) ≡
    option_map (λ (l : Bor CrlState). l.now.list.fields) list
fields_before None = refl
fields_before (Some list) = refl

module _ (asked : AskedFields) (inputs : InputFields) (at : Moment) (issuer : TbsFields) where
  module _ (previous : Option CrlFields) (one : IsOnly (IsPreviousOf issuer inputs.previous) previous) where
    abbrev before : Option CrlFields → Option (ListFields Revoked)
    before list = option_map (λ (l : CrlFields). l.fields) list

    module _ (wanted : WantedListFields) (only : IsOnly (GivesList asked.given inputs.revoked issuer at) wanted) where
      moved : (f : ListFields Revoked) (h : AsksList asked inputs at issuer f) →
          IsListWanted wanted (before previous) issuer f
      moved f h =
          subst (λ (w : WantedListFields). IsListWanted w (before previous) issuer f) (only.1 h.wanted h.wanted_is)
          (subst (λ (p : Option CrlFields). IsListWanted h.wanted (before p) issuer f)
          (one.1 h.previous h.previous_is) h.fields_are)

      -- these fields are asked for, and no others
      pub asks_list : (f : ListFields Revoked) → IsListWanted wanted (before previous) issuer f →
          IsOnly (AsksList asked inputs at issuer) f
      asks_list f is = (
        record { previous = previous; previous_is = one.0; wanted = wanted; wanted_is = only.0; fields_are = is },
        λ g h. (moved g h).fields_are ∙ sym is.fields_are,
      )

      -- where there are none, none are
      pub asks_no_list : ((f : ListFields Revoked) → IsListWanted wanted (before previous) issuer f → ⊥) →
          (f : ListFields Revoked) → AsksList asked inputs at issuer f → ⊥
      asks_no_list none f h = none f (moved f h)

module _ (asked : AskedFields) (at : Moment) where
  -- what is prepared below one issuer
  pub list_prepares_moved : (inputs : InputFields) (r s : ResourceFields) → HoldSame r s → (octets : List ℕ) →
      PreparesListBelow asked inputs at r.cert.fields octets →
      PreparesListBelow asked inputs at s.cert.fields octets
  list_prepares_moved inputs r s same octets p =
      subst (λ (c : CertFields). PreparesListBelow asked inputs at c.fields octets) same.cert_is p

  module _ (path : List (List ℕ)) (prepared signature : List ℕ) where
    list_completes_moved : (r s : ResourceFields) → HoldSame r s → (octets : List ℕ) →
        CompletesListBelow asked at r.cert.fields prepared signature octets →
        CompletesListBelow asked at s.cert.fields prepared signature octets
    list_completes_moved r s same octets p =
        subst (λ (c : CertFields). CompletesListBelow asked at c.fields prepared signature octets) same.cert_is p

    -- what is completed below one
    pub completes_as_moved : (checks : RevocationChecks) (other : Option ResourceFields)
        (issuer : Option (Bor ResourceFields)) (given : Made) →
        AreOneIssuer other (option_map (λ b. b.now) issuer) →
        CompletesAs asked path checks at other prepared signature given →
        CompletesAs asked path checks at (option_map (λ b. b.now) issuer) prepared signature given
    completes_as_moved checks None None given same p = p
    completes_as_moved checks None (Some b) given same p = absurd same
    completes_as_moved checks (Some r) None given same p = absurd same
    completes_as_moved checks (Some r) (Some b) (made.ToSign octets) same p = p
    completes_as_moved checks (Some r) (Some b) (made.Certificate octets) same p =
        completes_moved asked path checks at prepared signature octets (Some r) (Some b) same p
    completes_as_moved checks (Some r) (Some b) (made.RevocationList octets) same p =
        list_completes_moved r b.now same octets p

    -- where nothing is completed as a certificate, and what is to be signed is no list
    pub none_as_certificate : (checks : RevocationChecks) →
        ((f : ListFields Revoked) → IsTbsCertList f prepared → ⊥) → (issuer : Option ResourceFields) →
        ((octets : List ℕ) → CompletesBelow asked path checks at issuer prepared signature octets → ⊥) →
        (given : Made) → CompletesAs asked path checks at issuer prepared signature given → ⊥
    none_as_certificate checks no_list None none (made.ToSign octets) p = p
    none_as_certificate checks no_list (Some r) none (made.ToSign octets) p = p
    none_as_certificate checks no_list None none (made.Certificate octets) p = none octets p
    none_as_certificate checks no_list (Some r) none (made.Certificate octets) p = none octets p
    none_as_certificate checks no_list None none (made.RevocationList octets) p = p
    none_as_certificate checks no_list (Some r) none (made.RevocationList octets) p = no_list p.fields p.fields_are

    module _ (f : ListFields Revoked) (is : IsTbsCertList f prepared) where
      -- what is to be signed is a list, and no issuer is there
      pub none_without : (checks : RevocationChecks) (given : Made) →
          CompletesAs asked path checks at None prepared signature given → ⊥
      none_without checks (made.ToSign octets) p = p
      none_without checks (made.Certificate octets) p = data_apart f p.fields prepared is p.fields_are.is_data
      none_without checks (made.RevocationList octets) p = p

      -- or nothing is completed as one
      pub none_as_list : (checks : RevocationChecks) (r : ResourceFields) →
          ((octets : List ℕ) → CompletesListBelow asked at r.cert.fields prepared signature octets → ⊥) →
          (given : Made) → CompletesAs asked path checks at (Some r) prepared signature given → ⊥
      none_as_list checks r none (made.ToSign octets) p = p
      none_as_list checks r none (made.Certificate octets) p = data_apart f p.fields prepared is p.fields_are.is_data
      none_as_list checks r none (made.RevocationList octets) p = none octets p
