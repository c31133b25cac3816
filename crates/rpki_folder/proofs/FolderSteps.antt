-- One certificate more in a folder: which places the keys have.
use Rattle.std.specs.Prelude.{Bool, true, false, None, Some, Contains, bytes_eq, if◌then◌else◌}
use Rattle.std.proofs.Common.{◌≡◌, ◌≢◌, ◌⊎◌, ◌+◌, ◌<◌, ◌≤◌, ℕ, List, [], ◌∷◌, ◌++◌, length, refl, sym, ap, subst}
use Rattle.std.proofs.Common.{◌∙◌, inl, inr, arith}
use Rattle.std.proofs.Math.ListN.{get_or-append}
use Rattle.std.proofs.Math.Nat.{eq-or-lt_of_le}
use Rattle.std.proofs.Math.Seq.{get_or-append_seam}
use Rattle.std.proofs.lemmas.List.{length-append, append-nil, nil_from_length}
use Rattle.std.proofs.lemmas.List.Elements.{Contains-push_cases, Contains-append_left, Contains-push}
use Rattle.std.proofs.lemmas.Slice.Eq.{bytes_eq-Decides}
use Rattle.rpki_der.specs.Place.{Rejects}
use Rattle.rpki_der.specs.Values.{IsUnambiguous}
use Rattle.rpki_der.specs.declared.error.DecodeError.{DecodeError}
use Rattle.rpki_der.specs.declared.error.DecodeError.TheVariants.{Memory}
use Rattle.rpki_der.proofs.Formats.{one_meant}
use Rattle.rpki_der.specs.Encoding.{Begins}
use Rattle.rpki_ext.specs.Kinds.{Means}
use Rattle.rpki_crl.specs.Lists.{CrlFields, IsCertificateList}
use Rattle.rpki_cert.specs.Certificates.{CertFields, IsCertificate}
use Rattle.rpki_folder.specs.Folders.{string_at, NamesSigner, ArePlacesOf}
use Rattle.rpki_folder.specs.KeyTables.{with_place}
use Rattle.rpki_folder.proofs.OnceLists.{once_push}

some_one : {X : Type 0} (x y : X) → Some x ≡ Some y → x ≡ y
some_one x y e = cc e

module _ (certs : List (List ℕ)) (octets : List ℕ) where
  abbrev more : List (List ℕ)
  more = certs ++ octets ∷ []

  old_at : (place : ℕ) → place < length certs → string_at more place ≡ string_at certs place
  old_at place h = get_or-append certs (octets ∷ []) [] place h

  new_at : string_at more (length certs) ≡ octets
  new_at = get_or-append_seam certs octets [] []

  longer : length more ≡ length certs + 1
  longer = length-append certs (octets ∷ [])

  old_or_new : (place : ℕ) → place < length more → (place ≡ length certs) ⊎ (place < length certs)
  old_or_new place h = let low : place ≤ length certs = omega (arith, longer) in eq-or-lt_of_le low

  module _ (key places : List ℕ) (old : ArePlacesOf certs key places) where
    old_inside : (place : ℕ) → Contains places place → place < length more
    old_inside place among = let h = old.inside place among in omega (arith, longer)

    old_only : (place : ℕ) → Contains places place → NamesSigner key (string_at more place)
    old_only place among = subst (λ (o : List ℕ). NamesSigner key o) (sym (old_at place (old.inside place among)))
        (old.only place among)

    old_all : (place : ℕ) → place < length certs → NamesSigner key (string_at more place) → Contains places place
    old_all place h names = old.all place h (subst (λ (o : List ℕ). NamesSigner key o) (old_at place h) names)

    -- the key of another one
    pub places_kept : (NamesSigner key octets → ⊥) → ArePlacesOf more key places
    places_kept never = record {
      inside = old_inside;
      only = old_only;
      all = λ place h names. elim (old_or_new place h) [
        | inl is ↦ absurd (never
            (subst (λ (o : List ℕ). NamesSigner key o) new_at
            (subst (λ (p : ℕ). NamesSigner key (string_at more p)) is names)))
        | inr low ↦ old_all place low names
      ];
      once = old.once;
    }

    -- the key that signs it
    pub places_added : NamesSigner key octets → ArePlacesOf more key (places ++ length certs ∷ [])
    places_added names_it = record {
      inside = λ place among. elim (Contains-push_cases places (length certs) place among) [
        | inl h ↦ old_inside place h
        | inr is ↦ omega (arith, longer, is)
      ];
      only = λ place among. elim (Contains-push_cases places (length certs) place among) [
        | inl h ↦ old_only place h
        | inr is ↦ subst (λ (p : ℕ). NamesSigner key (string_at more p)) is
            (subst (λ (o : List ℕ). NamesSigner key o) (sym new_at) names_it)
      ];
      all = λ place h names. elim (old_or_new place h) [
        | inl is ↦ subst (λ (p : ℕ). Contains (places ++ length certs ∷ []) p) (sym is)
            (Contains-push places (length certs))
        | inr low ↦ Contains-append_left places (length certs ∷ []) place (old_all place low names)
      ];
      once = once_push places (length certs) old.once (λ among. let low = old.inside (length certs) among in
          absurd (omega (arith, low)));
    }

  module _ (law : IsUnambiguous IsCertificate) (c : CertFields) (begins : Means IsCertificate c octets)
      (table : List ℕ → List ℕ) (old : (key : List ℕ) → ArePlacesOf certs key (table key)) where
    named : (key : List ℕ) → NamesSigner key octets → c.fields.extensions.authority_key_identifier ≡ Some key
    named key names = ap (λ (d : CertFields). d.fields.extensions.authority_key_identifier)
        (one_meant IsCertificate law c names.cert octets begins names.begins) ∙ names.names

    -- where it names no key
    pub without_key : c.fields.extensions.authority_key_identifier ≡ None → (key : List ℕ) →
        ArePlacesOf more key (table key)
    without_key none key = places_kept key (table key) (old key) (λ names. absurd (cc (none, named key names)))

    module _ (signer : List ℕ) (is : c.fields.extensions.authority_key_identifier ≡ Some signer) where
      by_test : (key : List ℕ) (b : Bool) → bytes_eq signer key ≡ b →
          ArePlacesOf more key (if b then table key ++ length certs ∷ [] else table key)
      by_test key true same =
          let one : signer ≡ key = (bytes_eq-Decides signer key).0 same in
          places_added key (table key) (old key)
          (record { cert = c; begins = begins; names = is ∙ ap (λ (k : List ℕ). Some k) one })
      by_test key false apart =
          places_kept key (table key) (old key)
          (λ names. let one : signer ≡ key = some_one signer key (sym is ∙ named key names) in
          absurd (cc (apart, (bytes_eq-Decides signer key).1 one)))

      -- where it names this one
      pub with_key : (new : List ℕ → List ℕ) →
          ((key : List ℕ) → new key ≡ with_place signer (length certs) key (table key)) → (key : List ℕ) →
          ArePlacesOf more key (new key)
      with_key new news key = subst (λ (l : List ℕ). ArePlacesOf more key l) (sym (news key))
          (by_test key (bytes_eq signer key) refl)

-- what an error of reading says, unless memory ran out
pub rejected : (P : Type 0) (e : DecodeError) → Rejects e P → e ≢ Memory → P
rejected P Memory h apart = absurd (apart refl)
rejected P e h apart = h

-- ---- lists with octets behind them

-- what no list is at the front of is no list
pub no_list_at_all : (octets : List ℕ) →
    ((y : CrlFields) (rest : List ℕ) → Begins IsCertificateList octets y rest → ⊥) → (y : CrlFields) →
    IsCertificateList y octets → ⊥
no_list_at_all octets none y is = none y [] (record { text = octets; encoded = is; parts = sym (append-nil octets) })

-- nor is what has octets behind one
pub no_whole_list : IsUnambiguous IsCertificateList → (octets rest : List ℕ) (l : CrlFields) →
    Begins IsCertificateList octets l rest → (rest ≡ [] → ⊥) → (y : CrlFields) → IsCertificateList y octets → ⊥
no_whole_list law octets rest l begins some y is =
    let same : octets ≡ begins.text =
    (law y l octets begins.text [] rest is begins.encoded (append-nil octets ∙ begins.parts)).1 in
    let long = length-append begins.text rest in
    let none : length rest ≡ 0 = omega (arith, long, ap length begins.parts, ap length same) in
    some (nil_from_length rest none)
