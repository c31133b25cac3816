-- The certificates that name a key, by their issuers' names.
use Rattle.std.specs.Prelude.{Bool, true, false, bytes_eq, if◌then◌else◌, Option, None, Some}
use Rattle.std.specs.Prelude.{IfSome, option_map, Result, Ok, Err, OnOk}
use Rattle.std.proofs.Common.{◌≡◌, ℕ, List, [], ◌∷◌, ◌++◌, refl, sym, ap, subst, ◌∙◌}
use Rattle.std.proofs.lemmas.Slice.Eq.{bytes_eq-Decides}
use Rattle.rpki_der.specs.Values.{IsUnambiguous}
use Rattle.rpki_der.proofs.Formats.{one_meant}
use Rattle.rpki_parts.specs.Keys.{KeyFields}
use Rattle.rpki_parts.specs.Signatures.{Verifies}
use Rattle.rpki_cert.specs.Certificates.{TbsFields, CertFields, IsCertificate}
use Rattle.rpki_cert.specs.Verification.{IsSignedBy}
use Rattle.rpki_crl.specs.Lists.{CrlState}
use Rattle.rpki_path.specs.Repeats.{AreAlike}
use Rattle.rpki_folder.specs.Folders.{FolderFields, string_at, ArePlacesOf}
use Rattle.rpki_folder.specs.IssuerLists.{ArePicked, HasSigned}
use Rattle.rpki_folder.specs.KeyTables.{places_in, with_place}
use Rattle.rpki_folder.specs.NameTables.{HasIssuer, ArePlacesUnder, IsOfKey}
use Rattle.rpki_folder.specs.declared.issuers.NamedKey.{NamedKey}
use Rattle.rpki_folder.proofs.PickedLists.{picked_more, picked_same, one_of_all, one_of_picked}
use Rattle.rpki_folder.proofs.KeptIssuers.{once_picked}

-- ---- one place more

module _ (law : IsUnambiguous IsCertificate) (certs : List (List ℕ)) (xs : List ℕ) (place : ℕ) (name : List ℕ)
    (has : HasIssuer name certs place) where
  one_name : (k : List ℕ) → HasIssuer k certs place → name ≡ k
  one_name k h = sym has.2 ∙ ap (λ (c : CertFields). c.fields.issuer)
      (one_meant IsCertificate law has.0 h.0 (string_at certs place) has.1 h.1) ∙ h.2

  by_test : (k old : List ℕ) → ArePicked (HasIssuer k certs) xs old → (b : Bool) → bytes_eq name k ≡ b →
      ArePicked (HasIssuer k certs) (xs ++ place ∷ []) (if b then old ++ place ∷ [] else old)
  by_test k old are true same =
      picked_more (HasIssuer k certs) xs old place are
      (subst (λ (n : List ℕ). HasIssuer n certs place) ((bytes_eq-Decides name k).0 same) has)
  by_test k old are false apart =
      picked_same (HasIssuer k certs) xs old place are
      (λ h. let same = (bytes_eq-Decides name k).1 (one_name k h) in absurd (cc (apart, same)))

  pub by_issuer_more : (old new : List ℕ → List ℕ) → ((k : List ℕ) → ArePicked (HasIssuer k certs) xs (old k)) →
      ((k : List ℕ) → new k ≡ with_place name place k (old k))
      → (k : List ℕ) → ArePicked (HasIssuer k certs) (xs ++ place ∷ []) (new k)
  by_issuer_more old new are news k = subst (λ (l : List ℕ). ArePicked (HasIssuer k certs) (xs ++ place ∷ []) l)
      (sym (news k)) (by_test k (old k) (are k) (bytes_eq name k) refl)

-- ---- below an issuer

-- all places of the key
pub all_under : (names : Bool) (issuer : CertFields) (certs : List (List ℕ)) (places : List ℕ) →
    ArePlacesOf certs issuer.fields.extensions.subject_key_identifier places →
    ArePlacesUnder names issuer certs places
all_under names issuer certs places are = record {
  inside = are.inside;
  only = are.only;
  all = λ p low signer named. are.all p low signer;
  once = are.once;
}

-- those of its name
pub named_under : (verifies : Verifies) (folder : FolderFields) (issuer : CertFields) (kept : NamedKey) →
    IsOfKey verifies folder issuer kept
    → ArePlacesUnder true issuer folder.certs (places_in kept.certs.places issuer.fields.subject)
named_under verifies folder issuer kept of =
    let name = issuer.fields.subject in
    let those = places_in kept.certs.places name in
    let here = of.by_issuer name in
    let P = λ (p : ℕ). HasIssuer name folder.certs p in
    record {
      inside = λ p at. of.are_places.inside p (one_of_all P of.places those here p at).0;
      only = λ p at. of.are_places.only p (one_of_all P of.places those here p at).0;
      all = λ p low signer named. one_of_picked P of.places those here p (of.are_places.all p low signer)
          (signer.cert, signer.begins, named refl signer.cert signer.begins);
      once = once_picked P of.places those here of.are_places.once;
    }

-- ---- another name of the key

module _ (verifies : Verifies) (lists : List CrlState) (f g : TbsFields) (alike : AreAlike false f g) where
  pub signed_alike : HasSigned verifies lists f → HasSigned verifies lists g
  signed_alike (l, at, names, signed) = (
    l,
    at,
    names ∙ alike.identifier_is,
    subst (λ (key : KeyFields). IsSignedBy verifies key l.list.signed_data)
        alike.key_is signed,
  )

pub key_alike : (verifies : Verifies) (folder : FolderFields) (c d : CertFields) →
    AreAlike false c.fields d.fields → AreAlike false d.fields c.fields → (kept : NamedKey) →
    IsOfKey verifies folder c kept → IsOfKey verifies folder d kept
key_alike verifies folder c d alike back kept of = record {
  places = of.places;
  are_places = subst (λ (key : List ℕ). ArePlacesOf folder.certs key of.places) alike.identifier_is of.are_places;
  by_issuer = of.by_issuer;
  signed = (
    (λ is. signed_alike verifies folder.lists c.fields d.fields alike (of.signed.0 is)),
    (λ h. of.signed.1 (signed_alike verifies folder.lists d.fields c.fields back h)),
  );
}

-- ---- what may be known

-- what holds of what is there, where another thing does
pub if_some : {K : Type 0} (o : Option K) (P Q : K → Type 0) → ((k : K) → P k → Q k) → IfSome o P → IfSome o Q
if_some (Some k) P Q weaker h = weaker k h
if_some None P Q weaker h = tt

-- what holds where two things do
pub on_both : {T E P Q R : Type 0} (r : Result T E) → OnOk r P → OnOk r Q → (P → Q → R) → OnOk r R
on_both (Ok t) p q f = f p q
on_both (Err e) p q f = tt

-- what holds of a value that is there holds of what is made of it
pub if_some_map : {A B : Type 0} (o : Option A) (f : A → B) (P : B → Type 0) → IfSome o (λ a. P (f a)) →
    IfSome (option_map f o) P
if_some_map None f P h = h
if_some_map (Some a) f P h = h
