-- What stands above a file to which no valid path leads.
use Rattle.std.specs.Prelude.{Option, Some, None, MatchOption, slice_get}
use Rattle.std.proofs.Common.{◌≡◌, ◌≢◌, ◌+◌, ◌↔◌, ℕ, Bool, true, false, List, [], ◌∷◌, ◌++◌, sym, ap, subst, ◌∙◌, inl, inr, append_assoc}
use Rattle.std.proofs.lemmas.List.{append-nil}
use Rattle.rpki_cert.specs.Certificates.{CertFields, IsCertificate}
use Rattle.rpki_folder.specs.Folders.{NamesSigner}
use Rattle.rpki_cert.specs.SaidKinds.{BeginsWithSaid}
use Rattle.rpki_cert.specs.declared.saying.Said.{Said}
use Rattle.rpki_der.specs.Values.{IsUnambiguous}
use Rattle.rpki_der.proofs.Formats.{one_meant}
use Rattle.rpki_files.specs.Files.{FileFields}
use Rattle.rpki_verdicts.specs.Searches.{AreAbove, no_more, no_issuer, accepted, at_top, named, HasKeyNamed}
use Rattle.rpki_verdicts.specs.Searches.{HasNoIssuer, HaveNoneKeyed, IsFirstKeyed, IsAcceptedAt, IsIssuerAt, IsShownAbove, files_at}
use Rattle.rpki_verdicts.specs.Trees.{certs_of}
use Rattle.rpki_verdicts.proofs.SearchSteps.{file_there}
use Rattle.rpki_verdicts.specs.declared.unordered.Tree.{Tree}

-- ---- the issuer

module _ (tree : Tree) (file : FileFields) where
  abbrev pub HasIssuerAt : ℕ → Type 0
  HasIssuerAt place = (issuer : FileFields) × IsIssuerAt tree file place issuer

  -- the file names this key as the one that signs it, where there is one, and no other
  module _ (signer : Option (List ℕ)) (says : (key : List ℕ) → NamesSigner key file.octets ↔ (signer ≡ Some key)) where
    pub unsigned : signer ≡ None → HasNoIssuer tree file
    unsigned none = λ key names place has. let is = (says key).0 names in absurd cc

    module _ (key : List ℕ) (is : signer ≡ Some key) where
      pub first_accepted : (place : ℕ) → IsFirstKeyed tree key true place → HasIssuerAt place
      first_accepted place first = (first.0.0.0, record { key = key; names = (says key).1 is; taken = inl first; issuer_is = first.0.0.1 })

      pub first_of_all : HaveNoneKeyed tree key true → (found : Option ℕ) →
          MatchOption found (HaveNoneKeyed tree key false) (IsFirstKeyed tree key false) →
          MatchOption found (HasNoIssuer tree file) HasIssuerAt
      first_of_all none (Some place) first = (
        first.0.0.0,
        record { key = key; names = (says key).1 is; taken = inr (none, first); issuer_is = first.0.0.1 },
      )
      first_of_all none None others = λ k names.
          let other = (says k).0 names in
          let same : key ≡ k = cc in
          subst (λ (l : List ℕ). HaveNoneKeyed tree l false) same others

-- ---- the files

module _ (certs : List FileFields) (tree : Tree) (file : FileFields) where
  -- what stands above the file was added
  abbrev pub Adds : ℕ → List FileFields → Bool → List FileFields → Type 0
  Adds most old reach new = (above : List FileFields) × AreAbove certs tree most file above reach × (new ≡ old ++ above)

  pub adds_none : (old : List FileFields) → Adds 0 old false old
  adds_none old = ([], no_more file, sym (append-nil old))

  module _ (m most : ℕ) (more : m + 1 ≡ most) (old : List FileFields) where
    pub adds_no_issuer : HasNoIssuer tree file → Adds most old false old
    adds_no_issuer none = subst (λ (n : ℕ). Adds n old false old) more ([], no_issuer m file none, sym (append-nil old))

    -- the issuer behind others
    module _ (place : ℕ) (has : HasIssuerAt tree file place) (mid new : List FileFields)
        (one : new ≡ mid ++ files_at (certs_of tree) (place ∷ [])) where
      behind : (over : List FileFields) → mid ≡ old ++ over → new ≡ old ++ (over ++ has.0 ∷ [])
      behind over so_far =
          one ∙ ap (λ (l : List FileFields). mid ++ l) (file_there (certs_of tree) place has.0 has.1.issuer_is)
          ∙ ap (λ (l : List FileFields). l ++ has.0 ∷ []) so_far ∙ append_assoc old over (has.0 ∷ [])

      pub adds_accepted : (above : List ℕ) → IsShownAbove certs tree place above →
          mid ≡ old ++ files_at (certs_of tree) (tree.anchor ∷ above) → Adds most old true new
      adds_accepted above line so_far =
          let over = files_at (certs_of tree) (tree.anchor ∷ above) in
          subst (λ (n : ℕ). Adds n old true new) more (over ++ has.0 ∷ [], accepted m file has.0 place above has.1 line, behind over so_far)

      pub adds_top : place ≡ tree.anchor → (IsAcceptedAt tree place → ⊥) → mid ≡ old → Adds most old true new
      adds_top top line same =
          let is = subst (λ (n : ℕ). IsIssuerAt tree file n has.0) top has.1 in
          let unled = subst (λ (n : ℕ). IsAcceptedAt tree n → ⊥) top line in
          subst (λ (n : ℕ). Adds n old true new) more (has.0 ∷ [], at_top m file has.0 is unled, behind [] (same ∙ sym (append-nil old)))

      pub adds_named : (there : FileFields) → slice_get (certs_of tree) place ≡ Some there →
          (IsAcceptedAt tree place → ⊥) → place ≢ tree.anchor → (over : List FileFields) (reach : Bool) →
          AreAbove certs tree m there over reach → mid ≡ old ++ over → Adds most old reach new
      adds_named there there_is line other over reach above so_far =
          let both : Some there ≡ Some has.0 = sym there_is ∙ has.1.issuer_is in
          let same : there ≡ has.0 = cc in
          let are = subst (λ (f : FileFields). AreAbove certs tree m f over reach) same above in
          subst (λ (n : ℕ). Adds n old reach new) more
          (over ++ has.0 ∷ [], named m file has.0 place over reach has.1 line other are, behind over so_far)
