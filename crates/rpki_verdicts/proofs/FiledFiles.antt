-- Folders that are filled with files, one after the other, and the first of their certificates that has
-- a locator.
use Rattle.std.specs.Prelude.{Result, Ok, Err, OnOk}
use Rattle.std.proofs.Common.{◌≡◌, ℕ, List, [], ◌∷◌, ◌++◌, true, refl, sym, ap, subst, inl, inr, ◌∙◌}
use Rattle.std.proofs.lemmas.List.{map-append}
use Rattle.rpki_folder.specs.Folders.{FolderFields, with_cert, with_list}
use Rattle.rpki_crl.specs.Lists.{CrlFields, CrlState, IsCertificateList}
use Rattle.rpki_files.specs.Contents.{BeginsWithCertificate, IsList}
use Rattle.rpki_files.specs.Files.{FileFields, contents}
use Rattle.rpki_verdicts.specs.PathFiles.{AreListsOf}
use Rattle.rpki_verdicts.specs.Trees.{AreCertificatesOf, IsFolderOf}
use Rattle.rpki_verdicts.proofs.ReadLists.{lists_same, lists_more}

-- a further file that begins with no certificate
certs_same : (files certs : List FileFields) → AreCertificatesOf files certs → (file : FileFields) →
    (BeginsWithCertificate file.octets → ⊥) → AreCertificatesOf (files ++ file ∷ []) certs
certs_same [] certs h file none = inl (none, h)
certs_same (f ∷ fs) certs (inl h) file none = inl (h.0, certs_same fs certs h.1 file none)
certs_same (f ∷ fs) certs (inr h) file none = inr (h.0, h.1, certs_same fs h.0 h.2 file none, h.3)

-- a further file that begins with one
certs_more : (files certs : List FileFields) → AreCertificatesOf files certs → (file : FileFields) →
    BeginsWithCertificate file.octets → AreCertificatesOf (files ++ file ∷ []) (certs ++ file ∷ [])
certs_more [] certs h file begins = inr ([], begins, refl, ap (λ (l : List FileFields). l ++ file ∷ []) h)
certs_more (f ∷ fs) certs (inl h) file begins = inl (h.0, certs_more fs certs h.1 file begins)
certs_more (f ∷ fs) certs (inr h) file begins =
    inr (h.0 ++ file ∷ [], h.1, certs_more fs h.0 h.2 file begins, ap (λ (l : List FileFields). l ++ file ∷ []) h.3)

-- the octets of one more
contents_more : (files : List FileFields) (file : FileFields) → contents (files ++ file ∷ []) ≡ contents files ++ file.octets ∷ []
contents_more files file = map-append (λ (f : FileFields). f.octets) files (file ∷ [])

module _ (files certs : List FileFields) (folder : FolderFields) (is : IsFolderOf files certs folder) (file : FileFields) where
  same_lists : (IsList file.octets → ⊥) → AreListsOf (contents (files ++ file ∷ [])) folder.lists
  same_lists none = subst (λ (l : List (List ℕ)). AreListsOf l folder.lists) (sym (contents_more files file))
      (lists_same (contents files) folder.lists is.lists_are file.octets none)

  -- with a file that begins with a certificate
  pub filed_certificate : BeginsWithCertificate file.octets → (IsList file.octets → ⊥) →
      IsFolderOf (files ++ file ∷ []) (certs ++ file ∷ []) (with_cert folder file.octets)
  filed_certificate begins none = record {
    certs_are = certs_more files certs is.certs_are file begins;
    octets_are = ap (λ (l : List (List ℕ)). l ++ file.octets ∷ []) is.octets_are ∙ sym (contents_more certs file);
    lists_are = same_lists none;
  }

  -- with one that is a list
  pub filed_list : (BeginsWithCertificate file.octets → ⊥) → (l : CrlState) → IsCertificateList l.list file.octets →
      l.is_cached ≡ true → IsFolderOf (files ++ file ∷ []) certs (with_list folder l)
  filed_list none l begins cached = record {
    certs_are = certs_same files certs is.certs_are file none;
    octets_are = is.octets_are;
    lists_are = subst (λ (all : List (List ℕ)). AreListsOf all (folder.lists ++ l ∷ []))
        (sym (contents_more files file))
        (lists_more (contents files) folder.lists is.lists_are file.octets l begins cached);
  }

  -- with one that is neither
  pub filed_neither : (BeginsWithCertificate file.octets → ⊥) → (IsList file.octets → ⊥) → IsFolderOf (files ++ file ∷ []) certs folder
  filed_neither none no_list = record {
    certs_are = certs_same files certs is.certs_are file none;
    octets_are = is.octets_are;
    lists_are = same_lists no_list;
  }

-- ---- one file more

-- what holds where two things do that hold where it went well
both_ok : {T E A B C : Type 0} (r : Result T E) → OnOk r A → OnOk r B → (A → B → C) → OnOk r C
both_ok (Ok x) a b f = f a b
both_ok (Err e) a b f = tt

one_ok : {T E A C : Type 0} (r : Result T E) → OnOk r A → (A → C) → OnOk r C
one_ok (Ok x) a f = f a
one_ok (Err e) a f = tt

module _ (files certs : List FileFields) (folder : FolderFields) (is : IsFolderOf files certs folder)
    (file : FileFields) (later : FolderFields) {T E : Type 0} (r : Result T E) where
  -- that begins with a certificate
  pub added_certificate : (more : List FileFields) → OnOk r (more ≡ certs ++ file ∷ []) →
      OnOk r (later ≡ with_cert folder file.octets) → BeginsWithCertificate file.octets → (IsList file.octets → ⊥) →
      OnOk r (IsFolderOf (files ++ file ∷ []) more later)
  added_certificate more mores laters begins none =
      both_ok r mores laters (λ same folders.
      subst (λ (f : FolderFields). IsFolderOf (files ++ file ∷ []) more f) (sym folders)
      (subst (λ (cs : List FileFields). IsFolderOf (files ++ file ∷ []) cs (with_cert folder file.octets)) (sym same)
      (filed_certificate files certs folder is file begins none)))

  -- that is a list
  pub added_list : (BeginsWithCertificate file.octets → ⊥) →
      OnOk r ((kept : CrlState) × IsCertificateList kept.list file.octets × (kept.is_cached ≡ true) ×
      (later ≡ with_list folder kept)) → OnOk r (IsFolderOf (files ++ file ∷ []) certs later)
  added_list none keeps =
      one_ok r keeps (λ k.
      subst (λ (f : FolderFields). IsFolderOf (files ++ file ∷ []) certs f) (sym k.3)
      (filed_list files certs folder is file none k.0 k.1 k.2))

-- what is kept of the list that octets are, from what is kept of the list
pub kept_of_octets : {T E : Type 0} (r : Result T E) (octets : List ℕ) (list : CrlFields) →
    IsCertificateList list octets → (folder later : FolderFields) →
    OnOk r ((kept : CrlState) × (kept.list ≡ list) × (kept.is_cached ≡ true) × (later ≡ with_list folder kept)) →
    OnOk r ((kept : CrlState) × IsCertificateList kept.list octets × (kept.is_cached ≡ true) ×
    (later ≡ with_list folder kept))
kept_of_octets r octets list begins folder later keeps =
    one_ok r keeps (λ k. (k.0, subst (λ (l : CrlFields). IsCertificateList l octets) (sym k.1) begins, k.2, k.3))
