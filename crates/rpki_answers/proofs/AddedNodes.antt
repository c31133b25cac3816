-- What is added to a document of each file, one after the other.
use Rattle.std.proofs.Common.{◌≡◌, ◌+◌, ◌<◌, ◌≤◌, ℕ, suc, Bool, List, [], ◌∷◌, ◌++◌, length, take, get_or, refl, sym, ap, subst, ◌∙◌, arith}
use Rattle.std.specs.List.{flat_map}
use Rattle.std.proofs.lemmas.List.{length-take-le, take_more, take_all}
use Rattle.rpki_document.specs.Building.{Adds, AddsSome, nodes_of}
use Rattle.rpki_document.specs.Documents.{Node}
use Rattle.rpki_document.specs.declared.parts.Part.{Part}
use Rattle.rpki_document.proofs.Built.{then_added}
use Rattle.rpki_files.specs.Files.{FileFields}
use Rattle.rpki_answers.specs.Verdicts.{AreCertificates, IsCertificateNode}
use Rattle.rpki_answers.specs.VerdictTexts.{SaysOfEach}
use Rattle.rpki_answers.proofs.GrownLists.{grown_more, grown_all}
use Rattle.rpki_answers.proofs.PartsOfEach.{parts_more}

module _ (Says : FileFields → List Node → Type 0) (files : List FileFields) where
  -- of one file more
  pub added_more : (i : ℕ) (file : FileFields) (old mid new : List Part)
      → i < length files → file ≡ get_or files i file → AddsSome (SaysOfEach Says (take i files)) old mid
      → AddsSome (Says file) mid new → AddsSome (SaysOfEach Says (take (i + 1) files)) old new
  added_more i file old mid new low there so_far one =
      grown_more Says files i file (nodes_of old) (nodes_of mid) (nodes_of new) low there so_far one

  -- of all
  pub added_all : (i : ℕ) (old new : List Part) → length files ≤ i
      → AddsSome (SaysOfEach Says (take i files)) old new → AddsSome (SaysOfEach Says files) old new
  added_all i old new high all = grown_all Says files i (nodes_of old) (nodes_of new) high all

-- the same where what is said is determined
module _ {X : Type 0} (f : X → List Node) (xs : List X) (i : ℕ) where
  pub told_more : (x : X) (old mid new : List Part) → i < length xs → x ≡ get_or xs i x
      → Adds (flat_map f (take i xs)) old mid → Adds (f x) mid new → Adds (flat_map f (take (i + 1) xs)) old new
  told_more x old mid new low there so_far one =
      subst (λ (l : List Node). Adds l old new) (sym (parts_more f xs i x low there))
      (then_added old mid new (flat_map f (take i xs)) (f x) so_far one)

-- ---- the certificates of a path, with their indexes

same_index : (strict : Bool) (a b : ℕ) (file : FileFields) (node : Node) → a ≡ b →
    IsCertificateNode strict a file node → IsCertificateNode strict b file node
same_index strict a b file node e says = subst (λ (n : ℕ). IsCertificateNode strict n file node) e says

certificates_more : (strict : Bool) (from : ℕ) (files : List FileFields) (file : FileFields) (nodes : List Node) (node : Node)
    → AreCertificates strict from files nodes → IsCertificateNode strict (from + length files) file node
    → AreCertificates strict from (files ++ file ∷ []) (nodes ++ node ∷ [])
certificates_more strict from [] file nodes node is says =
    let e : from + 0 ≡ from = omega arith in
    (node, [], same_index strict (from + 0) from file node e says, refl, ap (λ (l : List Node). l ++ node ∷ []) is)
certificates_more strict from (f ∷ fs) file nodes node is says =
    let e : from + length (f ∷ fs) ≡ suc from + length fs = omega arith in (
      is.0,
      is.1 ++ node ∷ [],
      is.2,
      certificates_more strict (suc from) fs file is.1 node is.3 (same_index strict _ _ file node e says),
      ap (λ (l : List Node). l ++ node ∷ []) is.4,
    )

module _ (strict : Bool) (files : List FileFields) where
  pub certificate_added : (i : ℕ) (file : FileFields) (old mid new : List Part)
      → i < length files → file ≡ get_or files i file → AddsSome (AreCertificates strict 0 (take i files)) old mid
      → ((node : Node) × IsCertificateNode strict i file node × Adds (node ∷ []) mid new)
      → AddsSome (AreCertificates strict 0 (take (i + 1) files)) old new
  certificate_added i file old mid new low there so_far one =
      let more : take (i + 1) files ≡ take i files ++ file ∷ [] =
      take_more files i file low ∙ ap (λ (y : FileFields). take i files ++ y ∷ []) (sym there) in
      let taken : length (take i files) ≡ i = length-take-le i files (omega arith) in
      let place : i ≡ 0 + length (take i files) = omega arith in (
        so_far.0 ++ one.0 ∷ [],
        subst (λ (l : List FileFields). AreCertificates strict 0 l (so_far.0 ++ one.0 ∷ [])) (sym more)
            (certificates_more strict 0 (take i files) file so_far.0 one.0 so_far.1 (same_index strict _ _ file one.0 place one.1)),
        then_added old mid new so_far.0 (one.0 ∷ []) so_far.2 one.2,
      )

  pub certificates_added : (i : ℕ) (old new : List Part) → length files ≤ i
      → AddsSome (AreCertificates strict 0 (take i files)) old new → AddsSome (AreCertificates strict 0 files) old new
  certificates_added i old new high all =
      subst (λ (l : List FileFields). AddsSome (AreCertificates strict 0 l) old new) (take_all i files high) all
