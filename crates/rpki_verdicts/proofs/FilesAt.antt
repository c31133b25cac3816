-- The file at a place.
use Rattle.std.specs.Option.{option_map}
use Rattle.std.specs.Prelude.{Some, slice_get}
use Rattle.std.proofs.Common.{◌≡◌, ◌<◌, ℕ, zero, suc, List, [], ◌∷◌, length, map, refl, ap, ◌∙◌, arith}
use Rattle.std.proofs.lemmas.Option.{get_or_from_slice_get, slice_get-map}
use Rattle.rpki_folder.specs.Folders.{string_at}
use Rattle.rpki_cert.specs.declared.saying.Said.{Said}
use Rattle.rpki_files.specs.Contents.{BeginsWithCertificate, IsFront}
use Rattle.rpki_files.specs.Files.{FileFields, contents}
use Rattle.rpki_files.specs.declared.bare.Front.{Front}
use Rattle.rpki_files.specs.declared.bare.Front.TheVariants.{Certificate, List as List_front, Neither}

-- by the reference there
pub mapped_at : {R : Type 0} (now : R → FileFields) (xs : List R) (k : ℕ) (x : R) → slice_get xs k ≡ Some x →
    slice_get (map now xs) k ≡ Some (now x)
mapped_at now xs k x is = slice_get-map now xs k ∙ ap (option_map now) is

-- its octets
pub octets_there : (certs : List FileFields) (place : ℕ) (file : FileFields) → slice_get certs place ≡ Some file →
    string_at (contents certs) place ≡ file.octets
octets_there certs place file is = get_or_from_slice_get (contents certs) place file.octets []
    (slice_get-map (λ (f : FileFields). f.octets) certs place ∙ ap (option_map (λ (f : FileFields). f.octets)) is)

-- there is one, where there is a place
pub file_there : (certs : List FileFields) (place : ℕ) → place < length certs → (file : FileFields) × (slice_get certs place ≡ Some file)
file_there [] place low = absurd (omega (arith, low))
file_there (f ∷ certs) zero low = (f, refl)
file_there (f ∷ certs) (suc place) low = file_there certs place (omega (arith, low))

-- what a file begins with, where that is no certificate
pub begins_none : (octets : List ℕ) (front : Front) → IsFront octets front → ((said : Said) → front ≡ Certificate said → ⊥) →
    BeginsWithCertificate octets → ⊥
begins_none octets (Certificate said) is not begins = not said refl
begins_none octets List_front is not begins = is.1 begins
begins_none octets Neither is not begins = is.0 begins
