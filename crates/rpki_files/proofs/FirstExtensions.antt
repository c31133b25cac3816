-- The extension that stands first, and what is true of it.
use Rattle.std.specs.Prelude.{◌↔◌, Bool, false, IsTrue}
use Rattle.std.proofs.Common.{ℕ, List, subst}
use Rattle.std.proofs.lemmas.Bool.{false≢true}
use Rattle.rpki_der.specs.Encoding.{Means}
use Rattle.rpki_der.specs.Extensions.{Extension, IsExtension, extension_format}
use Rattle.rpki_der.proofs.ExtensionReads.{extension_alone}
use Rattle.rpki_der.proofs.FormatAnswers.{alone_means}
use Rattle.rpki_der.proofs.Formats.{one_meant}
use Rattle.rpki_files.specs.Flaws.{extension_of}
use Rattle.rpki_files.specs.NamedFaults.{FirstIs}

-- a test of its identifier and its flag
pub first_is : (Is : List ℕ → Bool → Type 0) (octets id : List ℕ) (critical holds : Bool) →
    (content : List ℕ) × Means IsExtension (extension_of id critical content) octets
    → IsTrue holds ↔ Is id critical → IsTrue holds ↔ FirstIs Is octets
first_is Is octets id critical holds (content, here) says =
    let x : Extension = extension_of id critical content in (
      (λ yes. (x, here, says.0 yes)),
      (λ is. says.1 (subst (λ (y : Extension). Is y.identifier y.critical)
          (one_meant IsExtension (alone_means extension_format extension_alone) is.0 x octets is.1 here) is.2)),
    )

-- none stands first
pub none_is : (Is : List ℕ → Bool → Type 0) (octets : List ℕ) → ((x : Extension) → Means IsExtension x octets → ⊥) →
    IsTrue false ↔ FirstIs Is octets
none_is Is octets none = ((λ no. absurd (false≢true no)), (λ is. absurd (none is.0 is.1)))
