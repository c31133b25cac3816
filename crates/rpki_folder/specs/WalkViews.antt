-- What contracts see of a walk.
use Rattle.std.specs.Prelude.{ℕ, Bool, List}
use Rattle.rpki_parts.specs.Signatures.{Verifies}
use Rattle.rpki_cert.specs.Verification.{Context, context}
use Rattle.rpki_path.specs.Asking.{RevocationChecks}
use Rattle.rpki_path.specs.AskedLists.{by_named_lists}
use Rattle.rpki_folder.specs.Folders.{FolderFields}
use Rattle.rpki_folder.specs.declared.bounds.Bounds.{Bounds}
use Rattle.rpki_folder.specs.declared.walk.Walk.{Walk}

-- what it judges by: the context and the checks of revocation; its folder, which certificates it
-- admits, whether names are asked, and its limits
pub record WalkFields : Type 1 where
  pub context : Context
  pub asked : RevocationChecks
  pub folder : FolderFields
  pub admits : List ℕ → ℕ → Type 0
  pub names : Bool
  pub bounds : Bounds

-- these of a walk, by what its verifier and its admission state
abbrev pub walk_view : {A V : Type 0} → (V → Verifies) → (A → List ℕ → ℕ → Type 0) → Walk A V
    → WalkFields
walk_view verifies admits w =
    let x = context (verifies w.verifier.now) w.at w.strict in
    record {
      context = x;
      asked = by_named_lists w.names x w.folder.now.lists;
      folder = w.folder.now;
      admits = admits w.admission.now;
      names = w.names;
      bounds = w.bounds;
    }
