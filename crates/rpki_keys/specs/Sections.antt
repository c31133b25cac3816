-- The sections of a locator as lines. Serves between functions of this crate alone.
use Rattle.std.specs.List.{AllByRecursion}
use Rattle.std.specs.Prelude.{◌≡◌, ◌≢◌, ℕ, List, [], ◌∷◌, ◌++◌}
use Rattle.rpki_keys.specs.Locators.{IsComment, IsTalUri}
use Rattle.rpki_keys.specs.declared.tal.tal_error.TalError.{TalError}
use Rattle.rpki_keys.specs.declared.tal.tal_error.TalError.TheVariants.{BadUri, NoUri, NoKey, Memory}

-- the lines begin with comments, and these follow
pub record FollowComments (all behind : List (List ℕ)) : Type 0 where
  pub comments : List (List ℕ)
  pub comments_are : AllByRecursion IsComment comments
  pub lines_are : all ≡ comments ++ behind

-- there is no first line, or it isn't of this kind
abbrev pub BeginWithNo : (List ℕ → Type 0) → List (List ℕ) → Type 0
BeginWithNo IsKind [] = Unit {0}
BeginWithNo IsKind (line ∷ more) = ¬ IsKind line

-- the lines begin with these URIs, and this rest follows
pub record FollowUris (all uris rest : List (List ℕ)) : Type 0 where
  pub uris_are : AllByRecursion IsTalUri uris
  pub lines_are : all ≡ uris ++ rest

-- a line of the URI section is neither a URI nor empty
pub record StopAtLine (all : List (List ℕ)) : Type 0 where
  pub uris : List (List ℕ)
  pub line : List ℕ
  pub more : List (List ℕ)
  pub follow : FollowUris all uris (line ∷ more)
  pub some : line ≢ []
  pub no_uri : ¬ IsTalUri line

-- why these lines don't begin with a URI section
abbrev pub StopUris : TalError → List (List ℕ) → Type 0
StopUris BadUri all = StopAtLine all
StopUris NoUri all = (more : List (List ℕ)) × (all ≡ [] ∷ more)
StopUris NoKey all = AllByRecursion IsTalUri all
StopUris Memory all = Unit {0}
StopUris _ all = ⊥
