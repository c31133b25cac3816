-- What is asked of files: the path that they are, and the lists that are given (own).
use Rattle.std.specs.Prelude.{◌≡◌, ◌⊎◌, ℕ, List, [], ◌∷◌, Bool, true, slice_get, Option, Some, None}
use Rattle.rpki_der.specs.Times.{Moment}
use Rattle.rpki_cert.specs.declared.inspect.Kind.{Kind}
use Rattle.rpki_cert.specs.declared.inspect.Kind.TheVariants.{Authority}
use Rattle.rpki_cert.specs.SaidKinds.{BeginsWithKind}
use Rattle.rpki_crl.specs.Lists.{CrlState, IsCertificateList}
use Rattle.rpki_folder.specs.Folders.{BeginsNoCertificate}
use Rattle.rpki_path.specs.GivenPaths.{PathStrings, anchor_alone, HasLast}
use Rattle.rpki_path.specs.LocatedPaths.{IsLocatorOf}
use Rattle.rpki_files.specs.Contents.{IsList}
use Rattle.rpki_files.specs.Files.{FileFields, contents}
use Rattle.rpki_verdicts.specs.GivenLocators.{LocatorFields, IsFirstThat, locator_octets}

-- what is asked: the files of the path, those given as lists and as locators, whether names have to
-- chain, whether they are read strictly, and the moment
pub record QuestionFields : Type 0 where
  pub members : List FileFields
  pub lists : List FileFields
  pub locators : List LocatorFields
  pub names : Bool
  pub strict : Bool
  pub at : Moment

-- what is asked of a path beside its validity: that the trust anchor is that of one of these files,
-- which are given as locators, if there are some, and whether names have to chain
pub record Demands : Type 0 where
  pub locators : List (List ℕ)
  pub names : Bool

-- by the question
abbrev pub demands_of : QuestionFields → Demands
demands_of question = record { locators = locator_octets question.locators; names = question.names }

-- the first of the locators that is the trust anchor's stands at this place; or none is
abbrev pub IsPlaceOfLocator : QuestionFields → Option ℕ → Type 0
IsPlaceOfLocator question o =
    (anchor : List ℕ) (more : List (List ℕ)) → contents question.members ≡ anchor ∷ more
    → IsFirstThat (IsLocatorOf question.strict anchor) (locator_octets question.locators) o

-- the locator at a place
abbrev pub locator_at : List LocatorFields → Option ℕ → Option LocatorFields
locator_at locators None = None
locator_at locators (Some place) = slice_get locators place

-- the first of the locators that is the trust anchor's, if one is
abbrev pub IsAnchorLocator : QuestionFields → Option LocatorFields → Type 0
IsAnchorLocator question found =
    (o : Option ℕ) × IsPlaceOfLocator question o × (found ≡ locator_at question.locators o)

-- as what the last file is judged: as what its certificate says that it is, and as a CA where it
-- begins with none
abbrev pub IsJudgedAs : Kind → List ℕ → Type 0
IsJudgedAs kind octets =
    BeginsWithKind kind octets ⊎ ((kind ≡ Authority) × BeginsNoCertificate octets)

-- the files are a path with a last one below the trust anchor, which is judged as it says
pub record HasJudgedLast (files : List (List ℕ)) (g : PathStrings) : Type 0 where
  pub kind : Kind
  pub split : HasLast files kind g
  pub kind_is : IsJudgedAs kind split.octets

-- the path that these files are, from the trust anchor's down: that one alone, or with those below
-- it
abbrev pub IsGivenBy : List (List ℕ) → PathStrings → Type 0
IsGivenBy files g =
    ((anchor : List ℕ) × (files ≡ anchor ∷ []) × (g ≡ anchor_alone anchor))
    ⊎ HasJudgedLast files g

-- the lists that those files are which are one, as they were read, with a table of their serials
abbrev pub AreListsOf : List (List ℕ) → List CrlState → Type 0
AreListsOf [] lists = lists ≡ []
AreListsOf (octets ∷ files) lists =
    ((IsList octets → ⊥) × AreListsOf files lists)
    ⊎ ((l : CrlState) × (rest : List CrlState) × IsCertificateList l.list octets
    × (l.is_cached ≡ true) × AreListsOf files rest × (lists ≡ l ∷ rest))
