-- Lemmas of the proofs about verdicts.
mod CountedFiles
mod FiledFiles
mod FilesAbove
mod FilesAt
mod FirstItems
mod FirstOfKeys
mod FoldedItems
mod FoundLocators
mod GivenKinds
mod IsolatedQuestions
mod KeptFirsts
pub mod MappedItems
mod NamedChoice
mod NamedPlaces
mod NamedShown
mod NamedSteps
pub mod OneVerdict
mod OrderedPaths
mod PartByPart
mod PathRanks
mod ReadLists
mod ReachedFiles
mod ReadLocators
mod SearchSteps
mod ShownRanks
mod ToldChoices
mod TreeAnchors
mod UnrevokedFiles
mod WrongFiles
