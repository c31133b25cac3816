-- The definitions that the contracts of judging files cite.
pub mod GivenLocators
pub mod PathFiles
pub mod Reasons
pub mod PathAnswers
pub mod UnrevokedMembers
pub mod Trees
pub mod Damage
pub mod TreeParts
pub mod Searches
pub mod ShownPaths
pub mod ShownTrees
pub mod UnseenCertificates
pub mod IsolatedTrees
pub mod NamedPaths
