pub mod RelatedLists
pub mod LookedAlike
pub mod Carried
mod ChosenAnchors
pub mod FolderPaths
pub mod AlikeFaults
pub mod IsolatedShares
pub mod IsolatedWalks
pub mod FirstPlaces
pub mod IsolatedAnchors
pub mod AddedFiles
