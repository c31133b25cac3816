pub mod Texts
pub mod Lengths
pub mod PartFormats
pub mod NameReads
pub mod DeeperNames
pub mod NameForms
pub mod NameTexts
pub mod NameValues
pub mod Slashes
pub mod DotSegments
mod Enclosed
pub mod UriTests
pub mod UriParents
pub mod UriEquivalences
pub mod SignedFormats
pub mod KeyNames
