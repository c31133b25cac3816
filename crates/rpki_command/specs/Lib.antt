-- The definitions that the contracts of the command cite.
pub mod AboutTexts
pub mod ReadFiles
pub mod UnreadFiles
pub mod NamedFiles
pub mod Messages
pub mod Failures
pub mod ListedFolders
pub mod Moments
pub mod Outputs
pub mod PemTexts
pub mod RequestRuns
pub mod PassedFiles
pub mod SoughtPaths
pub mod Runs
