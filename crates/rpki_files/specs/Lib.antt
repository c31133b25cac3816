-- The definitions that the contracts of reading files cite.
pub mod PemFiles
pub mod Files
pub mod Contents
pub mod ToBeSigned
pub mod LocatorFiles
pub mod StopPlaces
pub mod NamedFaults
pub mod Misreads
pub mod PolicyPresence
pub mod FaultTable
pub mod FaultRules
pub mod KnownKinds
pub mod PartTexts
pub mod Flaws
pub mod FlawTexts
pub mod FileSorts
pub mod SortTexts
