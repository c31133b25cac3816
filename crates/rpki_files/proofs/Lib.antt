-- Lemmas of the proofs about files.
mod ContentReads
mod DerTexts
mod FaultTables
mod FirstExtensions
mod FirstInside
mod FirstTrue
mod FlawReads
mod FoundFlaws
pub mod FoundOctets
pub mod FoundPolicies
pub mod KeptFaults
pub mod NothingRead
mod NumberedTimes
mod PemLines
mod KindsSeen
mod StopWalks
mod StopsWithin
mod TaggedExtensions
mod ToldPlaces
mod Turns
mod TwoAlgorithms
