-- Lemmas of the proofs about paths.

-- ---- whole paths
pub mod FoundSteps
pub mod LongerPaths
pub mod ValidPaths
pub mod Rejections
pub mod Routers
pub mod PathSteps
pub mod MoreNumbers
pub mod Headlines
pub mod GivenPaths
pub mod Verdicts
pub mod ChainedNames
pub mod UnchainedNames
mod ListedNumbers
pub mod LocatedPaths
-- ---- who answers for revocation
mod ListOrder
pub mod LatestLists
pub mod AskedNamedList
pub mod AskedList
pub mod SameLists
pub mod AskedAlike
-- ---- issuers that come twice
pub mod AskedByEntity
pub mod CutPaths
pub mod ComparedIssuers
pub mod UnrepeatedPaths
