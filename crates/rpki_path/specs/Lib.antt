-- The definitions that the contracts of paths cite.

-- ---- whole paths
pub mod FaultNames
pub mod Paths
pub mod Routers
pub mod GivenPaths
pub mod Judging
pub mod NameChains
pub mod LocatedPaths
-- ---- who answers for revocation
pub mod Asking
pub mod AskedLists
-- ---- one certificate after the other
pub mod Validators
-- ---- issuers that come twice
pub mod Repeats
